-- The parts of a wide access: how they cut it.
use Rattle.std.specs.Prelude.{ℕ, ◌≡◌, ◌+◌, ◌≤◌, List, [], ◌∷◌, length, All}
use Rattle.board_base.specs.declared.access.Access.{Access}
use Rattle.board_base.specs.declared.access.WideAccess.{WideAccess}
use Rattle.board_base.specs.Access.{bytes_of}
use Rattle.board_spec.specs.InRange.{IsBusAccess, IsWideAccess}
use Rattle.board_spec.specs.WideParts.{parts_of, joined}
use Rattle.board_spec.specs.Stored.{is_write}

-- the parts follow one another without gap or overlap, from an address up to another
abbrev pub Covers : (from end : ℕ) → List Access → Type 0
Covers from end [] = from ≡ end
Covers from end (part ∷ later) = (part.addr ≡ from) × Covers (from + bytes_of part.width) end later

-- a part is an access of one, two or four bytes as any other, of the kind of the whole
pub record IsPart (access : WideAccess) (part : Access) : Type 0 where
  pub kind : part.kind ≡ access.kind
  pub smm : part.smm ≡ access.smm
  pub legal : IsBusAccess (is_write part.kind) part.addr part.width part.value

-- two to four parts, which cover the bytes of the whole, and whose values joined are its value
pub record AreParts (access : WideAccess) (parts : List Access) : Type 0 where
  pub least : 2 ≤ length parts
  pub most : length parts ≤ 4
  pub covers : Covers access.addr (access.addr + access.bytes) parts
  pub each : All (IsPart access) parts
  pub value : joined (λ part. part.value) parts ≡ access.value

abbrev pub CutIntoParts : Type 0
CutIntoParts = (access : WideAccess) → IsWideAccess access → AreParts access (parts_of access)
