-- A wide access is cut into aligned accesses, which the board answers one by one.
use Rattle.std.specs.Prelude.{ℕ, zero, suc, ◌+◌, ◌-◌, ◌*◌, ◌/◌, ◌%◌, ◌^◌, ◌==◌, ◌&&◌, nat_le, if◌then◌else◌, List, []}
use Rattle.std.specs.Prelude.{◌∷◌}
use Rattle.board_base.specs.declared.access.Width.{Width}
use Rattle.board_base.specs.declared.access.Width.TheVariants.{One, Two, Four}
use Rattle.board_base.specs.declared.access.WideAccess.{WideAccess}
use Rattle.board_base.specs.Access.{bytes_of}
use Rattle.board_base.specs.declared.access.Access.{Access}
use Rattle.board_spec.specs.declared.event.Part.{Part}
use Rattle.board_spec.specs.declared.event.Parts.{Parts}
use Rattle.board_spec.specs.declared.event.Parts.TheVariants.{Two as TwoParts, Three as ThreeParts, Four as FourParts}

-- the longest of four, two and one bytes that is aligned at an address and does not pass the end
abbrev pub longest_at : (addr left : ℕ) → Width
longest_at addr left =
    if addr % 4 == 0 && nat_le 4 left then Four else
    if addr % 2 == 0 && nat_le 2 left then Two else One

-- the aligned part of a wide access at an address, with its own bytes of the value
abbrev pub part_at : WideAccess → ℕ → Width → Access
part_at access addr width = record {
  kind = access.kind;
  addr = addr;
  width = width;
  smm = access.smm;
  value = access.value / 256 ^ (addr - access.addr) % 256 ^ bytes_of width;
}

-- the parts of the bytes that are left from an address on, at most this many
unfoldable pub parts_from : WideAccess → (most addr left : ℕ) → List Access
parts_from access zero addr left = []
parts_from access (suc most) addr left =
    if left == 0 then [] else
    let width = longest_at addr left in
    part_at access addr width ∷ parts_from access most (addr + bytes_of width) (left - bytes_of width)

-- the parts of a wide access in rising order: there are never more than four (`law_parts`)
abbrev pub parts_of : WideAccess → List Access
parts_of access = parts_from access 4 access.addr access.bytes

-- the replies to the parts as a list
abbrev pub parts_list : Parts → List Part
parts_list (TwoParts a b) = a ∷ b ∷ []
parts_list (ThreeParts a b c) = a ∷ b ∷ c ∷ []
parts_list (FourParts a b c d) = a ∷ b ∷ c ∷ d ∷ []

-- the number that the values of the parts make, the part at the lowest address in the low bits
abbrev pub joined : (Access → ℕ) → List Access → ℕ
joined value [] = 0
joined value (part ∷ later) = value part + 256 ^ bytes_of part.width * joined value later
