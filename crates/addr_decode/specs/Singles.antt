-- The registers of one byte each that the address map depends on: one table, in which each stands by its number.
use Rattle.std.specs.Prelude.{◌≡◌, ℕ, ◌+◌, ◌<◌, if◌then◌else◌, List, [], ◌∷◌, length, map, get_or, slice_index, Option}
use Rattle.std.specs.Prelude.{Some, None}
use Rattle.board_spec.specs.declared.range.AddressRange.{AddressRange}
use Rattle.board_prelude.specs.{Reg, Bytes, Denial, Register, is_same, fdhc, smram, xbcs, smram_range, hole_at_512_kib}
use Rattle.board_prelude.specs.{hole_at_15_mib, lower_bios, selectable_bios}

-- a register, and the ranges of addresses whose areas it decides: first and last address
pub record SingleRow : Type 0 where
  pub register : Reg
  pub decides : List (ℕ × ℕ)

abbrev row : Reg → List (ℕ × ℕ) → SingleRow
row register decides = record { register = register; decides = decides }

-- FDHC of the host bridge: the two holes. SMRAM: where it can lie. XBCS of the ISA bridge: the ranges of the ROM that it
-- selects
abbrev pub single_rows : List SingleRow
single_rows =
    row fdhc (hole_at_512_kib ∷ hole_at_15_mib ∷ [])
    ∷ row smram (smram_range ∷ [])
    ∷ row xbcs (lower_bios ∷ selectable_bios ∷ [])
    ∷ []

abbrev pub singles : List Reg
singles = map (λ row. row.register) single_rows

abbrev pub single_count : ℕ
single_count = length singles

-- the register of a number
abbrev pub single : (number : ℕ) → Reg
single number = get_or singles number fdhc

-- the ranges that the register of a number decides
abbrev pub decided : (number : ℕ) → List (ℕ × ℕ)
decided number = get_or (map (λ row. row.decides) single_rows) number []

-- the number of a register in a table that begins with this number
abbrev pub number_from : (first : ℕ) → List Reg → Reg → Option ℕ
number_from first [] reg = None
number_from first (entry ∷ later) reg = if is_same reg entry then Some first else number_from (first + 1) later reg

abbrev pub single_number : Reg → Option ℕ
single_number reg = number_from 0 singles reg

-- what denies an access below the top of DRAM that a hole takes out
abbrev pub hole_denial : Denial
hole_denial = Register fdhc

-- these are their bytes among a board's register bytes
abbrev pub AreSinglesOf : Bytes → List ℕ → Type 0
AreSinglesOf bytes held = (number : ℕ) → number < single_count → slice_index held number ≡ bytes (single number)

-- a range as the code has it
abbrev pub ends_of_range : AddressRange → ℕ × ℕ
ends_of_range range = (range.first, range.last)
