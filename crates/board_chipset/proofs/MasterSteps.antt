-- What a bus master reaches is neither SMRAM nor DRAM in its range.
use Rattle.std.proofs.Common.{◌≡◌, ◌≢◌, ℕ, Bool, true, false, not, ◌&&◌, [], ◌∷◌, Option, is_some, refl, arith}
use Rattle.std.proofs.Common.{unwrap_or, option_map}
use Rattle.board_prelude.proofs.{cases_Bool, and_right, nat_tests, Kind, Area, Smram, Card, Setup, lies_in}
use Rattle.board_prelude.proofs.{upper_memory, Bytes, Window, first_of, line_where, card_area, row_of, is_shadowed}
use Rattle.board_prelude.proofs.{memory_claim, is_smram_range, is_in_hole, is_bios_selected}
use Rattle.board_base.specs.declared.target.Area.TheVariants as areas
use Rattle.addr_decode.specs.Master.{master_area}
use Rattle.board_chipset.specs.Masters.{IsOutsideSmram, master_target}

-- ---- what answers a bus master

-- the lines of the table, where SMRAM is closed
abbrev closed_lines : (shadow dram rom : Bool) (row : ℕ) (claim : Option Window) → Area
closed_lines shadow dram rom row claim =
    first_of
    (line_where shadow (areas.Shadow row) ∷ line_where dram (areas.Dram row) ∷ line_where rom areas.Rom
    ∷ option_map card_area claim ∷ [])
    areas.Abort

of_master : (setup : Setup) (bytes : Bytes) (addr : ℕ) (kind : Kind) →
    master_area setup bytes addr kind ≡ closed_lines (is_some (row_of bytes addr) && is_shadowed bytes addr kind)
    (not (lies_in upper_memory addr) && is_some (row_of bytes addr) && not (is_in_hole bytes addr))
    (is_bios_selected bytes addr) (unwrap_or (row_of bytes addr) 0) (memory_claim setup bytes addr)
unfolding master_area
of_master setup bytes addr kind =
    let closed : (is_smram_range addr && is_some (row_of bytes addr) && false) ≡ false = and_right _ _ refl in
    rw closed refl

-- ---- SMRAM answers nobody

abbrev IsNoSmram : Area → Type 0
IsNoSmram areas.Smram = ⊥
IsNoSmram _ = Unit {0}

closed_smram : {area : Area} (shadow dram rom : Bool) (row : ℕ) (claim : Option Window) →
    area ≡ closed_lines shadow dram rom row claim → IsNoSmram area
closed_smram shadow dram rom row claim is = grind (arith, nat_tests)

pub no_smram : (setup : Setup) (bytes : Bytes) (kind : Kind) (addr : ℕ) → master_target setup bytes kind addr ≢ Smram
no_smram setup bytes kind addr =
    λ is. grind (arith, nat_tests, closed_smram _ _ _ _ _ (of_master setup bytes addr kind))

-- ---- in its range nothing that answers is DRAM

abbrev pub IsOffDram : Area → Type 0
IsOffDram areas.Rom = Unit {0}
IsOffDram (areas.Card dev base) = Unit {0}
IsOffDram areas.Abort = Unit {0}
IsOffDram _ = ⊥

pub off_dram : (setup : Setup) (bytes : Bytes) (addr : ℕ) (kind : Kind) → is_smram_range addr ≡ true →
    IsOffDram (master_area setup bytes addr kind)
off_dram setup bytes addr kind inside = grind (arith, nat_tests, of_master setup bytes addr kind)

pub outside_smram : (setup : Setup) (bytes : Bytes) (kind : Kind) (addr : ℕ) →
    IsOutsideSmram (master_target setup bytes kind addr) addr
outside_smram setup bytes kind addr = λ at is.
    grind (arith, nat_tests, cases_Bool (is_smram_range addr), off_dram setup bytes addr kind)
