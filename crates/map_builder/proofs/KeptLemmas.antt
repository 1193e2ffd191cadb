-- The areas of an address are the same before and after a change that moves nothing round it.
use Rattle.board_prelude.proofs.{common_steps, cases_Bool, ne_eqb, nat_tests, Kind, Reg, Setup, IsCardList, is_within}
use Rattle.board_prelude.proofs.{Bytes, top_of, row_of, is_in, hole_of, is_shadow_range, is_shadowed, is_smram_range}
use Rattle.board_prelude.proofs.{is_rom_selected, pam_register, area_of, bridge, isa, card_register, six_areas}
use Rattle.board_prelude.proofs.{each_below, recursion_from_All, Width, bytes_of, MapChange, Store, Reset, byte}
use Rattle.board_prelude.proofs.{host_bridge, reset_byte, writable_bits, covers, reg_after, address_count, merged-all}
use Rattle.board_prelude.proofs.{One, FittedCard}
use Rattle.std.proofs.Common.{◌≡◌, ℕ, ◌+◌, ◌-◌, ◌/◌, ◌<◌, ◌≤◌, ◌⊎◌, inl, inr, Bool, true, false, [], ◌∷◌, None, refl}
use Rattle.std.proofs.Common.{sym, ◌∙◌, arith, ◌==◌, ◌&&◌, nat_le, nat_lt, if◌then◌else◌, find, List, zero, suc, map}
use Rattle.std.proofs.Common.{slice_index, rules, length, get_or, take, flat_map, Option, IfSome}
use Rattle.addr_decode.specs.MapRegister.{map_register, names_of}
use Rattle.map_builder.specs.Changed.{from_to, windows_of, windows_covered, after, changed_windows}
use Rattle.map_builder.proofs.BoundsLemmas.{Outside, outside_bounds, outside_parts}
use Rattle.map_builder.proofs.KeptCards.{Kept, claim_same, each_or}
use Rattle.map_builder.specs.Rows.{is_below}
use Rattle.map_builder.specs.declared.range.Changed.{Changed}
use Rattle.map_builder.specs.Laws.{WindowsHoldChanges, BoundsHoldChanges}
use Rattle.map_builder.specs.Unchanged.{IsHeldAt}
use Rattle.addr_decode.proofs.NameLemmas.{offsets}
use Rattle.addr_decode.proofs.StoreLemmas.{same_register}
use Rattle.addr_decode.specs.declared.register.MapRegister.{MapRegister}

-- ---- the windows of PAM

in_pam_window : (setup : Setup) (bytes : Bytes) (addr : ℕ) → is_shadow_range addr ≡ true →
    Outside addr (windows_of setup bytes (pam_register addr)) → ⊥
unfolding map_register
in_pam_window setup bytes addr shadow out =
    elim (cases_Bool (nat_le 0xF_0000 addr)) [
      | inl high ↦ let here = rw high at out in grind (arith, nat_tests)
      | inr low ↦
          let within : is_within 0x59 0x5F (0x5A + (addr - 0xC_0000) / 0x8000) ≡ true = grind (arith, nat_tests) in
          let here = rw (low, within) at out in grind (arith, nat_tests)
    ]

-- ---- rows of DRAM

pub row_window : (setup : Setup) (bytes : Bytes) (row : ℕ) → row < 8 →
    windows_of setup bytes (bridge (0x60 + row)) ≡ from_to 0 0x7F7F_FFFF ∷ []
unfolding map_register
row_window setup bytes row below = grind (arith, nat_tests)

no_row : (bytes : Bytes) (addr : ℕ) → top_of bytes ≤ 0x7F80_0000 → 0x7F80_0000 ≤ addr → row_of bytes addr ≡ None
unfolding row_of
no_row bytes addr top high = let past : nat_lt addr (top_of bytes) ≡ false = grind (arith, nat_tests) in rw past refl

-- so many rows, from one on
abbrev pub rows_from : (first count : ℕ) → List ℕ
rows_from first zero = []
rows_from first (suc count) = first ∷ rows_from (first + 1) count

-- the row of an address by the boundaries that are kept
pub row_by : (bytes : Bytes) (kept : List ℕ) (addr : ℕ) →
    ((row : ℕ) → row < 8 → slice_index kept row ≡ bytes (bridge (0x60 + row))) →
    row_of bytes addr ≡ (if is_below kept addr 7 then find (is_below kept addr) (rows_from 0 8) else None)
unfolding row_of
row_by bytes kept addr are = grind (arith, are)

-- where each boundary stays, so does the row of an address
pub row_stays : (bytes new : Bytes) (addr : ℕ) →
    ((row : ℕ) → row < 8 → new (bridge (0x60 + row)) ≡ bytes (bridge (0x60 + row))) →
    row_of new addr ≡ row_of bytes addr
row_stays bytes new addr same =
    let kept : List ℕ = map (λ row. bytes (bridge (0x60 + row))) (rows_from 0 8) in
    let are : (row : ℕ) → row < 8 → slice_index kept row ≡ bytes (bridge (0x60 + row)) =
    λ row below. each_below (λ row. slice_index kept row ≡ bytes (bridge (0x60 + row))) 8 row (search rules) below in
    row_by new kept addr (λ row below. are row below ∙ sym (same row below)) ∙ sym (row_by bytes kept addr are)

module _ (setup : Setup) (bytes new : Bytes) (addr : ℕ) (kept : (reg : Reg) → Kept setup bytes new addr reg) where
  row_kept : (row : ℕ) → row < 8 → (new (bridge (0x60 + row)) ≡ bytes (bridge (0x60 + row))) ⊎ (0x7F80_0000 ≤ addr)
  row_kept row below = grind (arith, nat_tests, common_steps, bridge, row_window)

  pub row_same : top_of bytes ≤ 0x7F80_0000 → top_of new ≤ 0x7F80_0000 → row_of new addr ≡ row_of bytes addr
  row_same top top' = grind (arith, nat_tests, common_steps, each_or, bridge, row_kept, no_row, row_stays)

-- a register is the boundary of a row
abbrev pub is_boundary : Reg → Bool
is_boundary reg = reg.dev == 0 && is_within 0x60 0x67 reg.off

not_of_card : (dev off : ℕ) → 2 ≤ dev → is_boundary (card_register dev off) ≡ false
not_of_card dev off above = let not : (dev == 0) ≡ false = ne_eqb dev 0 (omega arith) in rw not refl

not_of_pam : (addr : ℕ) → is_shadow_range addr ≡ true → is_boundary (pam_register addr) ≡ false
not_of_pam addr shadow = grind (arith, nat_tests)

-- where the row of an address stays, and every other register is kept
module _ (setup : Setup) (bytes new : Bytes) (addr : ℕ) (kept : (reg : Reg) → is_boundary reg ≡ false →
    Kept setup bytes new addr reg)
    (row_same : row_of new addr ≡ row_of bytes addr) where
  hole_same : is_in (hole_of (new (bridge 0x68))) addr ≡ is_in (hole_of (bytes (bridge 0x68))) addr
  unfolding map_register
  hole_same = grind (arith, nat_tests)

  rom_same : is_rom_selected (new (isa 0x4E)) addr ≡ is_rom_selected (bytes (isa 0x4E)) addr
  unfolding map_register
  rom_same = grind (arith, nat_tests)

  smram_same : (new (bridge 0x72) ≡ bytes (bridge 0x72)) ⊎ (is_smram_range addr ≡ false)
  unfolding map_register
  smram_same = grind (arith, nat_tests)

  shadow_same : (kind : Kind) → is_shadowed new addr kind ≡ is_shadowed bytes addr kind
  shadow_same kind =
      let at = kept (pam_register addr) in
      grind (arith, nat_tests, cases_Bool (is_shadow_range addr), at, not_of_pam addr, in_pam_window setup bytes addr)

  module _ (list : IsCardList setup.cards) where
    area_same : (kind : Kind) (smm : Bool) → area_of setup new addr kind smm ≡ area_of setup bytes addr kind smm
    unfolding area_of
    area_same kind smm =
        let claim = claim_same setup bytes new addr
        (λ dev off first. kept (card_register dev off) (not_of_card dev off first)) list in
        grind (arith, nat_tests, smram_same, row_same, shadow_same kind, hole_same, rom_same, claim)

    pub areas_same : six_areas setup new addr ≡ six_areas setup bytes addr
    areas_same = grind (arith, nat_tests, common_steps, area_same)

-- ---- the registers that a store covers

outside_of : (addr : ℕ) (windows : ℕ → List Changed) (width : Width) (k : ℕ) → k < bytes_of width →
    Outside addr (flat_map windows (take (bytes_of width) offsets)) → Outside addr (windows k)
outside_of addr windows width k below out = grind (arith, nat_tests, outside_parts addr)

-- a store that covers a register covers it at one of its bytes
pub covered_at : (at : Reg) (width : Width) (reg : Reg) → covers at width reg ≡ true →
    (k : ℕ) × (k < bytes_of width) × (reg_after at k ≡ reg)
covered_at at width reg is =
    let same = same_register (reg_after at (reg.off - at.off)) reg (grind (arith, nat_tests)) (grind (arith, nat_tests))
    (grind (arith, nat_tests)) in
    (reg.off - at.off, grind (arith, nat_tests), same)

-- each register that a store covers governs windows elsewhere, and the others keep their bytes
store_keeps : (setup : Setup) (bytes : Bytes) (at : Reg) (width : Width) (value addr : ℕ) →
    Outside addr (changed_windows setup bytes (Store at width value)) → (reg : Reg) →
    Kept setup bytes (after setup (Store at width value) bytes) addr reg
unfolding windows_covered
store_keeps setup bytes at width value addr out reg =
    let new : Bytes = after setup (Store at width value) bytes in
    let parts = outside_parts addr (windows_covered setup bytes (Store at width value)) _ out in
    let covered = covered_at at width reg in
    let old = outside_of addr (λ k. windows_of setup bytes (reg_after at k)) width in
    let later = outside_of addr (λ k. windows_of setup new (reg_after at k)) width in
    grind (arith, nat_tests, cases_Bool (covers at width reg), covered, parts.0, parts.1, old, later)

-- ---- the top of DRAM

pub top_after : (setup : Setup) (bytes : Bytes) (change : MapChange) → top_of bytes ≤ 0x7F80_0000 →
    top_of (after setup change bytes) ≤ 0x7F80_0000
unfolding writable_bits host_bridge reset_byte
top_after setup bytes Reset top = omega arith
top_after setup bytes (Store at width value) top =
    grind (arith, nat_tests, common_steps, cases_Bool, covers, bridge, merged-all, byte)

-- outside all changed windows nothing changes
pub changes_keep : (setup : Setup) (bytes : Bytes) (change : MapChange) (addr : ℕ) → IsCardList setup.cards →
    top_of bytes ≤ 0x7F80_0000 → addr < address_count → Outside addr (changed_windows setup bytes change) →
    six_areas setup (after setup change bytes) addr ≡ six_areas setup bytes addr
unfolding windows_covered
changes_keep setup bytes Reset addr list top address out =
    elim out.0 [ inl below ↦ absurd (omega arith) | inr above ↦ absurd (omega arith) ]
changes_keep setup bytes (Store at width value) addr list top address out =
    let new : Bytes = after setup (Store at width value) bytes in
    let kept : (reg : Reg) → Kept setup bytes new addr reg = store_keeps setup bytes at width value addr out in
    areas_same setup bytes new addr (λ reg other. kept reg)
    (row_same setup bytes new addr kept top (top_after setup bytes (Store at width value) top)) list

pub windows_hold_changes : WindowsHoldChanges
windows_hold_changes setup bytes change addr list top address out =
    grind (arith, nat_tests, common_steps, changes_keep, recursion_from_All)

pub bounds_hold_changes : BoundsHoldChanges
bounds_hold_changes setup bytes change addr list top address out =
    changes_keep setup bytes change addr list top address (outside_bounds addr (changed_windows setup bytes change) out)

-- where one byte is stored and the register has the same byte before and after
pub same_bytes : (setup : Setup) (bytes : Bytes) (change : MapChange) (held : ℕ) → IsHeldAt change bytes held →
    IsHeldAt change (after setup change bytes) held → (reg : Reg) → after setup change bytes reg ≡ bytes reg
same_bytes setup bytes (Store at One value) held before later reg =
    grind (arith, nat_tests, cases_Bool (covers at One reg), same_register at reg)
same_bytes setup bytes _ held before later reg = absurd before

-- the byte of the one register that a change names is the byte that it stores to
pub held_alone : (bytes : Bytes) (change : MapChange) (cards : List FittedCard) (names : List (Option MapRegister))
    (found : Option ℕ) → length names ≡ 1 → names ≡ names_of cards change →
    ((reg : Reg) → get_or names 0 None ≡ map_register cards reg → IfSome found (λ held. held ≡ bytes reg)) →
    IfSome found (IsHeldAt change bytes)
held_alone bytes change cards names found one named is = grind (arith, nat_tests)
