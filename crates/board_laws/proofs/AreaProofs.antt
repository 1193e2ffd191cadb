-- Who answers at an address of memory: each line of the map, and what follows where the lines before it do not hold.
use Rattle.std.proofs.Common.{◌≡◌, ℕ, zero, suc, ◌+◌, ◌≤◌, ◌<◌, true, Some, is_some, refl, inl, inr, arith, below_more}
use Rattle.std.proofs.Common.{Bool, false, List, [], ◌∷◌, ◌++◌, option_map, ◌∙◌, ap, find, ◌&&◌, not}
use Rattle.board_prelude.proofs.{cases_lt, nat_tests, Bytes, boundary, top_of, row_of, Kind, Setup, Window}
use Rattle.board_prelude.proofs.{memory_claim, area_of, first_of, line_where, card_area, is_bios_selected}
use Rattle.board_prelude.proofs.{is_smram_range, upper_memory, is_smram_open, is_shadowed, lies_in, is_in_hole}
use Rattle.board_prelude.proofs.{find-append}
use Rattle.board_laws.specs.AreaLaws.{IsRow, HasRow, RowBelowTop, IsInSmram, IsInShadow, IsInDram, IsPastDram, claims}
use Rattle.board_laws.specs.AreaLaws.{memory_windows_of, NoneClaims, WhoAnswers}
use Rattle.board_base.specs.declared.target.Area.TheVariants.{Rom, Abort}
use Rattle.std.proofs.lemmas.Bool.{false_from_ne_true}
use Rattle.board_laws.proofs.Searches.{find-none}

-- ---- the row of an address

pub row-is : (bytes : Bytes) (addr row : ℕ) → IsRow bytes addr row → row_of bytes addr ≡ Some row
unfolding row_of
row-is bytes addr row is = grind (arith, nat_tests)

row_above : (bytes : Bytes) (addr row left : ℕ) → addr < top_of bytes → row + left ≡ 7 →
    ((before : ℕ) → before < row → boundary bytes before ≤ addr) → HasRow bytes addr
row_above bytes addr row zero below here before =
    let last : row ≡ 7 = omega arith in
    record { row = row; is = record { below_top = below; last = omega arith; ends = rw last below; first = before } }
row_above bytes addr row (suc left) below here before =
    elim (cases_lt addr (boundary bytes row)) [
      | inl ends ↦
          record { row = row; is = record { below_top = below; last = omega arith; ends = ends; first = before } }
      | inr past ↦ row_above bytes addr (row + 1) left below (omega arith) (below_more _ row before past)
    ]

pub row_below_top : RowBelowTop
row_below_top bytes addr below = row_above bytes addr 0 7 below refl (λ k under. absurd (omega arith))

pub is_some-row : (bytes : Bytes) (addr : ℕ) → is_some (row_of bytes addr) ≡ true → addr < top_of bytes
unfolding row_of
is_some-row bytes addr some = grind (arith, nat_tests)

-- ---- the lines of the map that are of DRAM

abbrev smram_line : Bytes → ℕ → Kind → Bool → Bool
smram_line bytes addr kind smm = is_smram_range addr && is_some (row_of bytes addr) && is_smram_open bytes kind smm

abbrev shadow_line : Bytes → ℕ → Kind → Bool
shadow_line bytes addr kind = is_some (row_of bytes addr) && is_shadowed bytes addr kind

abbrev dram_line : Bytes → ℕ → Bool
dram_line bytes addr = not (lies_in upper_memory addr) && is_some (row_of bytes addr) && not (is_in_hole bytes addr)

module _ (bytes : Bytes) (addr : ℕ) where
  below_some : addr < top_of bytes → is_some (row_of bytes addr) ≡ true
  below_some below = let has = row_below_top bytes addr below in ap is_some (row-is bytes addr has.row has.is)

  -- ---- the lines that hold

  smram_holds : (kind : Kind) (smm : Bool) → IsInSmram bytes addr kind smm → smram_line bytes addr kind smm ≡ true
  smram_holds kind smm is = rw (is.range, below_some is.below_top) is.opened

  shadow_holds : (kind : Kind) → IsInShadow bytes addr kind → shadow_line bytes addr kind ≡ true
  shadow_holds kind is = rw (below_some is.below_top) is.opened

  dram_holds : IsInDram bytes addr → dram_line bytes addr ≡ true
  dram_holds is = rw (is.range, below_some is.below_top, is.outside_hole) refl

  -- ---- the lines that do not

  no_smram_line : (kind : Kind) (smm : Bool) → ¬ IsInSmram bytes addr kind smm → smram_line bytes addr kind smm ≡ false
  no_smram_line kind smm never = grind (arith, nat_tests, false_from_ne_true, is_some-row)

  no_shadow_line : (kind : Kind) → ¬ IsInShadow bytes addr kind → shadow_line bytes addr kind ≡ false
  no_shadow_line kind never = grind (arith, nat_tests, false_from_ne_true, is_some-row)

  no_dram_line : ¬ IsInDram bytes addr → dram_line bytes addr ≡ false
  no_dram_line never = grind (arith, nat_tests, false_from_ne_true, is_some-row)

-- ---- the cards

claim-first : (setup : Setup) (bytes : Bytes) (addr : ℕ) (earlier later : List Window) (window : Window) →
    memory_windows_of setup bytes ≡ earlier ++ window ∷ later → NoneClaims bytes addr earlier →
    claims bytes addr window ≡ true → memory_claim setup bytes addr ≡ Some window
unfolding memory_claim
claim-first setup bytes addr earlier later window are none here =
    let test = claims bytes addr in
    ap (find test) are ∙ rw (find-append test earlier (window ∷ later), find-none test earlier none, here) refl

-- ---- the map

past_dram :
    (setup : Setup) (bytes : Bytes) (addr : ℕ) (kind : Kind) (smm : Bool) → IsPastDram bytes addr kind smm →
    area_of setup bytes addr kind smm
    ≡ first_of
    (line_where (is_bios_selected bytes addr) Rom ∷ option_map card_area (memory_claim setup bytes addr) ∷ []) Abort
unfolding area_of
past_dram setup bytes addr kind smm past =
    rw (
      no_smram_line bytes addr kind smm past.no_smram,
      no_shadow_line bytes addr kind past.no_shadow,
      no_dram_line bytes addr past.no_dram,
    ) refl

pub who_answers : WhoAnswers
unfolding area_of memory_claim
who_answers setup bytes addr kind smm = record {
  in_smram = λ is. rw (smram_holds bytes addr kind smm is) refl;
  in_shadow = λ row here is.
      let opened = is.opened in
      let outside : smram_line bytes addr kind smm ≡ false = grind (arith, nat_tests) in
      rw (outside, shadow_holds bytes addr kind is, row-is bytes addr row here) refl;
  in_dram = λ row here is.
      let range = is.range in
      let outside : smram_line bytes addr kind smm ≡ false = grind (arith, nat_tests) in
      let closed : shadow_line bytes addr kind ≡ false = grind (arith, nat_tests) in
      rw (outside, closed, dram_holds bytes addr is, row-is bytes addr row here) refl;
  in_rom = λ past selected. past_dram setup bytes addr kind smm past ∙ rw selected refl;
  in_card = λ earlier later window past are none here.
      past_dram setup bytes addr kind smm past.past
      ∙ rw (past.no_rom, claim-first setup bytes addr earlier later window are none here) refl;
  nowhere = λ past none.
      past_dram setup bytes addr kind smm past.past ∙ rw (past.no_rom, find-none (claims bytes addr) _ none) refl;
}
