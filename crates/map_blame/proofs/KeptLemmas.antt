-- The kept changes as they are found, one after another.
use Rattle.std.proofs.Common.{◌≡◌, ℕ, suc, ◌+◌, ◌-◌, ◌<◌, ◌≤◌, ◌⊎◌, inl, inr, Bool, true, false, ◌||◌, List, [], ◌∷◌}
use Rattle.std.proofs.Common.{◌++◌, length, get_or, reverse, take, refl, sym, ap, ◌∙◌, arith, ◌==◌, Option, Some}
use Rattle.board_prelude.proofs.{AllPairs, cases_Bool, eq-eqb, and_parts, and_from, false≢true, nat_tests}
use Rattle.board_prelude.proofs.{get_or_default, length-reverse, list_any_at, One, Reg, bytes_of, bytes_few, MapChange}
use Rattle.board_prelude.proofs.{Store, Reset, Setup, IsCardList, bridge, covers, is_map_byte, reg_after, or_right}
use Rattle.board_prelude.proofs.{or-false}
use Rattle.std.proofs.lemmas.List.{get_or-reverse}
use Rattle.std.proofs.lemmas.List.Folds.{list_any-append, Any-from_list_any}
use Rattle.std.proofs.lemmas.List.Quantifiers.{all_pairs_push}
use Rattle.addr_decode.proofs.NameLemmas.{offsets}
use Rattle.map_builder.proofs.KeptLemmas.{covered_at}
use Rattle.map_blame.specs.declared.covers.Covers.{Covers}
use Rattle.map_blame.specs.Keep.{last_cover, is_among, IsLastCover, RestsOn, IsKeep}
use Rattle.map_blame.specs.Covers.{AreCoversOf, is_number, is_last_at, is_last_of, is_kept_of}
use Rattle.map_blame.proofs.CoverLemmas.{map_byte_placed, any_at}
use Rattle.map_blame.proofs.KeepLaws.{IsNumber, cover_number, lock_number}

-- ---- the change of a number

-- the change of a number covers a register
abbrev covers_by : MapChange → Reg → Bool
covers_by Reset reg = false
covers_by (Store at width value) reg = covers at width reg

-- the change of a number
abbrev pub change_at : List MapChange → (number : ℕ) → MapChange
change_at changes number = get_or changes (length changes - number) Reset

pub kept_number : (setup : Setup) (changes : List MapChange) (number : ℕ) → RestsOn setup changes number →
    IsNumber changes number
kept_number setup changes number (inl cover) = cover_number changes cover.reg number cover.last
kept_number setup changes number (inr lock) = lock_number changes number lock

change_before : (change : MapChange) (before : List MapChange) (number : ℕ) → number ≤ length before →
    change_at (change ∷ before) number ≡ change_at before number
change_before change before number most =
    let next : length (change ∷ before) - number ≡ suc (length before - number) = omega (arith, most) in rw next refl

cover_covers : (changes : List MapChange) (reg : Reg) (number : ℕ) → last_cover changes reg ≡ Some number →
    covers_by (change_at changes number) reg ≡ true
unfolding last_cover
cover_covers [] reg number is = cc
cover_covers (Reset ∷ before) reg number is = cc
cover_covers (Store at width value ∷ before) reg number is = elim (cases_Bool (covers at width reg)) [
  | inl covered ↦
      let last : length before + 1 ≡ number = grind (arith, nat_tests) in
      let here : length (Store at width value ∷ before) - number ≡ 0 = omega (arith, last) in
      rw here covered
  | inr other ↦
      let earlier = rw other at is in
      let found = cover_number before reg number earlier in
      rw (change_before (Store at width value) before number found.most) (cover_covers before reg number earlier)
]

-- what is read past the end of a list of changes
abbrev pub no_change : MapChange
no_change = Store (bridge 0) One 0

-- the change at an index of the list with the oldest first
pub change_is : (changes : List MapChange) (index : ℕ) (change d : MapChange) → index < length changes →
    get_or changes index d ≡ change → change_at (reverse changes) (index + 1) ≡ change
change_is changes index change d within is =
    let count = length-reverse changes in
    let reversed = get_or-reverse changes (length changes - (index + 1)) Reset in
    grind (arith, nat_tests, count, reversed, get_or_default)

-- ---- whether a change is kept

is_number_true : (number : ℕ) (found : Option ℕ) → is_number number found ≡ true → found ≡ Some number
is_number_true number found is = grind (arith, nat_tests)

module _ (setup : Setup) (changes : List MapChange) (covers : Covers) (cards : IsCardList setup.cards)
    (are : AreCoversOf changes covers) where
  last_found : (number : ℕ) (reg : Reg) → is_last_at setup covers number reg ≡ true → IsLastCover setup changes number
  last_found number reg is = grind (arith, nat_tests, and_parts, map_byte_placed, is_number_true)

  last_change_found : (number : ℕ) (change : MapChange) → is_last_of setup covers number change ≡ true →
      IsLastCover setup changes number
  last_change_found number Reset is = absurd (false≢true is)
  last_change_found number (Store at width value) is =
      let found = Any-from_list_any (λ k. is_last_at setup covers number (reg_after at k))
      (take (bytes_of width) offsets) is in
      last_found number (reg_after at found.1) found.4

  last_change_is : (number : ℕ) (change : MapChange) (reg : Reg) → covers_by change reg ≡ true →
      is_last_at setup covers number reg ≡ true → is_last_of setup covers number change ≡ true
  last_change_is number Reset reg covered is = absurd (false≢true covered)
  last_change_is number (Store at width value) reg covered is =
      let place = covered_at at width reg covered in
      any_at (λ k. is_last_at setup covers number (reg_after at k)) (bytes_of width) place.0 (bytes_few width) place.1
      (ap (is_last_at setup covers number) place.2 ∙ is)

  pub kept_found : (number : ℕ) (change : MapChange) → is_kept_of setup covers number change ≡ true →
      RestsOn setup changes number
  kept_found number change is = elim (cases_Bool (is_number number covers.lock)) [
    | inl lock ↦ inr (sym are.lock ∙ is_number_true number covers.lock lock)
    | inr other ↦ inl (last_change_found number change (rw other at is))
  ]

  pub kept_is : (number : ℕ) (change : MapChange) → change_at changes number ≡ change → RestsOn setup changes number →
      is_kept_of setup covers number change ≡ true
  kept_is number change here (inr lock) =
      let first : is_number number covers.lock ≡ true = rw (are.lock ∙ lock) (eq-eqb number number refl) in
      rw first refl
  kept_is number change here (inl cover) =
      or_right (is_number number covers.lock) _
      (last_change_is number change cover.reg (rw (← here) (cover_covers changes cover.reg number cover.last))
      (and_from (is_map_byte setup cover.reg) _ cover.map_byte
      (rw (are.last cover.reg (map_byte_placed setup cover.reg cards cover.map_byte) ∙ cover.last)
      (eq-eqb number number refl))))

-- ---- the numbers that were found among the first changes, so many

-- they are the kept ones, and rise up to that many
pub record AreKept (setup : Setup) (changes : List MapChange) (count : ℕ) (keep : List ℕ) : Type 0 where
  pub rises : AllPairs (λ one later. one < later) keep
  pub most : (number : ℕ) → is_among number keep ≡ true → number ≤ count
  pub only : (number : ℕ) → is_among number keep ≡ true → RestsOn setup changes number
  pub each : (number : ℕ) → number ≤ count → RestsOn setup changes number → is_among number keep ≡ true

among_pushed : (number next : ℕ) (keep : List ℕ) →
    is_among number (keep ++ next ∷ []) ≡ (is_among number keep || next == number)
among_pushed number next keep =
    list_any-append (λ other. other == number) keep (next ∷ [])
    ∙ ap (λ b. is_among number keep || b) (or-false (next == number))

among_either : (number next : ℕ) (keep : List ℕ) → is_among number (keep ++ next ∷ []) ≡ true →
    (is_among number keep ≡ true) ⊎ (next ≡ number)
among_either number next keep is = grind (arith, nat_tests, among_pushed)

pub kept_on : (setup : Setup) (changes : List MapChange) (count : ℕ) (keep : List ℕ) →
    (RestsOn setup changes (count + 1) → ⊥) → AreKept setup changes count keep → AreKept setup changes (count + 1) keep
kept_on setup changes count keep other are = grind (arith, nat_tests)

pub kept_pushed : (setup : Setup) (changes : List MapChange) (count : ℕ) (keep : List ℕ) →
    RestsOn setup changes (count + 1) →
    AreKept setup changes count keep → AreKept setup changes (count + 1) (keep ++ (count + 1) ∷ [])
kept_pushed setup changes count keep kept are = record {
  rises = all_pairs_push (λ one later. one < later) keep (count + 1) are.rises
      (λ k d below.
      let among = list_any_at (λ other. other == get_or keep k d) keep k d below (eq-eqb _ _ refl) in
      omega (arith, are.most (get_or keep k d) among));
  most = λ number among.
      let either = among_either number (count + 1) keep among in
      let most = are.most number in
      grind (arith, either, most);
  only = λ number among.
      let either = among_either number (count + 1) keep among in
      let only = are.only number in
      grind (arith, either, only);
  each = λ number most is.
      let pushed = among_pushed number (count + 1) keep in
      let each = are.each number in
      grind (arith, nat_tests, pushed, each);
}

pub all_kept : (setup : Setup) (changes : List MapChange) (keep : List ℕ) →
    AreKept setup changes (length changes) keep → IsKeep setup changes keep
all_kept setup changes keep are = grind (arith, nat_tests, kept_number, are.each, are.only)

pub none_kept : (setup : Setup) (changes : List MapChange) → AreKept setup changes 0 []
none_kept setup changes = record {
  rises = λ i j d order below. absurd (omega (arith, below));
  most = λ number among. absurd (false≢true among);
  only = λ number among. absurd (false≢true among);
  each = λ number most kept. absurd (omega (arith, most, (kept_number setup changes number kept).after));
}
