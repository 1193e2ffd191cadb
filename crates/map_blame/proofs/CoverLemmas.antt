-- The last covers of a store, register by register.
use Rattle.std.proofs.Common.{◌≡◌, ℕ, zero, suc, ◌+◌, ◌<◌, ◌≤◌, Bool, true, false, ◌&&◌, List, [], ◌∷◌, length, take}
use Rattle.std.proofs.Common.{refl, arith, ◌==◌, nat_le, nat_lt, Option, Some, None, is_some, find, slice_index_or}
use Rattle.std.proofs.Common.{replicate, if◌then◌else◌}
use Rattle.board_prelude.proofs.{option_or, AllByRecursion, list_any, false≢true, or-false, nat_tests, get_or-take}
use Rattle.board_prelude.proofs.{length-take, recursion_from_All, list_any_at, Width, One, Reg, MapChange, Store, Reset}
use Rattle.board_prelude.proofs.{FittedCard, Setup, IsCard, IsCardList, card_at, covers, has_rom, is_map_byte}
use Rattle.board_prelude.proofs.{touches_map}
use Rattle.std.specs.Bool.{then_some}
use Rattle.std.proofs.lemmas.List.Folds.{list_any_more}
use Rattle.addr_decode.proofs.NameLemmas.{offsets, offset_at}
use Rattle.map_blame.specs.declared.covers.Covers.{Covers}
use Rattle.map_blame.specs.Keep.{last_cover, first_lock, locks}
use Rattle.map_blame.specs.Covers.{AreCoversOf, is_placed, number_at}

-- the first bytes of a store, so many, cover a register
abbrev pub covers_first : (at : Reg) (count : ℕ) (reg : Reg) → Bool
covers_first at count reg =
    at.dev == reg.dev && at.fun == reg.fun && nat_le at.off reg.off && nat_lt reg.off (at.off + count)

-- ---- of no changes

none_at : (count place : ℕ) → slice_index_or (replicate {A = Option ℕ} count None) place None ≡ None
none_at zero place = refl
none_at (suc count) place = grind (arith, nat_tests, none_at count)

pub covers_of_none : (count : ℕ) → AreCoversOf [] (record { last = replicate count None; lock = None })
unfolding last_cover first_lock
covers_of_none count = grind (arith, nat_tests, none_at count)

-- ---- of one change more

pub covers_of_reset : (changes : List MapChange) (covers : Covers) → AreCoversOf [] covers →
    AreCoversOf (Reset ∷ changes) covers
unfolding last_cover first_lock
covers_of_reset changes covers none = record { last = none.last; lock = none.lock }

pub covers_of_store : (at : Reg) (width : Width) (value number : ℕ) (changes : List MapChange) (old new : Covers) →
    number ≡ length changes + 1 → AreCoversOf changes old →
    ((other : Reg) → is_placed other ≡ true →
    number_at new.last other ≡ (if covers at width other then Some number else number_at old.last other)) →
    new.lock ≡ option_or old.lock (then_some (locks (Store at width value)) number) →
    AreCoversOf (Store at width value ∷ changes) new
unfolding last_cover first_lock
covers_of_store at width value number changes old new is are last lock = grind (arith, nat_tests)

-- ---- the registers that the map depends on have a place

found_below : (cards : List FittedCard) (dev : ℕ) → AllByRecursion IsCard cards →
    is_some (find (λ card. card.dev == dev) cards) ≡ true → dev < 10
found_below [] dev each is = absurd (false≢true is)
found_below (card ∷ later) dev each is = grind (arith, nat_tests, found_below later dev each.1, each.0.last)

rom_fitted : (card : Option FittedCard) → has_rom card ≡ true → is_some card ≡ true
rom_fitted card is = grind (arith, nat_tests)

pub map_byte_placed : (setup : Setup) (reg : Reg) → IsCardList setup.cards → is_map_byte setup reg ≡ true →
    is_placed reg ≡ true
map_byte_placed setup reg cards is =
    let fitted = found_below setup.cards reg.dev (recursion_from_All IsCard setup.cards cards.each) in
    grind (arith, nat_tests, fitted, rom_fitted (card_at setup reg.dev))

-- ---- the bytes of a store

pub touches_one : (setup : Setup) (reg : Reg) → touches_map setup (Store reg One 0) ≡ is_map_byte setup reg
touches_one setup reg = let same : reg.off + 0 ≡ reg.off = omega arith in rw same (or-false (is_map_byte setup reg))

pub any_next : (test : ℕ → Bool) (k : ℕ) → k < 4 → list_any test (take k offsets) ≡ false → test k ≡ false →
    list_any test (take (k + 1) offsets) ≡ false
any_next test k below none other = rw (list_any_more test offsets k 0 below, none, offset_at k below, other) refl

pub any_at : (test : ℕ → Bool) (count k : ℕ) → count ≤ 4 → k < count → test k ≡ true →
    list_any test (take count offsets) ≡ true
any_at test count k few below is =
    list_any_at test (take count offsets) k 0 (omega (arith, below, few, length-take count offsets))
    (rw (get_or-take count offsets k 0 below, offset_at k (omega (arith, few, below))) is)
