-- What is known of a range that is watched, before and after a change, and of lists of such ranges.
use Rattle.board_prelude.proofs.{nat_tests, take_more, reverse-append, MapChange, Setup, IsCardList, Bytes, top_of}
use Rattle.board_prelude.proofs.{reset_byte, host_bridge, registers_after, MapRange, IsRight, six_areas, get_or_default}
use Rattle.board_prelude.proofs.{get_or-map, length-map, All-nil, All-cons, Tiles, IsFlatMapOf}
use Rattle.std.proofs.Common.{◌≡◌, ℕ, suc, ◌+◌, ◌-◌, ◌<◌, ◌≤◌, ◌⊎◌, Bool, true, false, List, [], ◌∷◌, length, get_or}
use Rattle.std.proofs.Common.{take, reverse, refl, sym, ◌∙◌, arith, set, map, All, get_or-set_same, get_or-set_other}
use Rattle.std.proofs.Common.{ext_get_or}
use Rattle.map_builder.specs.declared.range.Changed.{Changed}
use Rattle.map_builder.specs.declared.range.Range.{Range}
use Rattle.map_builder.specs.Map.{Mapped}
use Rattle.map_builder.specs.Ranges.{range_of}
use Rattle.map_builder.specs.Changed.{changed_windows, bounds_or_zero}
use Rattle.map_builder.specs.Find.{no_range}
use Rattle.addr_decode.specs.MapRegs.{StandsFor}
use Rattle.map_builder.proofs.KeptLemmas.{top_after, bounds_hold_changes}
use Rattle.map_blame.specs.declared.watch.Watched.{Watched}
use Rattle.map_blame.specs.Since.{first_changes, IsRightAfter, StandsFrom, IsSince}
use Rattle.map_blame.specs.Report.{map_range_of, AreBlamed}
use Rattle.map_blame.specs.Watch.{IsInterval, IsWatched, HoldChange, IsWatchedOn, IsWatchable}
use Rattle.std.proofs.lemmas.Simd.{map-map}
use Rattle.std.proofs.lemmas.List.Elements.{All-map}
use Rattle.board_spec.proofs.FlatMapLaws.{tiles_below}
use Rattle.map_blame.specs.declared.blamed.Blamed.{Blamed}

-- ---- the first changes

all_changes : (changes : List MapChange) → first_changes (length changes) changes ≡ changes
all_changes changes = let none : length changes - length changes ≡ 0 = omega arith in rw none refl

earlier_changes : (change : MapChange) (before : List MapChange) (count : ℕ) → count ≤ length before →
    first_changes count (change ∷ before) ≡ first_changes count before
earlier_changes change before count few =
    let next : length (change ∷ before) - count ≡ suc (length before - count) = omega (arith, few) in rw next refl

module _ (setup : Setup) (range : MapRange) where
  -- the range is right after all these changes
  abbrev pub RightNow : List MapChange → Type 0
  RightNow changes = IsRight setup (registers_after setup changes) range

  stands_on : (change : MapChange) (before : List MapChange) (since : ℕ) → since ≤ length before + 1 →
      ((count : ℕ) → since ≤ count → count ≤ length before → IsRightAfter setup before range count) →
      RightNow (change ∷ before) → StandsFrom setup (change ∷ before) range since
  stands_on change before since most earlier now count from few =
      grind (arith, nat_tests, all_changes (change ∷ before), earlier_changes change before count, earlier count)

-- ---- the changes up to an index of a list with the oldest first

pub taken_more : (changes : List MapChange) (index : ℕ) (d : MapChange) → index < length changes →
    reverse (take (index + 1) changes) ≡ get_or changes index d ∷ reverse (take index changes)
taken_more changes index d within =
    rw (take_more changes index d within, reverse-append (take index changes) (get_or changes index d ∷ [])) refl

-- ---- a range of which nothing changes

module _ (setup : Setup) (range : Range) (is : IsInterval range) (bounds : Changed) (change : MapChange)
    (before : List MapChange)
    (hold : HoldChange bounds setup before change) (beside : (range.hi < bounds.lo) ⊎ (bounds.hi < range.lo)) where
  same : (addr : ℕ) → range.lo ≤ addr → addr ≤ range.hi →
      six_areas setup (registers_after setup (change ∷ before)) addr
      ≡ six_areas setup (registers_after setup before) addr
  same addr low high = grind (arith, nat_tests)

  same_after : RightNow setup (range_of range) before → RightNow setup (range_of range) (change ∷ before)
  same_after right = record { at_each = λ addr low high. same addr low high ∙ right.at_each addr low high }

  same_before : RightNow setup (range_of range) (change ∷ before) → RightNow setup (range_of range) before
  same_before right = record { at_each = λ addr low high. sym (same addr low high) ∙ right.at_each addr low high }

-- ---- a range before and after a change

-- it goes on to stand, or does not stand
watched_same : (setup : Setup) (change : MapChange) (before : List MapChange) (self : Watched) (stands : Bool) →
    (stands ≡ true → self.stands ≡ true) →
    (stands ≡ true → RightNow setup (range_of self.blamed.range) (change ∷ before)) →
    (stands ≡ false → RightNow setup (range_of self.blamed.range) (change ∷ before) → ⊥) →
    IsWatched setup before self → IsWatched setup (change ∷ before) (record { blamed = self.blamed; stands = stands })
watched_same setup change before self stands stood right other watched =
    grind (arith, nat_tests, stands_on, earlier_changes, all_changes)

-- by the map after it
module _ (map : Mapped) (bounds : Changed) (number : ℕ) (self : Watched) (is : IsInterval self.blamed.range) where
  pub next_beside : (self.blamed.range.hi < bounds.lo) ⊎ (bounds.hi < self.blamed.range.lo) →
      IsWatchedOn map bounds number self self
  next_beside beside = record {
    range = refl;
    watched = λ setup before change count after hold watched.
        let range : Range = self.blamed.range in
        watched_same _ _ _ _ _ (λ stood. stood) (λ stood. same_after _ _ is _ _ _ hold beside
        (rw (all_changes before) at (watched.standing stood (length before) watched.most (omega arith)))) (λ fell now.
        watched.fallen fell (rw (all_changes before) (same_before _ _ is _ _ _ hold beside now))) watched;
  }

  module _ (stands : Bool)
      (right : stands ≡ true → (setup : Setup) (bytes : Bytes) → StandsFor setup bytes map.regs →
      IsRight setup bytes (range_of self.blamed.range))
      (other : stands ≡ false → (setup : Setup) (bytes : Bytes) → StandsFor setup bytes map.regs →
      IsRight setup bytes (range_of self.blamed.range) → ⊥) where
    -- it stands anew
    pub next_again : stands ≡ true → self.stands ≡ false →
        IsWatchedOn map bounds number self (record {
          blamed = record { range = self.blamed.range; since = number };
          stands = stands;
        })
    next_again stands_now fell = record {
      range = refl;
      watched = λ setup before change count after hold watched.
          let range : MapRange = range_of self.blamed.range in
          let on = stands_on setup range change before number in
          let now = right stands_now setup (registers_after setup (change ∷ before)) after in
          let before_same = earlier_changes change before (length before) in
          grind (arith, nat_tests, on, now, before_same, watched.fallen);
    }

    -- it goes on to stand, or does not stand
    pub next_same : (stands ≡ true → self.stands ≡ true) →
        IsWatchedOn map bounds number self (record { blamed = self.blamed; stands = stands })
    next_same stood = record {
      range = refl;
      watched = λ setup before change count after hold watched.
          watched_same setup change before self stands stood (λ is_true. right is_true setup _ after)
          (λ is_false. other is_false setup _ after) watched;
    }

-- ---- at reset, and at the end

pub watched_at_reset : (setup : Setup) (range : Range) (stands : Bool) →
    (stands ≡ true → RightNow setup (range_of range) []) → (stands ≡ false → RightNow setup (range_of range) [] → ⊥) →
    IsWatched setup [] (record { blamed = record { range = range; since = 0 }; stands = stands })
watched_at_reset setup range stands right other = grind (arith, nat_tests)

pub since_is : (setup : Setup) (changes : List MapChange) (watched : Watched) → IsWatched setup changes watched →
    RightNow setup (map_range_of watched.blamed) changes →
    IsSince setup changes (map_range_of watched.blamed) watched.blamed.since
since_is setup changes watched is right = grind (arith, nat_tests)

-- ---- the bounds of a change

-- a boundary register is a byte, so that DRAM ends at most at 255 times 8 MiB
top_after_changes : (setup : Setup) (changes : List MapChange) → top_of (registers_after setup changes) ≤ 0x7F80_0000
unfolding registers_after reset_byte host_bridge
top_after_changes setup [] = omega arith
top_after_changes setup (change ∷ before) = grind (arith, nat_tests, top_after, top_after_changes setup before)

pub holds_change : (setup : Setup) (before : List MapChange) (change : MapChange) (bounds : Changed) →
    IsCardList setup.cards → bounds ≡ bounds_or_zero (changed_windows setup (registers_after setup before) change) →
    HoldChange bounds setup before change
unfolding registers_after
holds_change setup before change bounds cards is addr address outside =
    bounds_hold_changes setup (registers_after setup before) change addr cards (top_after_changes setup before) address
    (rw is at outside)

-- ---- one element after another becomes another

pub all_set : {X : Type 0} (P : X → X → Type 0) (old now : List X) (index : ℕ) (new d₀ : X) → length now ≡ length old →
    index < length now → ((k : ℕ) (d : X) → k < index → P (get_or old k d) (get_or now k d)) →
    ((k : ℕ) (d : X) → index ≤ k → get_or now k d ≡ get_or old k d) → P (get_or now index d₀) new →
    (k : ℕ) (d : X) → k < index + 1 → P (get_or old k d) (get_or (set now index new) k d)
all_set P old now index new d₀ long within done rest here k d below =
    grind (arith, nat_tests, get_or-set_other, get_or-set_same, get_or_default)

-- ---- ranges of a map

pub are_intervals : (from : ℕ) (ranges : List Range) → Tiles from (map range_of ranges) → All IsInterval ranges
are_intervals from [] tiles = All-nil IsInterval
are_intervals from (range ∷ later) tiles =
    grind (arith, nat_tests, All-cons, tiles_below, are_intervals (range.hi + 1) later)

-- what is read past the end of a list of ranges that are watched
abbrev pub no_watched : Watched
no_watched = record { blamed = record { range = no_range; since = 0 }; stands = false }

abbrev pub watched_range : Watched → Range
watched_range watched = watched.blamed.range

pub are_watchable : (watched : List Watched) (ranges : List Range) → map watched_range watched ≡ ranges →
    All IsInterval ranges → All IsWatchable watched
are_watchable watched ranges same are k d within =
    let range = are k no_range in grind (arith, nat_tests, get_or-map, length-map, range)

-- ---- the ranges at the end

same_ranges : (old new : List Watched) → length new ≡ length old →
    ((k : ℕ) (d : Watched) → k < length old → watched_range (get_or new k d) ≡ watched_range (get_or old k d)) →
    map watched_range new ≡ map watched_range old
same_ranges old new long same =
    ext_get_or no_range (map watched_range new) (map watched_range old)
    (length-map new watched_range ∙ long ∙ sym (length-map old watched_range))
    (λ k within.
    let below : k < length new = omega (arith, within, length-map new watched_range) in
    get_or-map watched_range new k no_watched no_range below
    ∙ same k no_watched (omega (arith, below, long))
    ∙ sym (get_or-map watched_range old k no_watched no_range (omega (arith, below, long))))

module _ (setup : Setup) (changes : List MapChange) (old new : List Watched) (ranges : List Range)
    (begun : map watched_range old ≡ ranges) (long : length new ≡ length old)
    (same : (k : ℕ) (d : Watched) → k < length old → watched_range (get_or new k d) ≡ watched_range (get_or old k d))
    (is_map : IsFlatMapOf setup (registers_after setup changes) (map range_of ranges))
    (watched : All (IsWatched setup changes) new) where
  abbrev blamed : List Blamed
  blamed = map (λ one. one.blamed) new

  all_ranges : map (λ (one : Watched). map_range_of one.blamed) new ≡ map range_of ranges
  all_ranges = rw (← map-map range_of watched_range new, same_ranges old new long same, begun) refl

  pub are_blamed : AreBlamed setup changes blamed
  are_blamed = record {
    map = rw (map-map map_range_of (λ (one : Watched). one.blamed) new, all_ranges) is_map;
    since = All-map (λ (one : Blamed). IsSince setup changes (map_range_of one) one.since)
        (λ (one : Watched). one.blamed) new (λ k d within.
        let whole = rw (← all_ranges) at is_map.right in
        let count = length-map new (λ (one : Watched). map_range_of one.blamed) in
        since_is setup changes (get_or new k d) (watched k d within)
        (rw (get_or-map (λ (one : Watched). map_range_of one.blamed) new k d (map_range_of d.blamed) within)
        at (whole k (map_range_of d.blamed) (omega (arith, count, within)))));
  }
