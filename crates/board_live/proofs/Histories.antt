-- Histories that go on, and their map writes.
use Rattle.std.proofs.Common.{◌≡◌, ℕ, suc, ◌-◌, ◌≤◌, ◌==◌, Bool, List, [], ◌∷◌, ◌++◌, length, filter, refl, sym, ap}
use Rattle.std.proofs.Common.{◌∙◌, append_assoc, append-nil, arith, reverse, length-append}
use Rattle.board_prelude.proofs.{option_to_list, reverse-append, filter-append, Entry, MapChange, Setup, entries_by}
use Rattle.board_prelude.proofs.{map_change_of, map_writes_of, nat_tests, Event, Reply, next_entry, version_of}
use mathlib.Core.List.{IsPrefix}
use Rattle.map_publish.specs.declared.mark.Mark.{Mark}
use Rattle.map_publish.specs.Lists.{changes_of, opened_of, version_after}
use Rattle.map_publish.proofs.Changes.{changes_extend}
use Rattle.bus_turn.specs.Views.{own_by}
use Rattle.board_live.specs.Known.{Extends, oldest, known_after, ArePublished}
use Rattle.board_core.specs.Kept.{Standing}

-- ---- lists that go on

pub extends_trans : {E : Type 0} (xs ys zs : List E) → Extends xs ys → Extends ys zs → Extends xs zs
extends_trans xs ys zs (a, is) (b, is') = (b ++ a, grind (arith, is, is', append_assoc))

-- the oldest first, and the newest first
pub extends_prefix : {E : Type 0} (xs ys : List E) → IsPrefix xs ys → Extends (reverse xs) (reverse ys)
extends_prefix xs ys (rest, is) = (reverse rest, grind (arith, is, reverse-append xs rest))

-- ---- the entries of a caller

pub entries_reversed : (actor : ℕ) (entries : List Entry) →
    entries_by actor (reverse entries) ≡ reverse (own_by (λ (e : Entry). e.actor) actor entries)
entries_reversed actor [] = refl
entries_reversed actor (entry ∷ later) =
    let test : Entry → Bool = λ e. e.actor == actor in let whole = reverse-append (entry ∷ []) in
    let split = filter-append test (reverse later) (entry ∷ []) in
    grind (arith, nat_tests, whole later, split, whole (filter test later), append-nil, entries_reversed actor later)

-- ---- what was opened

pub oldest_whole : (history : List Entry) → oldest (length history) history ≡ history
oldest_whole history = let none : length history - length history ≡ 0 = omega arith in rw none refl

pub oldest_added : (count : ℕ) (entry : Entry) (history : List Entry) → count ≤ length history →
    oldest count (entry ∷ history) ≡ oldest count history
oldest_added count entry history within =
    let one : suc (length history) - count ≡ suc (length history - count) = omega arith in rw one refl

-- ---- map writes

-- there are no more map writes than entries
pub writes_few : (setup : Setup) (history : List Entry) → length (map_writes_of setup history) ≤ length history
unfolding map_writes_of
writes_few setup [] = omega arith
writes_few setup (entry ∷ before) = grind (arith, nat_tests, writes_few setup before)

-- a history that goes on has more map writes
pub writes_extend : (setup : Setup) (shorter longer : List Entry) → Extends shorter longer →
    Extends (map_writes_of setup shorter) (map_writes_of setup longer)
unfolding map_writes_of
writes_extend setup shorter longer (more, is) = rw is (after more)
  where
    after : (more : List Entry) → Extends (map_writes_of setup shorter) (map_writes_of setup (more ++ shorter))
    after [] = ([], refl)
    after (entry ∷ more) =
        let change = option_to_list (map_change_of setup (more ++ shorter) entry.event) in
        let before = after more in (
          change ++ before.0,
          ap (λ (w : List MapChange). change ++ w) before.1
              ∙ sym (append_assoc change before.0 (map_writes_of setup shorter)),
        )

-- what is known of a published list grows with the list
pub known_extend : (setup : Setup) (opened : List Entry) (log later : List Mark) → IsPrefix log later →
    Extends (known_after setup opened log) (known_after setup opened later)
known_extend setup opened log later prefix =
    let more = changes_extend log later prefix in grind (arith, more, append_assoc more.0 (changes_of log))

-- ---- what is published, when an entry is added

pub published_added : (setup : Setup) (opened : ℕ) (history : List Entry) (entry : Entry) (log later : List Mark) →
    opened ≤ length history → ArePublished setup opened history log →
    changes_of later ≡ option_to_list (map_change_of setup history entry.event) ++ changes_of log →
    ArePublished setup opened (entry ∷ history) later
unfolding map_writes_of
published_added setup opened history entry log later within before changes =
    grind (arith, changes, oldest_added opened entry history within, before, append_assoc)

-- the version that is published is that of the history
pub published_version :
    (setup : Setup) (opened : ℕ) (history : List Entry) (log : List Mark) → ArePublished setup opened history log →
    (opened_of log).version ≡ version_of setup (oldest opened history) → version_after log ≡ version_of setup history
published_version setup opened history log published version = grind (arith, length-append, published, version)

-- ---- the board that is stepped

-- a board after room was made, and then after an event that added an entry
pub record IsStepped (board reserved now : Standing) (entry : Entry) : Type 0 where
  pub reserved_setup : reserved.setup ≡ board.setup
  pub reserved_entries : reserved.entries ≡ board.entries
  pub setup : now.setup ≡ board.setup
  pub entries : now.entries ≡ entry ∷ board.entries

pub is_stepped :
    {board lent reserved again now : Standing} (room : ℕ) {spare number : ℕ} {event : Event} {reply : Reply} →
    lent ≡ board → reserved ≡ record lent { spare = room } → again ≡ reserved →
    now ≡ record again { entries = next_entry again.entries number event reply ∷ again.entries; spare = spare } →
    IsStepped board reserved now (next_entry board.entries number event reply)
is_stepped room is made same done = grind (arith, nat_tests)
