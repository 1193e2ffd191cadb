-- Maps after changes, and the changes of lists.
use Rattle.std.proofs.Common.{◌≡◌, ◌<◌, ◌≤◌, List, [], ◌∷◌, ◌++◌, length, refl, ◌∙◌, arith, length-append, flat_map}
use Rattle.board_prelude.proofs.{flat_map-append, reverse-append, MapChange, Setup, registers_after}
use mathlib.Core.List.{IsPrefix}
use Rattle.map_builder.specs.declared.range.Changed.{Changed as Bounds}
use Rattle.map_builder.specs.Map.{Mapped}
use Rattle.map_builder.specs.Applied.{IsApplied}
use Rattle.map_publish.specs.Changes.{bytes_after, IsMapAfter}
use Rattle.map_publish.specs.Lists.{changes_in, changes_of, opened_of, version_after, IsMapOfLog}
use Rattle.map_publish.specs.declared.mark.Mark.{Mark}
use Rattle.map_publish.specs.declared.mark.Mark.TheVariants.{Changed}

-- ---- maps

pub unchanged : (map : Mapped) → IsMapAfter map [] map
unfolding bytes_after
unchanged map = record { stands = λ setup bytes stands. stands; cards = refl; version = omega arith }

-- the registers after changes that followed others from reset on
pub registers_after_more : (setup : Setup) (changes earlier : List MapChange)
    → bytes_after setup changes (registers_after setup earlier) ≡ registers_after setup (changes ++ earlier)
unfolding bytes_after registers_after
registers_after_more setup [] earlier = refl
registers_after_more setup (change ∷ changes) earlier = rw (registers_after_more setup changes earlier) refl

-- ---- lists

-- a list that goes on has the changes of its beginning, and more
pub changes_extend : (front whole : List Mark) → IsPrefix front whole
    → (more : List MapChange) × (changes_of whole ≡ more ++ changes_of front)
changes_extend front whole (rest, is) =
    let reversed = reverse-append (flat_map changes_in front) (flat_map changes_in rest) in
    (changes_of rest, rw (← is, flat_map-append changes_in front rest) reversed)

pub changes_added : (log : List Mark) (change : MapChange)
    → changes_of (log ++ Changed change ∷ []) ≡ change ∷ changes_of log
changes_added log change =
    rw (flat_map-append changes_in log (Changed change ∷ [])) (reverse-append (flat_map changes_in log) (change ∷ []))

-- a list that goes on was opened with the same map
pub opened_same : (front whole : List Mark) → 0 < length front → IsPrefix front whole
    → opened_of whole ≡ opened_of front
opened_same [] whole some prefix = absurd (omega (arith, some))
opened_same (first ∷ later) whole some (rest, is) = rw (← is) refl

-- a list that goes on has no lower version
pub version_grows : (front whole : List Mark) → 0 < length front → IsPrefix front whole
    → version_after front ≤ version_after whole
version_grows front whole some prefix =
    let opened = opened_same front whole some prefix in
    let changes = changes_extend front whole prefix in
    rw (opened, changes.1, length-append changes.0 (changes_of front)) (omega arith)

-- a change at the end leaves the map that the list was opened with
pub opened_changed : (log : List Mark) (change : MapChange) → opened_of (log ++ Changed change ∷ []) ≡ opened_of log
opened_changed [] change = refl
opened_changed (first ∷ later) change = refl

-- the map of a list with a change made in it is the map of the list with the change at its end
pub changed_map : (log : List Mark) (change : MapChange) {now next : Mapped} {bounds : Bounds} → IsMapOfLog log now →
    IsApplied now next change bounds → now.version < 4_000_000 → IsMapOfLog (log ++ Changed change ∷ []) next
unfolding bytes_after
changed_map log change before made below =
    rw (opened_changed log change, changes_added log change) (record {
      stands = λ setup bytes was.
          made.stands setup (bytes_after setup (changes_of log) bytes) (before.stands setup bytes was);
      cards = made.same_cards ∙ before.cards;
      version = omega (arith, made.version, before.version);
    })
