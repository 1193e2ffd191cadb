-- The processors of a bus's entries, as a list of their own.
use Rattle.std.proofs.Common.{◌≡◌, ℕ, ◌+◌, ◌-◌, ◌<◌, List, [], ◌∷◌, ◌++◌, length, All, drop, get_or, take, reverse}
use Rattle.std.proofs.Common.{arith}
use Rattle.std.proofs.Common.{map, refl}
use Rattle.std.proofs.lemmas.List.{drop-map}
use Rattle.board_prelude.proofs.{Entry, get_or-map, get_or-drop, length-drop, length-map, map-append, take_more}
use Rattle.board_prelude.proofs.{reverse-append, reverse-reverse, take_all}
use Rattle.run_order.specs.declared.entry.RunEntry.{RunEntry}
use Rattle.run_order.specs.Over.{AreActorsOf, entry_of, nowhere, over}

pub actor_at : (actors : List ℕ) (bus : List Entry) (i actor : ℕ) → AreActorsOf actors bus → i < length actors
    → ((other : ℕ) → get_or actors i other ≡ actor)
    → (i < length bus) × (actor ≡ (get_or bus i nowhere).actor)
actor_at actors bus i actor are less is =
    grind (arith, are, length-map bus (λ e. e.actor), get_or-map (λ e. e.actor) bus i nowhere 0, is 0)

pub actors_length : (actors : List ℕ) (bus : List Entry) → AreActorsOf actors bus → length bus ≡ length actors
actors_length actors bus are = grind (arith, are, length-map bus (λ (e : Entry). e.actor))

-- of those that come after a place in the bus's history
pub later_callers : (actors : List ℕ) (bus : List Entry) (start n : ℕ) → AreActorsOf actors bus
    → All (λ actor. actor < n) (drop start actors) → All (λ e. e.actor < n) (drop start bus)
later_callers actors bus start n are callers k d less =
    let own = get_or-map (λ (e : Entry). e.actor) (drop start bus) k d 0 less in
    let size = length-map (drop start bus) (λ (e : Entry). e.actor) in
    let cut = drop-map (λ (e : Entry). e.actor) start bus in
    grind (arith, are, cut, own, size, callers k 0)

pub actor_below : (actors : List ℕ) (start old i n actor : ℕ) → start ≡ old
    → All (λ actor. actor < n) (drop old actors) → i < length actors - start
    → ((other : ℕ) → get_or actors (start + i) other ≡ actor) → actor < n
actor_below actors start old i n actor is callers less at =
    grind (arith, is, callers i 0, at 0, length-drop old actors, get_or-drop old actors i 0)

pub later_length : (actors : List ℕ) (bus : List Entry) (start : ℕ) → AreActorsOf actors bus
    → length (drop start bus) ≡ length actors - start
later_length actors bus start are =
    grind (arith, are, length-map bus (λ (e : Entry). e.actor), length-drop start bus)

pub later_actor : (actors : List ℕ) (bus : List Entry) (start old i actor : ℕ) → start ≡ old → AreActorsOf actors bus
    → i < length actors - start → ((other : ℕ) → get_or actors (start + i) other ≡ actor)
    → (i < length (drop old bus)) × (actor ≡ (get_or (drop old bus) i nowhere).actor)
later_actor actors bus start old i actor is are less at =
    let own = actor_at actors bus (start + i) actor are (omega (arith, less)) at in
    grind (arith, is, own, later_length actors bus old are, less, get_or-drop old bus i nowhere)

pub actors_next : (bus : List Entry) (entries : List RunEntry) (i : ℕ) (d : RunEntry) (actors new : List ℕ) (actor : ℕ)
    → AreActorsOf actors (over bus (take i entries)) → i < length entries
    → actor ≡ (entry_of bus (get_or entries i d)).actor → new ≡ actors ++ actor ∷ []
    → AreActorsOf new (over bus (take (i + 1) entries))
actors_next bus entries i d actors new actor are less own pushed =
    let more = take_more entries i d less in let turned = map-append (entry_of bus) (take i entries) in
    let again = map-append (λ (e : Entry). e.actor) (over bus (take i entries)) in
    grind (arith, are, own, pushed, more, turned, again)

-- ---- of all entries of a run

map_turned : {X Y : Type 0} (f : X → Y) (xs : List X) → map f (reverse xs) ≡ reverse (map f xs)
map_turned f [] = refl
map_turned f (x ∷ xs) =
    let one = reverse-append (x ∷ []) xs in let two = reverse-append (f x ∷ []) (map f xs) in
    grind (arith, one, two, map_turned f xs, map-append f (reverse xs) (x ∷ []))

pub all_actors : (bus : List Entry) (items entries : List RunEntry) (n : ℕ) (actors : List ℕ)
    → AreActorsOf actors (over bus (take n items)) → length items ≡ n → reverse items ≡ entries
    → AreActorsOf actors (reverse (over bus entries))
all_actors bus items entries n actors are all turned =
    let same = map_turned (entry_of bus) items in let back = reverse-reverse (over bus items) in
    grind (arith, are, all, turned, same, back, take_all n items)
