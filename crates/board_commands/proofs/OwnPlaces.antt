-- The replay of a script of one processor: each look is in its place.
use Rattle.std.proofs.Common.{ℕ, ◌≡◌, List, [], ◌∷◌, All, take, drop, length, map, reverse, refl, sym, subst, inl, arith}
use Rattle.std.proofs.lemmas.List.Elements.{All-take, All-drop, All-append, All-head, All-tail}
use Rattle.board_prelude.proofs.{nat_tests, Entry, Event, Reply, Saw, Setup, statement_of, statements_of, length-map}
use Rattle.board_prelude.proofs.{get_or-map, in_file_order}
use Rattle.board_spec.specs.declared.event.Statement.{Statement}
use Rattle.board_spec.specs.declared.event.Event.TheVariants.{Look as LookAt}
use Rattle.board_spec.proofs.OrderLawProofs.{replay_is_complete}
use Rattle.run_order.specs.Places.{AreAllInPlace, AreInPlace, IsInPlace, IsPlaceOf, without_lower}
use Rattle.script_spec.specs.ScriptText.{Script as Said}
use Rattle.command_texts.specs.Replays.{IsReplayText}
use Rattle.board_commands.specs.Texts.{IsRunText}
use Rattle.run_order.proofs.Histories.{all_turned}

abbrev IsBy : ℕ → Entry → Type 0
IsBy actor entry = entry.actor ≡ actor

abbrev pub IsSaidBy : ℕ → Statement → Type 0
IsSaidBy actor statement = statement.actor ≡ actor

-- ---- the entries are of the processor too

in_order : (actor : ℕ) (phases : List (List Statement)) → All (All (IsSaidBy actor)) phases →
    All (IsSaidBy actor) (in_file_order phases)
in_order actor [] said = λ i d less. absurd (omega (arith, less))
in_order actor (phase ∷ later) said =
    All-append (IsSaidBy actor) phase (in_file_order later) (All-head (All (IsSaidBy actor)) phase later said)
    (in_order actor later (All-tail (All (IsSaidBy actor)) phase later said))

of_entries : (actor : ℕ) (entries : List Entry) → All (IsSaidBy actor) (map statement_of entries) →
    All (IsBy actor) entries
of_entries actor entries said = λ i d less. grind (arith, length-map, get_or-map, said i (statement_of d))

own_entries : (actor : ℕ) (history : List Entry) → All (IsSaidBy actor) (statements_of history) → All (IsBy actor) history
own_entries actor history said = all_turned (IsBy actor) history (of_entries actor (reverse history) said)

-- ---- their places

-- none of its entries is a look of a lower processor
none_lower : (actor : ℕ) (before : List Entry) → All (IsBy actor) before → without_lower actor before ≡ before
none_lower actor [] own = refl
none_lower actor (entry ∷ before) own = grind (arith, nat_tests, All-head (IsBy actor) entry before own)

-- so the last of them is the place
last_own : (setup : Setup) (history before : List Entry) (actor version : ℕ) → All (IsBy actor) before →
    IsPlaceOf setup history actor version before
last_own setup history [] actor version own = tt
last_own setup history (last ∷ before) actor version own = inl (All-head (IsBy actor) last before own)

in_place : (setup : Setup) (history before : List Entry) (actor : ℕ) (event : Event) (reply : Reply) →
    All (IsBy actor) before → IsInPlace setup history before actor event reply
in_place setup history before actor (LookAt kind addr smm) (Saw look) own =
    subst (IsPlaceOf setup history actor look.version) (sym (none_lower actor before own))
    (last_own setup history before actor look.version own)
in_place setup history before actor (LookAt kind addr smm) _ own = tt
in_place setup history before actor _ _ own = tt

are_in_place : (setup : Setup) (history entries : List Entry) (actor : ℕ) → All (IsBy actor) entries →
    AreInPlace setup history entries
are_in_place setup history [] actor own = tt
are_in_place setup history (entry ∷ before) actor own =
    let later = All-tail (IsBy actor) entry before own in (
      subst (λ (number : ℕ). IsInPlace setup history before number entry.event entry.reply)
          (sym (All-head (IsBy actor) entry before own)) (in_place setup history before actor entry.event entry.reply later),
      are_in_place setup history before actor later,
    )

own_places : (setup : Setup) (phases : List (List Statement)) (actor : ℕ) (history : List Entry) →
    All (IsBy actor) history → AreAllInPlace setup phases history
own_places setup [] actor history own = tt
own_places setup (phase ∷ earlier) actor history own = (
  are_in_place setup (drop (length phase) history) (take (length phase) history) actor
      (All-take (IsBy actor) (length phase) history own),
  own_places setup earlier actor (drop (length phase) history) (All-drop (IsBy actor) (length phase) history own),
)

pub run_by_one :
    (setup : Setup) (script : Said) (actor : ℕ) (text : List ℕ) → All (All (IsSaidBy actor)) script.phases →
    IsReplayText setup script text → IsRunText setup script text
run_by_one setup script actor text said replayed =
    let history : List Entry = replayed.history in
    record {
      history = history;
      legal = replayed.replay.legal;
      complete = replay_is_complete setup script.phases history replayed.replay;
      places =
          own_places setup (reverse script.phases) actor history
          (own_entries actor history (subst (All (IsSaidBy actor)) (sym replayed.replay.same) (in_order actor script.phases said)));
      locked = replayed.locked;
      log = replayed.log;
    }
