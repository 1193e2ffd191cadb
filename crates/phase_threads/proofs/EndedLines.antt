-- The lines that the processors of a run have written are those of its history.
use Rattle.std.proofs.Common.{◌≡◌, ℕ, zero, suc, ◌<◌, List, [], ◌∷◌, length, map, reverse, All, Option, refl, sym, ◌∙◌}
use Rattle.std.proofs.Common.{ap}
use Rattle.std.proofs.Common.{arith, slice_index_or}
use Rattle.std.proofs.lemmas.List.Elements.{All-map}
use Rattle.board_prelude.proofs.{Entry, entries_by, length-map}
use Rattle.run_order.specs.Room.{Order}
use Rattle.run_order.proofs.Histories.{all_reverse}
use Rattle.run_log.specs.Lines.{lines_of}
use Rattle.phase_threads.specs.declared.worker.Work.{Work}
use Rattle.phase_threads.specs.Jobs.{AreTold, page_by}
use Rattle.phase_threads.specs.Placed.{IsUpTo, entries_of}
use Rattle.phase_threads.specs.Works.{Page}
use Rattle.phase_threads.specs.Ended.{HasEnded}
use Rattle.phase_threads.proofs.Told.{entries_reversed}

abbrev lines_in : Work → List (List ℕ)
lines_in work = work.lines

-- a page has the lines of its work
lines_by : (works : List Work) (actor : ℕ) → actor < length works
    → slice_index_or (map lines_in works) actor [] ≡ (page_by actor works).0
lines_by [] actor less = absurd (omega (arith, less))
lines_by (work ∷ works) zero less = refl
lines_by (work ∷ works) (suc actor) less = lines_by works actor (omega (arith, less))

pub has_ended : (order : Option Order) (own : List Entry) (works : List Work) (lines : List (List (List ℕ)))
    → lines ≡ map (λ (work : Work). work.lines) works → IsUpTo order own
    → All (λ entry. entry.actor < length works) (entries_of order own)
    → AreTold (λ actor. entries_by actor (entries_of order own)) works → HasEnded order own lines
has_ended order own works lines is up_to callers told =
    let history : List Entry = entries_of order own in let actor_in : Entry → ℕ = λ entry. entry.actor in
    let size : length (map lines_in works) ≡ length works = length-map works lines_in in
    rw is (record {
      up_to = up_to;
      each = record {
        actors = refl;
        callers =
            rw size (All-map (λ actor. actor < length works) actor_in (reverse history)
            (all_reverse (λ (entry : Entry). entry.actor < length works) history callers));
        each = λ actor less.
            let few : actor < length works = rw size at less in
            lines_by works actor few ∙ (ap (λ (p : Page). p.0) (told actor few)
            ∙ ap lines_of (sym (entries_reversed actor history)));
      };
    })
