use Rattle.std.proofs.Common.{Bool, not, ◌==◌, ◌+◌, ◌∷◌, List, refl, arith, get_or-set_same, slice_index, slice_set}
use Rattle.board_prelude.proofs.{Entry}
use Rattle.std.proofs.lemmas.List.Filters.{length-filter_both}
use Rattle.board_core.specs.Kept.{HasPlayed}
use Rattle.board_core.proofs.Boards.{few_versions, stepped}
use Rattle.board_core.proofs.replay.Replay.answer.Goals.{After-from-2}
use Rattle.board_core.proofs.replay.Replay.answer.Goals as goal

pub overflow_add-seq : goal.overflow_add-seq
overflow_add-seq c =
    let own : Entry → Bool = λ entry. entry.actor == c.args.actor in
    let parts = length-filter_both own (λ entry. not (own entry)) (λ entry. refl) c.self.invariant.0 in
    let played = c.self.invariant.1 in
    let counted = played.counted c.args.actor (omega arith) in
    rw (c.from.ensures) (omega (arith, counted, parts, played.few))

-- the entry that is new, and the replay that has played it
abbrev entry : After-from-2 → Entry
entry c = record {
  actor = c.args.actor;
  seq = slice_index c.self.inside.counts c.from.result + 1;
  event = c.args.event.now;
  reply = c.step-reply.result;
}

played : (c : After-from-2) (history : List Entry) →
    HasPlayed
    (record { chipset = c.self.inside.chipset; count = c.self.inside.count; counts = c.self.inside.counts }) history →
    HasPlayed (record {
      chipset = c.step-reply.new.self;
      count = c.self.inside.count + 1;
      counts = slice_set c.self.inside.counts c.args.actor (slice_index c.self.inside.counts c.from.result + 1);
    }) (entry c ∷ history)
played c history was =
    let few = rw (← c.self.view_is) at c.requires.few in
    stepped c.self.told (omega arith) few (rw (c.from.ensures) refl) was c.step-reply.ensures.setup
    (c.step-reply.ensures.exact history was.left (few_versions was))
    (c.step-reply.ensures.left history (entry c) was.left refl refl)

pub invariant_of-self : goal.invariant_of-self
invariant_of-self c =
    let at = (goal.at.invariant_of-self c).After-from-2 in (
      entry at ∷ c.self.invariant.0,
      rw (c.from-2.ensures) (played at c.self.invariant.0 c.self.invariant.1),
    )

pub returns-clause-played : goal.returns-clause-played
returns-clause-played c =
    let at = (goal.at.returns-clause-played c).After-from-2 in
    let last = get_or-set_same c.self.inside.counts c.args.actor (entry at).seq 0 (omega arith) in
    rw (← c.self.view_is) (λ history was. rw (c.from-2.ensures, last) (played at history was))
