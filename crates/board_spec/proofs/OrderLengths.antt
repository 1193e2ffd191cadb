-- How long a history is that a script's phases may make.
use Rattle.std.proofs.Common.{◌≡◌, ◌+◌, ◌≤◌, List, [], ◌∷◌, length, take, drop, sym, ◌∙◌, ap, inl, inr, arith}
use Rattle.std.proofs.lemmas.List.{length-append, length-take, length-drop, length-map, length-reverse}
use Rattle.board_spec.specs.declared.event.Entry.{Entry}
use Rattle.board_spec.specs.declared.event.Statement.{Statement}
use Rattle.board_spec.specs.Orders.{statements_of, IsWholePhase, HasPhases, HasPhasesSoFar}
use Rattle.board_spec.specs.OrderLaws.{in_file_order, BegunIsBounded, WholeIsComplete, CompleteIsWhole}
use Rattle.board_spec.proofs.GoesOnProofs.{none_so_far, whole_front, nothing_left}

-- a whole phase and what follows it
cut_length : (phase statements : List Statement) → IsWholePhase phase (take (length phase) statements) →
    length statements ≡ length phase + length (drop (length phase) statements)
cut_length phase statements whole =
    omega (arith, whole.size, length-take (length phase) statements, length-drop (length phase) statements)

-- statements so far are at most those of the phases, and where they are as many, they are the phases
counted : (phases : List (List Statement)) (statements : List Statement) → HasPhasesSoFar phases statements →
    (length statements ≤ length (in_file_order phases))
    × (length statements ≡ length (in_file_order phases) → HasPhases phases statements)
counted [] statements nothing = (omega (arith, ap length nothing), λ full. nothing)
counted (phase ∷ later) statements (inl front) =
    simp length-append (
      omega (arith, front.size),
      λ full.
          let long : length phase ≤ length statements = omega (arith, front.size) in (
            whole_front phase statements front long,
            rw (nothing_left phase statements front long)
                ((counted later [] (none_so_far later)).1 (omega (arith, front.size))),
          ),
    )
counted (phase ∷ later) statements (inr whole) =
    let rest = counted later (drop (length phase) statements) whole.1 in
    let cut = cut_length phase statements whole.0 in
    simp length-append (omega (arith, cut, rest.0), λ full. (whole.0, rest.1 (omega (arith, cut))))

full_when_complete : (phases : List (List Statement)) (statements : List Statement) → HasPhases phases statements →
    length statements ≡ length (in_file_order phases)
full_when_complete [] statements nothing = ap length nothing
full_when_complete (phase ∷ later) statements whole =
    let rest = full_when_complete later (drop (length phase) statements) whole.1 in
    simp length-append (omega (arith, cut_length phase statements whole.0, rest))

-- a history states as much as it has entries
stated : (history : List Entry) → length (statements_of history) ≡ length history
stated history = simp (length-map, length-reverse)

pub begun_is_bounded : BegunIsBounded
begun_is_bounded phases history begun = rw (← (stated history)) (counted phases (statements_of history) begun).0

pub whole_is_complete : WholeIsComplete
whole_is_complete phases history begun full = (counted phases (statements_of history) begun).1 (stated history ∙ full)

pub complete_is_whole : CompleteIsWhole
complete_is_whole phases history complete = sym (stated history) ∙ full_when_complete _ _ complete
