use Rattle.std.proofs.Common.{◌≡◌, ◌+◌, ◌-◌, [], ◌∷◌, length, refl, ◌∙◌, arith, Some}
use Rattle.board_prelude.proofs.{All-head, Entry, IsInRange, next_entry, nat_tests}
use Rattle.board_prelude.specs.{Statement}
use Rattle.log_check.specs.Fronts.{left_of}
use Rattle.log_check.proofs.Counting.{number_below}
use Rattle.log_check.proofs.LineSteps.{Walk, Made, stops_here, stops_without_memory, past_line, handed_on}
use Rattle.log_check.specs.declared.fault.CheckFault.TheVariants.{NoMemory}
use Rattle.log_check.proofs.check.check_line.Given.{Over}
use Rattle.log_check.proofs.check.check_line.Goals.{After-count-line, After-step-reply}
use Rattle.log_check.proofs.check.check_line.Goals as goal

walk : (g : Over) (c : After-count-line g) →
    Walk (g.B.Steps.standing c.args.board.now).setup c.args.front.now.phase.now
    (g.B.Steps.standing c.args.board.now).entries c.args.rest.now c.count-line.result
walk g c = grind (arith, nat_tests)

abbrev entry : (g : Over) → After-step-reply g → Entry
entry g c =
    next_entry (g.B.Steps.standing c.args.board.now).entries c.in-Some-next.statement.now.actor
    c.in-Some-next.statement.now.event c.step-reply.result

grown : (g : Over) (c : After-step-reply g) →
    (g.B.Steps.standing c.step-reply.new.self).entries ≡ entry g c ∷ (g.B.Steps.standing c.args.board.now).entries
grown g c = grind (arith, nat_tests)

made : (g : Over) (c : After-step-reply g) →
    Made (g.B.Steps.standing c.args.board.now).setup (left_of c.args.front.now) (left_of c.next.new.self)
    (g.B.Steps.standing c.args.board.now).entries (entry g c)
made g c = grind (arith, nat_tests)

pub returns-in_default-clause-walked : goal.returns-in_default-clause-walked
returns-in_default-clause-walked g c = λ place within past short.
    stops_here (walk g (goal.at.returns-in_default-clause-walked g c).After-count-line) place within past short
    c.processor.result c.processor.ensures.named (λ actor found. cc (c.in_default.is))

pub returns-in_default-next-clause-walked : goal.returns-in_default-next-clause-walked
returns-in_default-next-clause-walked g c = λ place within past short.
    stops_here (walk g (goal.at.returns-in_default-next-clause-walked g c).After-count-line) place within past short
    (Some c.in-Some.actor) c.in-Some.ensures.named (λ actor found. cc (c.in_default-next.ensures.taken))

pub step-reply-requires-clause-in_range : goal.step-reply-requires-clause-in_range
step-reply-requires-clause-in_range g c =
    All-head (λ (statement : Statement). IsInRange (g.B.Steps.standing c.args.board.now).setup statement.event)
    c.in-Some-next.statement.now
    [] (c.in-Some-next.ensures.in_range (g.B.Steps.standing c.args.board.now).setup c.requires.in_range)

pub next-seq-requires : goal.next-seq-requires
next-seq-requires g c =
    let below =
    number_below c.args.numbers.now (g.B.Steps.standing c.args.board.now).entries c.in-Some-next.statement.now.actor
    (omega arith) c.requires.numbers in
    omega (arith, below, c.requires.few)

pub returns-in_err-print_line-clause-walked : goal.returns-in_err-print_line-clause-walked
returns-in_err-print_line-clause-walked g c = λ place within past short.
    let at = goal.at.returns-in_err-print_line-clause-walked g c in
    handed_on c.from_residual.result NoMemory _ _ c.from_residual.ensures.1 (rw (grown g at.After-step-reply)
    (stops_without_memory (walk g at.After-count-line) place within past short (made g at.After-step-reply)))

pub returns-clause-walked : goal.returns-clause-walked
returns-clause-walked g c = λ place within past short.
    let at = goal.at.returns-clause-walked g c in let made_at = at.After-step-reply in
    let last : c.next-seq.result ≡ (entry g made_at).seq = c.next-seq.ensures.next
    ∙ rw (c.requires.numbers c.in-Some-next.statement.now.actor (omega arith)) refl in
    let number : c.count-line.result + 2 - 1 ≡ length (g.B.Steps.standing c.args.board.now).entries + 1 =
    omega (arith, (walk g at.After-count-line).count) in
    rw (grown g made_at) (past_line (walk g at.After-count-line) place within past short (made g made_at)
    c.deref.result.now c.in-Some.actor c.go_past.result c.law_one_replay.ensures.one c.in-Some-next.ensures.taken.0
    c.in-Some.ensures.named (c.deref.ensures ∙ c.in_ok-print_line.ensures.printed ∙ rw (last, number) refl)
    c.go_past.ensures.cases)
