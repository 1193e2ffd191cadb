use Rattle.std.proofs.Common.{subst, arith}
use Rattle.board_prelude.proofs.{nat_tests, common_steps}
use Rattle.script_spec.specs.Grammar.{HasForm}
use Rattle.scripts.specs.Items.{line_said}
use Rattle.logs.proofs.AskedReading.{not_asked, asked_exact}
use Rattle.script_spec.specs.Items.{ask}
use Rattle.logs.proofs.read_asked.parse_numbered_event.Goals as goal

pub returns-in_err-actor : goal.returns-in_err-actor
returns-in_err-actor c = record {
  asked = rw c.from_residual.ensures (λ seq event is. c.in_err-actor.ensures.none (ask seq event) is.has);
}

pub returns-in-Statement : goal.returns-in-Statement
returns-in-Statement c =
    let has = subst (λ item. HasForm c.args.version c.args.text.now (line_said item)) c.in-Statement.is
    c.in_ok-actor.ensures.says in
    record {
      asked = asked_exact c.args.version c.in-Statement.actor c.args.text.now c.in-Statement.asked
          c.numbered.result has c.numbered.ensures.asked;
    }

pub returns-in_default : goal.returns-in_default
returns-in_default c = grind (arith, nat_tests, common_steps, not_asked)
