use Rattle.std.proofs.lemmas.Result.{on_ok_weaker}
use Rattle.scripts.proofs.TakenPhases.{statement_taken}
use Rattle.scripts.proofs.reading.Reading.take_statement.Goals as goal

pub returns : goal.returns
returns c =
    record {
      taken = on_ok_weaker c.push_statement.result
          (statement_taken c.args.self.now c.args.statement c.push_statement.new.phases c.pulses_of.result
          c.pulses_of.ensures.pulses)
          c.push_statement.ensures.phases;
    }
