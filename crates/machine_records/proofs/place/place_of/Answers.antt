use Rattle.std.proofs.Common.{sym, ◌∙◌}
use Rattle.machine_records.proofs.Cycles.{no_cycle_without}
use Rattle.machine_records.proofs.place.place_of.Goals as goal

pub returns-in-None-clause-none : goal.returns-in-None-clause-none
returns-in-None-clause-none c = λ none both.
    no_cycle_without c.args.chipset.now c.args.asked.now c.holds_registers.ensures.some
    (λ bytes holds. sym c.in-None.is ∙ c.decode.ensures.held bytes holds) both.1
