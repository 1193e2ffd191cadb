use Rattle.std.proofs.Common.{sym, subst, ◌∙◌}
use Rattle.board_prelude.proofs.{IsInRange}
use Rattle.board_chipset.proofs.OutsideSteps.{outside_done, applied_is, applied_answer, level_number}
use Rattle.board_chipset.proofs.outside.answer.Goals as goal

pub apply-requires : goal.apply-requires
apply-requires c =
    let kept = c.requires.in_range.1.kept in
    let said = c.in-Some.said in
    let is = applied_is c.args.event.now said (sym c.in-Some.ensures.applied) in
    record {
      place = level_number kept.setup said.stimulus said.number said.on kept.sound.fits
          (subst (IsInRange kept.setup) is c.requires.in_range.1.in_range);
    }

pub returns-in-Ack-clause-board : goal.returns-in-Ack-clause-board
returns-in-Ack-clause-board c = λ setup history entry kept event.
    outside_done (event ∙ c.in-Ack.is) tt kept (c.acknowledge-vector.ensures.devices setup history entry kept.devices)

pub returns-in-Time-clause-board : goal.returns-in-Time-clause-board
returns-in-Time-clause-board c = λ setup history entry kept event.
    outside_done (event ∙ c.in-Time.is) tt kept (c.moment.ensures.devices setup history entry kept.devices)

pub returns-in-Some-clause-board : goal.returns-in-Some-clause-board
returns-in-Some-clause-board c = λ setup history entry kept event.
    let said = c.in-Some.said in
    let is = applied_is c.args.event.now said (sym c.in-Some.ensures.applied) in
    outside_done (event ∙ is) (applied_answer setup history said.stimulus said.number said.on).0 kept
    (λ asks routes. c.apply.ensures.devices setup history entry kept.devices asks
    kept.registers.kept.south.routes routes)
