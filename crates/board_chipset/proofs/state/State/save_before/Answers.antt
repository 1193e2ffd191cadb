use Rattle.std.proofs.lemmas.Result.{on_ok_weaker}
use Rattle.board_chipset.proofs.state.State.save_before.Goals as goal

pub returns-clause-sound : goal.returns-clause-sound
returns-clause-sound c =
    on_ok_weaker c.save_state.result (λ each. each c.args.setup.now c.requires.sound.registers)
    c.save_state.ensures.sound
