use Rattle.std.proofs.Common.{rules, append_assoc, refl}
use Rattle.std.proofs.lemmas.Result.{on_ok_weaker, IfOk-equal}
use Rattle.board_chipset.specs.ChipsetState.{state_bytes}
use Rattle.board_chipset.proofs.state.State.save_state.Goals as goal

pub returns-clause-saved : goal.returns-clause-saved
unfolding state_bytes
returns-clause-saved c = rw (← c.disk.ensures.bytes) (search (rules, IfOk-equal, append_assoc))

pub returns-clause-whole : goal.returns-clause-whole
returns-clause-whole c =
    on_ok_weaker c.save_state-2.result (λ devices. record {
      registers = c.in_ok-save_state.ensures.sound c.args.setup.now c.requires.sound.registers;
      stores = c.in_ok-save_stores.ensures.sound c.args.setup.now c.args.self.now c.requires.sound refl;
      devices = rw c.disk.ensures.bytes at devices;
    }) c.save_state-2.ensures.sound
