use Rattle.std.proofs.Common.{refl}
use Rattle.addr_decode.proofs.AddressLemmas.{kept_address-again}
use Rattle.board_chipset.proofs.StateSteps.{follows}
use Rattle.board_chipset.proofs.registers.Registers.write_address.Goals as goal

pub returns-clause-registers : goal.returns-clause-registers
returns-clause-registers c = λ setup history entry has writes.
    follows writes has c.write.ensures.kept refl has.kept refl refl has.flat

pub returns-clause-sound : goal.returns-clause-sound
returns-clause-sound c = λ setup sound. record {
  bytes = sound.bytes;
  kept = sound.kept;
  address = rw c.write.ensures.kept (kept_address-again c.args.value);
  flat = sound.flat;
}
