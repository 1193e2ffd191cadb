use Rattle.std.proofs.Common.{refl}
use Rattle.board_prelude.proofs.{reset_byte}
use Rattle.board_chipset.proofs.registers.Registers.reset.Goals as goal

pub returns-clause-kept : goal.returns-clause-kept
returns-clause-kept c = λ setup bytes kept. record {
  map = c.apply.ensures.applied.stands setup bytes kept.map;
  cards = c.apply.ensures.applied.cards setup bytes kept.cards;
  south = c.reset-2.ensures.reset setup;
}

pub returns-clause-sound : goal.returns-clause-sound
returns-clause-sound c = λ setup sound. record {
  bytes = reset_byte setup;
  kept = returns-clause-kept c setup sound.bytes sound.kept;
  address = rw c.reset.ensures.zero refl;
  flat = c.apply.ensures.applied.map;
}
