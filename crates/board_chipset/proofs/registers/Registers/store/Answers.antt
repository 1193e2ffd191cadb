use Rattle.std.proofs.Common.{refl}
use Rattle.board_prelude.proofs.{Store, changed_byte, byte_of}
use Rattle.board_chipset.proofs.MapVersions.{store_follows}
use Rattle.board_chipset.proofs.StateSteps.{follows}
use Rattle.board_chipset.proofs.registers.Registers.store.Goals as goal

pub returns-clause-registers : goal.returns-clause-registers
returns-clause-registers c = λ setup history entry has writes.
    let bytes = byte_of setup history in
    follows writes has refl refl
    (assumption (
      c.store.ensures.stored.stands setup bytes has.kept.map,
      c.store.ensures.stored.cards setup bytes has.kept.cards,
      c.store-2.ensures.stored setup bytes has.kept.south,
    ))
    (c.store.ensures.stored.version setup has.kept.cards.0)
    (store_follows _ _ _ _ _ (c.store.ensures.stored.windows setup bytes has.kept.map)
    (c.store.ensures.stored.same_windows setup has.kept.cards.0)) c.store.ensures.stored.map

pub returns-clause-sound : goal.returns-clause-sound
returns-clause-sound c = λ setup sound. record {
  bytes = λ r. changed_byte setup (Store c.args.register.now.reg c.args.width c.args.value) r (sound.bytes r);
  kept = record {
    map = c.store.ensures.stored.stands setup sound.bytes sound.kept.map;
    cards = c.store.ensures.stored.cards setup sound.bytes sound.kept.cards;
    south = c.store-2.ensures.stored setup sound.bytes sound.kept.south;
  };
  address = sound.address;
  flat = c.store.ensures.stored.map;
}
