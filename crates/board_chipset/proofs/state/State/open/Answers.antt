use Rattle.std.proofs.Common.{◌∙◌, ap, sym, length}
use Rattle.board_spec.specs.Setup.{IsRomSize, Setup}
use Rattle.board_chipset.proofs.Openings.{disk_opened}
use Rattle.board_chipset.proofs.StateSteps.{fresh_sound}
use Rattle.board_chipset.proofs.state.State.open.Goals as goal

pub returns-clause-fresh : goal.returns-clause-fresh
returns-clause-fresh c =
    let setup = c.args.setup.now in
    let is = c.setup.view_is in
    let rom : IsRomSize (length setup.rom) =
    rw (← c.rom.ensures.bytes) (c.is_rom_size.ensures.size.0 c.if-not-is_rom_size.false) in
    record {
      fits = assumption (
        rom,
        disk_opened setup.disk _ c.open.result c.in_ok-devices.devices c.open.ensures.bad
            c.in_ok-devices.was c.disk.ensures.bytes,
      );
      registers = c.new.ensures.reset setup
          (ap (λ (s : Setup). s.cards) (sym is) ∙ sym c.deref-2.ensures.value);
      stores = c.in_ok-stores.ensures.fresh setup (ap (λ (s : Setup). s.mib) (sym is))
          (ap (λ (s : Setup). s.cards) (sym is) ∙ sym c.deref.ensures.value);
      devices = c.in_ok-devices.ensures.fresh setup (sym c.disk.ensures.bytes);
    }

pub returns-clause-sound : goal.returns-clause-sound
returns-clause-sound c = fresh_sound (returns-clause-fresh c)
