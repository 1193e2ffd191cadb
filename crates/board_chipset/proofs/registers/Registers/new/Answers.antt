use Rattle.board_prelude.proofs.{reset_byte, byte_of, config_address, reset_control, map_writes_of}
use Rattle.config_regs.specs.Config.{AreKeptOf}
use Rattle.board_chipset.specs.Versions.{AreLastChanged}
use Rattle.board_chipset.proofs.registers.Registers.new.Goals as goal

pub returns : goal.returns
unfolding byte_of config_address reset_control map_writes_of AreLastChanged
returns c = record {
  reset = λ setup same.
      let kept : AreKeptOf setup (reset_byte setup) c.from_scratch.result.regs c.new-3.result = record {
        map = rw c.from_scratch.ensures.regs (c.reset_of.ensures.stands setup same);
        cards = rw c.from_scratch.ensures.regs (c.reset_of.ensures.reset setup same);
        south = c.new-3.ensures.reset setup;
      } in
      assumption (
        c.new.ensures.zero,
        c.new-2.ensures.zero,
        c.from_scratch.ensures.version,
        c.from_scratch.ensures.changed,
        c.from_scratch.ensures.map,
      );
}
