use Rattle.std.proofs.Common.{rules}
use Rattle.board_spec.specs.Registers.{byte_of}
use Rattle.addr_decode.specs.MapRegs.{map_bytes}
use Rattle.config_regs.specs.Config.{AreKeptOf}
use Rattle.config_regs.proofs.FixedBytes.{has_fixed}
use Rattle.board_chipset.proofs.registers.Registers.read.Goals as goal

pub returns : goal.returns
returns c = record {
  value = λ setup history has.
      let kept : AreKeptOf setup (byte_of setup history) (map_bytes c.regs.result.now) c.args.self.now.south =
      search (rules, has.kept) in
      c.read_from.ensures.value setup (byte_of setup history) kept (has_fixed setup history);
}
