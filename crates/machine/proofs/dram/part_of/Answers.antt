use Rattle.machine.proofs.Pages.{part_is}
use Rattle.machine.proofs.dram.part_of.Goals as goal

pub returns : goal.returns
returns c = record {
  part = part_is c.args.kept.now c.args.at c.min-from.result c.min.result c.min-from.ensures c.min.ensures;
}
