use Rattle.board_chipset.specs.Chipset.{Running}
use Rattle.board_chipset.proofs.ChipsetLoads.{running, read_is, loads_chipset}
use Rattle.board_chipset.proofs.chipset.Chipset.load_fields.Goals as goal

pub invariant_of-result : goal.invariant_of-result
invariant_of-result c =
    let chipset : Running = record { setup = c.args.setup; state = c.in-Ok.state } in
    running chipset (read_is _ chipset _ _ c.requires.fits c.are_bytes.ensures.bytes c.in-Ok.ensures.filled
    c.in-Ok.ensures.mapped).1

pub returns-in-Ok : goal.returns-in-Ok
returns-in-Ok c = record {
  loaded = loads_chipset c.law_same_map.ensures.same _ _ _ _ c.requires.fits c.are_bytes.ensures.bytes
      c.in-Ok.ensures.filled c.in-Ok.ensures.mapped;
}

pub returns-in-Err : goal.returns-in-Err
returns-in-Err c = record {
  loaded = loads_chipset c.law_same_map.ensures.same _ _ _ _ c.requires.fits c.are_bytes.ensures.bytes
      c.in-Err.ensures.filled tt;
}
