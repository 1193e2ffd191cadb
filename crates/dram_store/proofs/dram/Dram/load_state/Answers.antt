use Rattle.byte_fields.proofs.Loaded.{loads_with}
use Rattle.dram_store.proofs.StateFormats.{dram_format}
use Rattle.dram_store.proofs.dram.Dram.load_state.Goals as goal

pub returns : goal.returns
returns c = record {
  loaded = loads_with (dram_format c.args.mib) _ _ _ c.are_bytes.ensures.bytes c.read_state.ensures.filled;
}
