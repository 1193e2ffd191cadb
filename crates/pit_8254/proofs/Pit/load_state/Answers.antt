use Rattle.byte_fields.proofs.Loaded.{loads}
use Rattle.pit_8254.proofs.StateFormat.{pit_format}
use Rattle.pit_8254.proofs.Pit.load_state.Goals as goal

pub returns : goal.returns
returns c = record {
  loaded = loads pit_format c.args.fields.now _ c.read_state.result c.are_bytes.ensures.bytes c.read_state.ensures.took;
}
