use Rattle.byte_fields.proofs.Loaded.{loads}
use Rattle.addr_decode.proofs.AddressFormat.{address_format}
use Rattle.addr_decode.proofs.conf_add.ConfAdd.load_state.Goals as goal

pub returns : goal.returns
returns c = record {
  loaded = loads address_format c.args.fields.now _ c.read_state.result c.are_bytes.ensures.bytes
      c.read_state.ensures.took;
}
