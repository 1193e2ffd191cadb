use Rattle.byte_fields.proofs.Loaded.{loads}
use Rattle.uart_16550.proofs.StateFormat.{com1_format}
use Rattle.uart_16550.proofs.com1.Com1.load_state.Goals as goal

pub returns : goal.returns
returns c = record {
  loaded = loads com1_format c.args.fields.now _ c.read_state.result c.are_bytes.ensures.bytes
      c.read_state.ensures.took;
}
