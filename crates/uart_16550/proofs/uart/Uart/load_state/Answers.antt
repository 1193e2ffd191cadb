use Rattle.byte_fields.proofs.Loaded.{loads}
use Rattle.uart_16550.proofs.StateFormat.{uart_format}
use Rattle.uart_16550.proofs.uart.Uart.load_state.Goals as goal

pub returns : goal.returns
returns c = record {
  loaded = loads uart_format c.args.fields.now _ c.read_state.result c.are_bytes.ensures.bytes
      c.read_state.ensures.took;
}
