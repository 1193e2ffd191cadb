use Rattle.byte_fields.proofs.Loaded.{loads_with}
use Rattle.board_devices.proofs.StateFormat.{devices_format}
use Rattle.board_devices.proofs.devices.Devices.load_state.Goals as goal

pub returns : goal.returns
returns c = record {
  loaded =
      loads_with (devices_format _ c.requires.fits) c.args.fields.now _ c.read_state.result c.are_bytes.ensures.bytes
      c.read_state.ensures.filled;
}
