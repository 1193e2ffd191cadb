use Rattle.byte_fields.proofs.Loaded.{loads_with}
use Rattle.machine.proofs.FittedFormat.{fitting_format}
use Rattle.machine.proofs.fitted.read_fitted.Goals as goal

pub returns : goal.returns
returns c = record {
  loaded = loads_with fitting_format c.args.fields.now _ c.read.result c.are_bytes.ensures.bytes c.read.ensures.filled;
}
