use Rattle.std.proofs.Common.{sym}
use Rattle.script_spec.proofs.NumberTexts.{hex_read}
use Rattle.logs.proofs.read_reply.parse_read_value.Goals as goal

pub returns-clause-fits : goal.returns-clause-fits
returns-clause-fits c = (hex_read c.args.bytes c.args.field.now c.in_ok-value.value
    (sym c.in_ok-value.ensures.number)).1
