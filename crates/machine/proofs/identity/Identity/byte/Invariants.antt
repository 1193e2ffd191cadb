use Rattle.std.proofs.Common.{◌≡◌, drop}
use Rattle.machine.specs.Header.{byte_said, fields_of}
use Rattle.machine.proofs.identity.Identity.byte.Given as goal

abbrev pub invariant-loop-field : goal.invariant-loop-field
invariant-loop-field l = record {
  items : l.field-items ≡ fields_of l.self;
  rest : byte_said (drop l.field-index l.field-items) l.off l.old ≡ byte_said l.field-items l.off l.old;
}
