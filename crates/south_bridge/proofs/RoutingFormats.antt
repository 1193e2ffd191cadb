-- The states of the registers are spelled and read back.
use Rattle.std.proofs.lemmas.Bool.Decides.{nat_tests}
use Rattle.std.proofs.Common.{arith}
use Rattle.byte_fields.proofs.Formats.{IsFormat, plain_format}
use Rattle.south_bridge.specs.RoutingState.{IsRoutes, routes_bytes, routes_fields, AreTriggers, triggers_bytes, triggers_fields}

pub routes_format : IsFormat 4 routes_fields routes_bytes IsRoutes
routes_format = plain_format 4

pub triggers_format : IsFormat 2 triggers_fields triggers_bytes AreTriggers
unfolding triggers_fields
triggers_format = grind (arith, nat_tests)
