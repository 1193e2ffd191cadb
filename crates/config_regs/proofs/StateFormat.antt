-- The state of the registers is spelled and read back.
use Rattle.std.proofs.Common.{refl}
use Rattle.byte_fields.proofs.Formats.{IsFormat, fields_format, ◌then◌, ◌&◌, last_field}
use Rattle.south_bridge.proofs.RoutingFormats.{routes_format}
use Rattle.south_bridge.proofs.IdeFormat.{ide_format}
use Rattle.config_regs.specs.State.{IsSouth, south_bytes, south_fields}

pub south_format : IsFormat 7 south_fields south_bytes IsSouth
unfolding south_fields
south_format =
    fields_format (routes_format then λ routes good. last_field _ ide_format)
    (λ s is. ((s.routes, is.routes) & (s.ide, is.ide), refl)) (λ t. (record { routes = t.1; ide = t.2.1 }, refl))
