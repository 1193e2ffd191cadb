-- The state of the register is spelled and read back.
use Rattle.std.proofs.Common.{refl, arith, ◌==◌}
use Rattle.board_prelude.proofs.{eq-eqb, eqb-true, kept_address}
use Rattle.byte_fields.proofs.Formats.{IsFormat, format_as}
use Rattle.byte_fields.proofs.Numbers.{where_format, wide32}
use Rattle.addr_decode.specs.AddressState.{IsAddress, address_bytes, address_fields}

pub address_format : IsFormat 4 address_fields address_bytes IsAddress
address_format =
    format_as 4 address_bytes IsAddress (where_format wide32 (λ n. kept_address n == n)) (omega arith)
    (λ address is. (is.small, eq-eqb (kept_address address) address is.kept))
    (λ address good. record { small = good.0; kept = eqb-true (kept_address address) address good.1 })
    (λ address good. refl)
