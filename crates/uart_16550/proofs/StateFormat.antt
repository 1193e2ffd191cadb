-- The states of the UART and of the serial port are spelled and read back.
use Rattle.std.proofs.Common.{◌≡◌, ◌≤◌, Bool, length, refl, arith}
use Rattle.byte_fields.proofs.Formats.{IsFormat, format_as, fields_format, ◌then◌, ◌&◌, last_field, plain_format}
use Rattle.byte_fields.proofs.Numbers.{Any, byte_to, any_byte, flag_format}
use Rattle.uart_16550.specs.Uart.{size_with}
use Rattle.uart_16550.specs.State.{registers_in, registers_bytes, registers_fields, AreRegisters, causes_of}
use Rattle.uart_16550.specs.State.{causes_bytes, causes_fields, receiver_of, receiver_bytes, receiver_fields}
use Rattle.uart_16550.specs.State.{IsReceiver, IsUart, uart_bytes, uart_fields, IsCom1, com1_bytes, com1_fields}

registers_format : IsFormat 6 registers_fields registers_bytes AreRegisters
unfolding registers_fields
registers_format =
    fields_format
    (byte_to 15 (omega arith) then λ ier good.
    any_byte then λ lcr good.
    byte_to 31 (omega arith) then λ mcr good.
    any_byte then λ scr good.
    any_byte then λ dll good.
    last_field _ any_byte)
    (λ r is. (
      (r.ier, omega (arith, is.ier)) & (r.lcr, is.lcr) & (r.mcr, omega (arith, is.mcr)) & (r.scr, is.scr)
          & (r.dll, is.dll) & (r.dlm, is.dlm),
      refl,
    ))
    (λ t. (omega (arith, t.1, t.2.1, t.2.2.1, t.2.2.2.1, t.2.2.2.2.1, t.2.2.2.2.2.1), refl))

causes_format : IsFormat 6 causes_fields causes_bytes Any
unfolding causes_fields
causes_format =
    fields_format
    (flag_format then λ overrun any.
    flag_format then λ emptied any.
    flag_format then λ dcts any.
    flag_format then λ ddsr any.
    flag_format then λ teri any.
    last_field _ flag_format)
    (λ c any. ((c.overrun, tt) & (c.emptied, tt) & (c.dcts, tt) & (c.ddsr, tt) & (c.teri, tt) & (c.ddcd, tt), refl))
    (λ t. (tt, refl))

-- ---- the receiver

size_small : (fifos : Bool) → size_with fifos ≤ 16
size_small fifos = grind arith

receiver_format : IsFormat 18 receiver_fields receiver_bytes IsReceiver
unfolding receiver_fields
receiver_format =
    fields_format
    (flag_format then λ fifos any.
    byte_to (size_with fifos) (omega (arith, size_small fifos)) then λ count few.
    last_field _ (format_as 16 (λ bytes. bytes) (λ bytes. length bytes ≡ count) (plain_format count)
    (omega (arith, few, size_small fifos)) (λ bytes is. is) (λ bytes is. is) (λ bytes is. refl)))
    (λ r is. ((r.fifos, tt) & (length r.queue, is) & (r.queue, refl), refl))
    (λ t. rw (t.2.2.1) (t.2.1, refl))

-- ---- the UART

pub uart_format : IsFormat 30 uart_fields uart_bytes IsUart
unfolding uart_fields
uart_format =
    fields_format
    (registers_format then λ registers are.
    causes_format then λ causes any.
    last_field _ receiver_format)
    (λ u is. ((registers_in u, is.registers) & (causes_of u, tt) & (receiver_of u, is.receiver), refl))
    (λ t. (record { registers = t.1; receiver = t.2.2.1 }, refl))

pub com1_format : IsFormat 31 com1_fields com1_bytes IsCom1
unfolding com1_fields
com1_format =
    fields_format
    (flag_format then λ script_level any.
    last_field _ uart_format)
    (λ c is. ((c.script_level, tt) & (c.uart, is), refl))
    (λ t. (t.2.1, refl))
