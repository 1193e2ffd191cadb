use Rattle.byte_fields.proofs.Loaded.{one_spelling}
use Rattle.uart_16550.proofs.StateFormat.{uart_format}
use Rattle.uart_16550.proofs.state.law_one_uart.Goals as goal

pub returns : goal.returns
returns c = record { one = one_spelling uart_format }
