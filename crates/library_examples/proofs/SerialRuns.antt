-- The examples are computed from the definitions.
use Rattle.std.proofs.Common.{rules}
use Rattle.uart_16550.specs.Reads.{value_of, after_value}
use Rattle.uart_16550.specs.Writes.{with_value}
use Rattle.library_examples.specs.Serial.{given, told, scratched, LoopedLeavesEmpty, SentLeavesEmpty, QueueBorders}
use Rattle.library_examples.specs.Serial.{EachPort}

pub serial : LoopedLeavesEmpty × SentLeavesEmpty × QueueBorders × EachPort
unfolding LoopedLeavesEmpty SentLeavesEmpty QueueBorders given told scratched value_of after_value with_value
serial = search rules
