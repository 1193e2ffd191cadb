-- Worked examples of the UART, by the PC16550D data sheet: what is done to it, line by line, and what it gives.
use Rattle.std.specs.Prelude.{ℕ, ◌≡◌, Bool, true, false, List, [], ◌∷◌, ◌++◌, map, replicate, Some, None}
use Rattle.board_prelude.specs.{Width, One, PortAccess}
use Rattle.board_base.specs.declared.access.Width.TheVariants.{Two, Four}
use Rattle.uart_16550.specs.declared.com1.SerialReply.TheVariants.{Uart as FromUart}
use Rattle.uart_16550.specs.Uart.{Uart, uart_at_reset, received}
use Rattle.uart_16550.specs.Reads.{byte_read, after_read}
use Rattle.uart_16550.specs.Writes.{after_write}
use Rattle.uart_16550.specs.Com1.{is_for_uart, uart_after, uart_reply}

-- a write at an offset, a read there and the byte that it gives, a byte from outside
pub data Line : Type 0 where
  Out : (off byte : ℕ) → Line
  In : (off byte : ℕ) → Line
  Receives : (byte : ℕ) → Line

abbrev pub after : Line → Uart → Uart
after (Out off byte) uart = after_write uart off byte
after (In off byte) uart = after_read uart off
after (Receives byte) uart = received uart byte

-- what the UART gives over the lines, from a state on, and what the lines say that it gives
unfoldable pub given : List Line → Uart → List ℕ
given [] uart = []
given (Out off byte ∷ rest) uart = given rest (after (Out off byte) uart)
given (In off byte ∷ rest) uart = byte_read uart off ∷ given rest (after (In off byte) uart)
given (Receives byte ∷ rest) uart = given rest (after (Receives byte) uart)

unfoldable pub told : List Line → List ℕ
told [] = []
told (In off byte ∷ rest) = byte ∷ told rest
told (_ ∷ rest) = told rest

-- from a reset on, the UART gives what the lines say
abbrev pub Answers : List Line → Type 0
Answers lines = given lines uart_at_reset ≡ told lines

-- in loopback a byte that is written to THR leaves it empty too: the interrupt of the empty THR comes, once, also where
-- the byte found the queue full and is lost
abbrev pub looped_leaves_empty : List Line
looped_leaves_empty =
    Out 4 0x10 ∷ Out 1 0x02 ∷ In 2 0x02 ∷ In 2 0x01
    ∷ Out 0 0x41 ∷ In 2 0x02 ∷ In 2 0x01 ∷ In 5 0x61
    ∷ Out 0 0x42 ∷ In 2 0x02 ∷ In 2 0x01 ∷ In 5 0x63 ∷ In 0 0x41 ∷ In 5 0x60 ∷ []

unfoldable pub LoopedLeavesEmpty : Type 0
LoopedLeavesEmpty = Answers looped_leaves_empty

-- out of loopback so does a byte that is sent
abbrev pub sent_leaves_empty : List Line
sent_leaves_empty = Out 1 0x02 ∷ In 2 0x02 ∷ In 2 0x01 ∷ Out 0 0x41 ∷ In 2 0x02 ∷ In 2 0x01 ∷ In 5 0x60 ∷ []

unfoldable pub SentLeavesEmpty : Type 0
SentLeavesEmpty = Answers sent_leaves_empty

-- with FIFOs sixteen bytes wait, and a seventeenth is lost; without, one waits (PC16550D, 8.5)
abbrev pub sent_back : (count : ℕ) → List Line
sent_back count = replicate count (Out 0 0x41)

unfoldable pub QueueBorders : Type 0
QueueBorders =
    Answers (Out 2 0x01 ∷ Out 4 0x10 ∷ sent_back 16 ++ (In 5 0x61 ∷ []))
    × Answers (Out 2 0x01 ∷ Out 4 0x10 ∷ sent_back 17 ++ (In 5 0x63 ∷ In 5 0x61 ∷ []))
    × Answers (Out 4 0x10 ∷ sent_back 1 ++ (In 5 0x61 ∷ In 0 0x41 ∷ In 5 0x60 ∷ []))
    × Answers (Out 4 0x10 ∷ sent_back 2 ++ (In 5 0x63 ∷ []))

-- ---- the ports: eight, of a byte each, the last of which is the scratch register's

abbrev pub access : Bool → Width → (port value : ℕ) → PortAccess
access write width port value = record { write = write; port = port; width = width; value = value }

abbrev pub reads : Width → ℕ → PortAccess
reads width port = access false width port 0

unfoldable pub scratched : Uart
scratched = uart_after (access true One 0x3FF 0x5A) uart_at_reset

pub record EachPort : Type 0 where
  pub bytes :
      map (λ port. is_for_uart (reads One port)) (0x3F7 ∷ 0x3F8 ∷ 0x3F9 ∷ 0x3FE ∷ 0x3FF ∷ 0x400 ∷ [])
      ≡ false ∷ true ∷ true ∷ true ∷ true ∷ false ∷ []
  pub words : map (λ port. is_for_uart (reads Two port)) (0x3F8 ∷ 0x3FE ∷ []) ≡ false ∷ false ∷ []
  pub longs : map (λ port. is_for_uart (reads Four port)) (0x3F8 ∷ 0x3FC ∷ []) ≡ false ∷ false ∷ []
  pub scratch : uart_reply (reads One 0x3FF) scratched ≡ FromUart (Some 0x5A) None
  pub others : uart_reply (reads One 0x3FE) scratched ≡ FromUart (Some 0xB0) None
