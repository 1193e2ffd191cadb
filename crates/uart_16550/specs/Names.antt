-- The bits of a 16550's registers, by the names of National's PC16550D data sheet. A number counts from the lowest bit.
use Rattle.std.specs.Prelude.{ℕ}

-- IER, interrupt enable: received data available, THR empty, receiver line status, modem status (PC16550D, 8.7)
abbrev pub erbfi : ℕ
erbfi = 0

abbrev pub etbei : ℕ
etbei = 1

abbrev pub elsi : ℕ
elsi = 2

abbrev pub edssi : ℕ
edssi = 3

-- FCR, FIFO control: FIFO enable, receiver FIFO reset (PC16550D, 8.5)
abbrev pub fifo_enable : ℕ
fifo_enable = 0

abbrev pub receiver_reset : ℕ
receiver_reset = 1

-- LCR, line control: divisor latch access (PC16550D, 8.1)
abbrev pub dlab : ℕ
dlab = 7

-- MCR, modem control: data terminal ready, request to send, two outputs, loopback (PC16550D, 8.8)
abbrev pub dtr : ℕ
dtr = 0

abbrev pub rts : ℕ
rts = 1

abbrev pub out1 : ℕ
out1 = 2

abbrev pub out2 : ℕ
out2 = 3

abbrev pub loop_enable : ℕ
loop_enable = 4

-- LSR, line status: data ready, overrun error, THR empty, transmitter empty (PC16550D, 8.4)
abbrev pub dr : ℕ
dr = 0

abbrev pub oe : ℕ
oe = 1

abbrev pub thre : ℕ
thre = 5

abbrev pub temt : ℕ
temt = 6

-- MSR, modem status: clear to send, data set ready, ring indicator, data carrier detect; and in bits 0 to 3 that CTS or
-- DSR changed, that RI ended, that DCD changed (PC16550D, 8.9)
abbrev pub dcts : ℕ
dcts = 0

abbrev pub ddsr : ℕ
ddsr = 1

abbrev pub teri : ℕ
teri = 2

abbrev pub ddcd : ℕ
ddcd = 3

abbrev pub cts : ℕ
cts = 4

abbrev pub dsr : ℕ
dsr = 5

abbrev pub ri : ℕ
ri = 6

abbrev pub dcd : ℕ
dcd = 7
