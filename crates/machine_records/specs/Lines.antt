-- What stands between two steps: the interrupt lines, and the serial port.
use Rattle.std.specs.Prelude.{ℕ, ◌≡◌, List, length, replicate}
use Rattle.board_prelude.specs.{Entry, byte_of_levels, levels_of}
use Rattle.pic_pair.specs.Lines.{heard_lines}
use Rattle.board_chipset.specs.Chipset.{Running, IsLeftBy}
use Rattle.uart_16550.specs.declared.com1.Com1.{Com1}
use Rattle.uart_16550.specs.Reads.{registers_of}
use Rattle.machine_records.specs.declared.lines.SerialRecord.{SerialRecord}
use Rattle.machine_records.specs.Numbers.{flag}
use Rattle.machine_records.specs.Maps.{filled}

-- sixteen bits, of which bit k is the level of line k as it reached the pair of 8259A last. Of a chipset that a history
-- left they are the levels of the lines after it: the number whose binary digits, the lowest first, are the levels
pub record AreLinesOf (chipset : Running) (bits : ℕ) : Type 0 where
  pub held : bits ≡ heard_lines chipset.state.devices.pair
  pub left : (history : List Entry) → IsLeftBy chipset history → bits ≡ byte_of_levels (levels_of chipset.setup history)

-- the bytes that were received and not read, the next to be read first, with zeros behind them; what reads of the
-- registers would give; whether THR became empty and IIR was not read with that cause since; and the level that events
-- gave line 4 last
abbrev pub serial_state_said : Com1 → SerialRecord
serial_state_said com1 =
    let registers = registers_of com1.uart in
    record {
      received = filled com1.uart.queue (replicate 16 0);
      count = length com1.uart.queue;
      ier = registers.ier;
      iir = registers.iir;
      lcr = registers.lcr;
      mcr = registers.mcr;
      lsr = registers.lsr;
      msr = registers.msr;
      scr = registers.scr;
      dll = registers.dll;
      dlm = registers.dlm;
      emptied = flag com1.uart.emptied;
      irq4 = flag com1.script_level;
      reserved = 0;
    }
