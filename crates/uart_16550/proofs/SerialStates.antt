-- The state of a chipset with a serial port is spelled and read back.
use Rattle.std.proofs.Common.{◌≡◌, ℕ, inr, List, ◌++◌, Ok, Err, refl, sym, ap, ◌∙◌, append_assoc, arith}
use Rattle.board_prelude.specs.{Setup}
use Rattle.byte_fields.specs.declared.fault.Bad.{Bad}
use Rattle.byte_fields.specs.declared.fault.Fault.TheVariants as faults
use Rattle.byte_fields.specs.Loads.{Loads}
use Rattle.board_chipset.specs.Chipset.{Running}
use Rattle.board_chipset.specs.ChipsetState.{LoadsChipset, chipset_bytes}
use Rattle.uart_16550.specs.declared.com1.Com1.{Com1}
use Rattle.uart_16550.specs.Serial.{Serial}
use Rattle.uart_16550.specs.State.{IsCom1, com1_bytes, com1_fields}
use Rattle.uart_16550.specs.SerialState.{IsSerial, LoadsSerial, serial_bytes, serial_fields}
use Rattle.std.proofs.lemmas.Bool.Decides.{nat_tests}

abbrev both : Running → Com1 → Serial Running
both board com1 = record { board = board; com1 = com1 }

module _ (setup : Setup) (before mid after : List ℕ) (board : Running)
    (one : LoadsChipset setup before mid (Ok board)) where
  -- what was read first is the chipset of each that the bytes begin with
  begun : (serial : Serial Running) (rest : List ℕ) → serial.board.setup ≡ setup → IsSerial serial →
      before ≡ serial_bytes serial ++ rest → (board ≡ serial.board) × (mid ≡ com1_bytes serial.com1 ++ rest)
  begun serial rest same sound begins = grind (arith, nat_tests, append_assoc)

  -- both were read
  pub loads_both : (com1 : Com1) → Loads com1_fields com1_bytes IsCom1 mid after (Ok com1) →
      LoadsSerial setup before after (Ok (both board com1))
  unfolding serial_fields
  loads_both com1 two = record {
    loaded = (
      one.loaded.0,
      record { chipset = one.loaded.1; port = two.loaded.0 },
      one.loaded.2 ∙ (ap (λ (rest : List ℕ). chipset_bytes board ++ rest) two.loaded.1
          ∙ sym (append_assoc (chipset_bytes board) (com1_bytes com1) after)),
    );
    exact = λ serial rest same sound begins.
        let first = begun serial rest same sound begins in
        let port = two.exact serial.com1 rest sound.port first.1 in
        let second : com1 ≡ serial.com1 = (let is = port.0 in cc) in
        inr (rw (first.0, second) refl, port.1);
    bad = rw (one.bad, two.bad) refl;
  }

  -- the port's was bad
  pub port_is_bad : (bad : Bad) → Loads com1_fields com1_bytes IsCom1 mid after (Err bad) →
      LoadsSerial setup before after (Err faults.Bad)
  unfolding serial_fields
  port_is_bad bad two = record {
    loaded = tt;
    exact = λ serial rest same sound begins.
        let port = two.exact serial.com1 rest sound.port (begun serial rest same sound begins).1 in
        absurd (let never = port.0 in cc);
    bad = rw (one.bad, two.bad) refl;
  }
