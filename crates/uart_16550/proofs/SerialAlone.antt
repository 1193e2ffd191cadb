-- Bytes that are the state of a chipset with a serial port, with nothing behind it.
use Rattle.std.proofs.Common.{◌≡◌, ℕ, ◌+◌, ◌≤◌, inl, inr, false, List, [], length, Ok, Err, refl, sym, ap, ◌∙◌}
use Rattle.board_prelude.proofs.{append-nil, Setup, IsSetup}
use Rattle.byte_fields.specs.Fields.{AreBytes}
use Rattle.byte_fields.proofs.Formats.{IsFormat, fields_format, ◌then◌, ◌&◌, last_field}
use Rattle.board_chipset.specs.Alone.{alone}
use Rattle.board_chipset.specs.Chipset.{Running}
use Rattle.board_chipset.specs.ChipsetState.{is_other_version}
use Rattle.board_chipset.proofs.Marks.{alone_bad}
use Rattle.board_chipset.proofs.ChipsetFormats.{IsBareChipset, most_chipset, chipset_format}
use Rattle.board_chipset.proofs.ChipsetLoads.{of_version}
use Rattle.uart_16550.specs.Serial.{Serial}
use Rattle.uart_16550.specs.State.{IsCom1, com1_bytes}
use Rattle.uart_16550.specs.SerialState.{IsSerial, LoadsSerial, IsBadSerialAt, serial_bytes, serial_fields}
use Rattle.uart_16550.proofs.StateFormat.{com1_format}

-- where one was read, the bytes of one alone are its, and nothing is behind them
pub alone_is : {setup : Setup} {before mid : List ℕ} {serial : Serial Running} →
    LoadsSerial setup before mid (Ok serial) → (other : Serial Running) → other.board.setup ≡ setup → IsSerial other →
    before ≡ serial_bytes other → (serial ≡ other) × (mid ≡ [])
alone_is loads other same is begins =
    elim (loads.exact other [] same is (begins ∙ sym (append-nil (serial_bytes other)))) [
      | inl none ↦ absurd cc
      | inr one ↦ (let is = one.0 in cc, one.1)
    ]

-- ---- the place of what is bad

serial_format : (setup : Setup) → IsSetup setup → IsFormat (most_chipset setup + 31)
    (serial_fields setup) serial_bytes (λ serial. IsBareChipset setup serial.board × IsCom1 serial.com1)
unfolding serial_fields
serial_format setup fits =
    fields_format
    (chipset_format setup fits then λ board good.
    last_field _ com1_format)
    (λ s is. ((s.board, is.0) & (s.com1, is.1), refl))
    (λ t. ((t.1, t.2.1), refl))

pub bad_within : {setup : Setup} {bytes all : List ℕ} (after : List ℕ) → IsSetup setup → AreBytes bytes → all ≡ bytes →
    alone (serial_fields setup) all ≡ Err (length after) →
    (length after ≤ length bytes) × ((at : ℕ) → at + length after ≡ length bytes → IsBadSerialAt setup bytes at)
bad_within {setup} {bytes} after fits are same is =
    let read = rw same at is in (
      alone_bad (serial_format setup fits) bytes (length after) are read,
      λ at place. record { left = length after; place = place; bad = read },
    )

-- ---- the version

-- the bytes are of this version
pub own_version : (serial : Serial Running) (bytes : List ℕ) → bytes ≡ serial_bytes serial →
    is_other_version bytes ≡ false
own_version serial bytes is = ap is_other_version is ∙ of_version serial.board (com1_bytes serial.com1)
