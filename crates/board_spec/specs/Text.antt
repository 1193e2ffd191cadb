-- Words of the texts: hexadecimal digits in upper case, areas, registers, targets and denials.
use Rattle.std.specs.Prelude.{◌≡◌, ℕ, zero, suc, ◌+◌, ◌/◌, ◌%◌, ◌++◌, List, [], ◌∷◌, nat_lt, if◌then◌else◌, Option}
use Rattle.std.specs.Prelude.{Some, None, codes, decimal, bytes_eq, find, Bool, true, false}
use Rattle.board_base.specs.declared.target.Reg.{Reg}
use Rattle.board_base.specs.declared.target.Dev.{Dev}
use Rattle.board_base.specs.declared.target.Dev.TheVariants.{Reset, Pic0, Pic1, Pit, System, Keyboard, Elcr, Ata, Wires}
use Rattle.board_base.specs.declared.target.Dev.TheVariants.{Vector, Spurious, Confadd as AddressPort, Clock}
use Rattle.board_base.specs.declared.target.Area.{Area}
use Rattle.board_base.specs.declared.target.Target.{Target}
use Rattle.board_base.specs.declared.target.Target.TheVariants.{Dram, Shadow, Smram, Rom, Card, Device, Config, Abort}
use Rattle.board_base.specs.declared.target.Denial.{Denial}
use Rattle.board_base.specs.declared.target.Denial.TheVariants.{Register, Confadd, NoRegister}
use Rattle.board_base.specs.declared.target.Area.TheVariants.{Dram as DramArea, Shadow as ShadowArea}
use Rattle.board_base.specs.declared.target.Area.TheVariants.{Smram as SmramArea, Rom as RomArea, Card as CardArea}
use Rattle.board_base.specs.declared.target.Area.TheVariants.{Abort as AbortArea}
use Rattle.board_spec.specs.Bits.{byte}

abbrev pub space : ℕ
space = 0x20

abbrev pub line_feed : ℕ
line_feed = 0x0A

-- ---- numbers in hexadecimal

abbrev pub hex_digit : ℕ → ℕ
hex_digit n = if nat_lt (n % 0x10) 10 then 0x30 + n % 0x10 else 0x37 + n % 0x10

abbrev pub hex_byte : ℕ → List ℕ
hex_byte n = hex_digit (n / 0x10) ∷ hex_digit n ∷ []

-- a number in this many bytes, the highest first
abbrev pub hex_number : (bytes n : ℕ) → List ℕ
hex_number zero n = []
hex_number (suc bytes) n = hex_byte (byte n bytes) ++ hex_number bytes n

abbrev pub hex_word : ℕ → List ℕ
hex_word n = hex_number 2 n

abbrev pub hex_long : ℕ → List ℕ
hex_long n = hex_number 4 n

-- an offset in a ROM of at most 512 KiB, in five digits
abbrev pub hex_offset : ℕ → List ℕ
hex_offset n = hex_digit (byte n 2) ∷ hex_word n

-- ---- what answers

-- a register as device, function and offset, like 00.0.72
abbrev pub register_text : Reg → List ℕ
register_text reg = hex_byte reg.dev ++ codes "." ++ hex_digit reg.fun ∷ [] ++ codes "." ++ hex_byte reg.off

abbrev pub base_text : ℕ → ℕ → List ℕ
base_text dev base = codes "card:" ++ decimal dev ++ codes "." ++ decimal base

abbrev pub area_text : Area → List ℕ
area_text (DramArea row) = codes "dram:" ++ decimal row
area_text (ShadowArea row) = codes "shadow:" ++ decimal row
area_text SmramArea = codes "smram"
area_text RomArea = codes "rom"
area_text (CardArea dev base) = base_text dev base
area_text AbortArea = codes "abort"

-- the devices with one name, in the order of their numbers for C
abbrev pub named_devices : List Dev
named_devices =
    AddressPort ∷ Reset ∷ Pic0 ∷ Pic1 ∷ Pit ∷ System ∷ Keyboard ∷ Clock ∷ Elcr ∷ Ata ∷ Wires ∷ []

-- the word of a device, and of an acknowledge, which the number of a chip follows
abbrev pub device_word : Dev → List ℕ
device_word AddressPort = codes "confadd"
device_word Reset = codes "reset"
device_word Pic0 = codes "pic0"
device_word Pic1 = codes "pic1"
device_word Pit = codes "pit"
device_word System = codes "sys"
device_word Keyboard = codes "kbd"
device_word Clock = codes "clock"
device_word Elcr = codes "elcr"
device_word Ata = codes "ata"
device_word Wires = codes "wires"
device_word (Vector chip) = codes "vec"
device_word (Spurious chip) = codes "spur"

abbrev pub chip_text : Dev → List ℕ
chip_text (Vector chip) = decimal chip
chip_text (Spurious chip) = decimal chip
chip_text _ = []

abbrev pub device_text : Dev → List ℕ
device_text dev = device_word dev ++ chip_text dev

-- the device with one name that a word names
abbrev pub device_worded : List ℕ → Option Dev
device_worded field = find (λ dev. bytes_eq field (device_word dev)) named_devices

-- all but an acknowledge
abbrev pub has_one_name : Dev → Bool
has_one_name (Vector chip) = false
has_one_name (Spurious chip) = false
has_one_name _ = true

-- the text of a device with one name is read as this device
abbrev pub WordsApart : Type 0
WordsApart = (dev : Dev) → has_one_name dev ≡ true → device_worded (device_text dev) ≡ Some dev

abbrev pub target_text : Target → List ℕ
target_text (Dram row) = codes "dram:" ++ decimal row
target_text (Shadow row) = codes "shadow:" ++ decimal row
target_text Smram = codes "smram"
target_text (Rom off) = codes "rom:" ++ hex_offset off
target_text (Card dev base off) = base_text dev base ++ codes ":" ++ hex_long off
target_text (Device dev) = device_text dev
target_text (Config reg) = codes "config:" ++ register_text reg
target_text Abort = codes "abort"

abbrev pub denial_text : Option Denial → List ℕ
denial_text None = codes "-"
denial_text (Some (Register reg)) = register_text reg
denial_text (Some Confadd) = codes "confadd"
denial_text (Some NoRegister) = codes "none"
