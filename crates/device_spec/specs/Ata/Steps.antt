-- One access to a port of the disk: what is read, and the disk after it.
use Rattle.std.specs.Prelude.{ℕ, ◌+◌, ◌*◌, ◌/◌, ◌%◌, ◌==◌, Bool, false, ◌||◌, if◌then◌else◌, List, [], ◌∷◌, ◌++◌}
use Rattle.std.specs.Prelude.{length}
use Rattle.board_base.specs.declared.access.Width.{Width}
use Rattle.board_base.specs.declared.access.Width.TheVariants.{One, Two, Four}
use Rattle.board_base.specs.Bits.{is_bit}
use Rattle.board_base.specs.Access.{bytes_of}
use Rattle.device_spec.specs.Ata.State.{Medium, Registers, Activity, Ready, Failed, Reading, Writing, Identifying}
use Rattle.device_spec.specs.Ata.State.{Drive, Disk, sectors_of, word_at, stored, marked, device_byte, reset_drive}
use Rattle.device_spec.specs.Ata.State.{power_on_drive, status_of, is_drq}
use Rattle.device_spec.specs.Ata.Identify.{identify_word}
use Rattle.device_spec.specs.Ata.Commands.{ended, sector_read, sector_written, commanded}
use Rattle.board_base.specs.declared.target.Dev.TheVariants.{Ata}
use Rattle.device_spec.specs.PortNames.{disk_error_port, disk_count_port, disk_low_port, disk_mid_port, disk_high_port}
use Rattle.device_spec.specs.PortNames.{disk_device_port, disk_status_port, disk_control_port}
use Rattle.device_spec.specs.PortTable.{is_port_of}

-- The ports, by width: words at the data port, and bytes at the registers of the task file and at
-- device control (ATA, I/O register addresses; of four bytes: 82371SB, IDE data port).
abbrev pub is_ata_port : ℕ → Width → Bool
is_ata_port port width = is_port_of Ata port (bytes_of width)

-- The word that a read of the data port gives (ATA, Data register): FFFF where no word is to be read (this board's
-- choice).
abbrev pub activity_word : Medium → Activity → ℕ
activity_word medium Ready = 0xFFFF
activity_word medium Failed = 0xFFFF
activity_word medium (Reading sector word) = word_at medium sector word
activity_word medium (Writing sector bytes) = 0xFFFF
activity_word medium (Identifying word) = identify_word (sectors_of medium) word

abbrev pub word_of : Disk → ℕ
word_of disk = if is_drq disk.drive then activity_word disk.medium disk.drive.activity else 0xFFFF

-- The drive once a word was read (ATA, PIO data in commands).
abbrev pub after_activity_word : Medium → Activity → Drive → Drive
after_activity_word medium Ready drive = drive
after_activity_word medium Failed drive = drive
after_activity_word medium (Reading sector word) drive =
    if word == 255 then sector_read medium sector drive else record drive { activity = Reading sector (word + 1) }
after_activity_word medium (Writing sector bytes) drive = drive
after_activity_word medium (Identifying word) drive =
    if word == 255 then ended drive else record drive { activity = Identifying (word + 1) }

unfoldable pub after_word : Medium → Drive → Drive
after_word medium drive = if is_drq drive then after_activity_word medium drive.activity drive else drive

-- The disk once a word was written, its lower byte first: the 256th stores its sector (ATA, PIO data out commands).
abbrev pub bytes_written : ℕ → List ℕ → Disk → Disk
bytes_written sector bytes disk =
    if length bytes == 512
    then record {
      medium = stored disk.medium sector bytes;
      drive = sector_written (stored disk.medium sector bytes) sector (ended disk.drive);
    }
    else record disk { drive = record disk.drive { activity = Writing sector bytes } }

abbrev pub activity_written : Activity → ℕ → Disk → Disk
activity_written Ready word disk = disk
activity_written Failed word disk = disk
activity_written (Reading sector w) word disk = disk
activity_written (Writing sector bytes) word disk =
    bytes_written sector (bytes ++ word % 256 ∷ word / 256 ∷ []) disk
activity_written (Identifying w) word disk = disk

unfoldable pub word_written : ℕ → Disk → Disk
word_written word disk = if is_drq disk.drive then activity_written disk.drive.activity word disk else disk

-- A byte that is written to a register of the task file: not while words are to move, nor under SRST
-- (ATA, Command Block registers: not written while BSY or DRQ is 1).
abbrev pub with_register : ℕ → ℕ → Registers → Registers
with_register port byte r =
    if port == disk_error_port then record r { features = byte }
    else (if port == disk_count_port then record r { count = byte }
    else (if port == disk_low_port then record r { low = byte }
    else (if port == disk_mid_port then record r { mid = byte }
    else (if port == disk_high_port then record r { high = byte }
    else record r { device = device_byte byte }))))

unfoldable pub register_written : ℕ → ℕ → Drive → Drive
register_written port byte drive =
    if drive.registers.srst || is_drq drive then drive
    else record drive { registers = with_register port byte drive.registers }

-- Device control keeps SRST, bit 2, and nIEN, bit 1. SRST takes the request away, and as it goes the
-- signature stands (ATA, Device Control register).
abbrev pub with_control : ℕ → Registers → Registers
with_control byte r = record r { srst = is_bit byte 2; nien = is_bit byte 1 }

unfoldable pub control_written : ℕ → Drive → Drive
control_written byte drive =
    let r = with_control byte drive.registers in
    if is_bit byte 2 then record drive { registers = r; request = false }
    else (if drive.registers.srst then reset_drive r else record drive { registers = r })

-- What a read of a register gives: error, count, address, device, and else the status (ATA, I/O register addresses).
abbrev pub register_of : ℕ → Drive → ℕ
register_of port drive =
    if port == disk_error_port then drive.registers.error
    else (if port == disk_count_port then drive.registers.count
    else (if port == disk_low_port then drive.registers.low
    else (if port == disk_mid_port then drive.registers.mid
    else (if port == disk_high_port then drive.registers.high
    else (if port == disk_device_port then drive.registers.device
    else status_of drive)))))

-- The disk with another drive.
abbrev pub with_drive : Disk → Drive → Disk
with_drive disk drive = record disk { drive = drive }

abbrev pub word_read : Disk → Disk
word_read disk = with_drive disk (after_word disk.medium disk.drive)

-- What a read of a port gives. Four bytes are two words, the low one first.
abbrev pub read_of : ℕ → Width → Disk → ℕ
read_of port One disk = register_of port disk.drive
read_of port Two disk = word_of disk
read_of port Four disk = word_of disk + 65536 * word_of (word_read disk)

-- The disk after the read: the status at 1F7 takes the request away, and no other register changes anything
-- (ATA, Status register; Alternate Status register).
abbrev pub register_read : ℕ → Disk → Disk
register_read port disk = if port == disk_status_port then with_drive disk (record disk.drive { request = false })
    else disk

abbrev pub after_read : ℕ → Width → Disk → Disk
after_read port One disk = register_read port disk
after_read port Two disk = word_read disk
after_read port Four disk = word_read (word_read disk)

-- The disk after a write to a port.
abbrev pub byte_written : ℕ → ℕ → Disk → Disk
byte_written port byte disk =
    if port == disk_status_port then with_drive disk (commanded disk.medium byte disk.drive)
    else (if port == disk_control_port then with_drive disk (control_written byte disk.drive)
    else with_drive disk (register_written port byte disk.drive))

abbrev pub after_write : ℕ → Width → ℕ → Disk → Disk
after_write port One value disk = byte_written port (value % 256) disk
after_write port Two value disk = word_written (value % 65536) disk
after_write port Four value disk = word_written (value / 65536) (word_written (value % 65536) disk)

-- A hard reset: the drive is as at power-on, and the sectors stay as they are (ATA, power-on and hardware reset).
abbrev pub after_reset : Disk → Disk
after_reset disk = with_drive disk power_on_drive

-- A sector becomes bad.
abbrev pub after_bad : ℕ → Disk → Disk
after_bad sector disk = record disk { medium = marked disk.medium sector }
