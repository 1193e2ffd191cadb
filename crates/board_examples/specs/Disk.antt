-- Worked examples of the disk: a board of 8 MiB with four sectors.
use Rattle.std.specs.Prelude.{ℕ, List, [], ◌∷◌, ◌++◌, replicate, Some}
use Rattle.board_prelude.specs.{One, Ata, Device, NoRegister, Setup, IsLegal}
use Rattle.board_base.specs.declared.access.Width.TheVariants.{Two, Four}
use Rattle.board_examples.specs.Words.{Said, from_reset, selects, inputs, outputs, gives, goes_to, lost, floats}
use Rattle.board_examples.specs.Words.{register, denied_by, puts, gets, spoils}
use Rattle.board_examples.specs.Basics.{small_board}

-- four sectors, each byte of sector s is s + 1
unfoldable pub four_sectors : List ℕ
four_sectors = replicate 512 0x01 ++ replicate 512 0x02 ++ replicate 512 0x03 ++ replicate 512 0x04

abbrev pub disk_board : Setup
disk_board = record small_board { disk = Some four_sectors }

-- the IDE function and its primary channel are enabled
abbrev pub enabled : List Said
enabled =
    selects 0x8000_0904
    ∷ outputs One 0xCFC 0x01 (goes_to (register 1 1 0x04))
    ∷ selects 0x8000_0940
    ∷ outputs Two 0xCFC 0x8000 (goes_to (register 1 1 0x40))
    ∷ []

-- a command, by LBA, on this many sectors from a low one on
abbrev pub commands : (count sector code : ℕ) → List Said
commands count sector code =
    puts Ata 0x1F6 0xE0
    ∷ puts Ata 0x1F2 count
    ∷ puts Ata 0x1F3 sector
    ∷ puts Ata 0x1F4 0x00
    ∷ puts Ata 0x1F5 0x00
    ∷ puts Ata 0x1F7 code
    ∷ []

-- the last sector is read, four bytes at a time, and then there is no sector 4: 255 of 256 are left
abbrev pub sector_read : List Said
sector_read =
    enabled
    ++ commands 0x00 0x03 0x20
    ++ gets Ata 0x1F7 0x58
    ∷ (replicate 128 (inputs Four 0x1F0 (gives 0x0404_0404 (Device Ata)))
    ++ gets Ata 0x1F7 0x51
    ∷ gets Ata 0x1F1 0x10
    ∷ gets Ata 0x1F2 0xFF
    ∷ gets Ata 0x1F3 0x04
    ∷ [])

unfoldable pub SectorRead : Type 0
SectorRead = IsLegal disk_board (from_reset sector_read)

-- a bad sector is not read. A write of it makes it good again, and its words are read back
abbrev pub bad_sector : List Said
bad_sector =
    enabled
    ++ spoils 1
    ∷ (commands 0x01 0x01 0x20
    ++ gets Ata 0x1F7 0x51
    ∷ gets Ata 0x1F1 0x40
    ∷ gets Ata 0x1F2 0x01
    ∷ puts Ata 0x1F7 0x30
    ∷ gets Ata 0x1F7 0x58
    ∷ (replicate 128 (outputs Four 0x1F0 0x0707_0707 (goes_to (Device Ata)))
    ++ gets Ata 0x1F7 0x50
    ∷ puts Ata 0x1F2 0x01
    ∷ puts Ata 0x1F3 0x01
    ∷ puts Ata 0x1F7 0x20
    ∷ inputs Four 0x1F0 (gives 0x0707_0707 (Device Ata))
    ∷ []))

unfoldable pub BadSector : Type 0
BadSector = IsLegal disk_board (from_reset bad_sector)

-- who denies the disk's ports: first the function's command, then the timing register of its channel
abbrev pub disabled_disk : List Said
disabled_disk =
    inputs One 0x1F7 (floats 0xFF (denied_by 1 1 0x04))
    ∷ selects 0x8000_0904
    ∷ outputs One 0xCFC 0x05 (goes_to (register 1 1 0x04))
    ∷ inputs One 0x1F7 (floats 0xFF (denied_by 1 1 0x40))
    ∷ selects 0x8000_0940
    ∷ outputs Two 0xCFC 0x7FFF (goes_to (register 1 1 0x40))
    ∷ outputs Two 0x1F0 0x1234 (lost (denied_by 1 1 0x40))
    ∷ outputs Two 0xCFC 0x8000 (goes_to (register 1 1 0x40))
    ∷ gets Ata 0x1F7 0x50
    ∷ gets Ata 0x3F6 0x50
    ∷ inputs One 0x1F0 (floats 0xFF NoRegister)
    ∷ inputs Two 0x1F2 (floats 0xFFFF NoRegister)
    ∷ []

unfoldable pub DisabledDisk : Type 0
DisabledDisk = IsLegal disk_board (from_reset disabled_disk)

-- without a disk no register denies it
abbrev pub no_disk : List Said
no_disk = enabled ++ inputs One 0x1F7 (floats 0xFF NoRegister) ∷ []

unfoldable pub NoDisk : Type 0
NoDisk = IsLegal small_board (from_reset no_disk)
