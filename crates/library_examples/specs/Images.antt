-- Worked examples of the bytes of an image: the number of a base is its power of two, bit 7 is set where it is for
-- ports, and bit 6, in a running board alone, where the board keeps no bytes of it.
use Rattle.std.specs.Prelude.{ℕ, ◌≡◌, ◌++◌, false, true, List, [], ◌∷◌, map, Option, Some, None, Result, Ok, Err}
use Rattle.board_prelude.specs.{MemoryBase, IoBase, OutsideBase, FittedCard}
use Rattle.board_image.specs.ImageBytes.{card_bytes}
use Rattle.board_image.specs.ImageFields.{card_fields, head_fields}

-- a plain card at device 3 with 4 KiB of memory and 16 ports, and as an image has it
abbrev pub port_card : FittedCard
port_card = record { dev = 3; vga = false; bases = MemoryBase 12 ∷ IoBase 4 ∷ []; rom = None }

abbrev pub port_card_bytes : List ℕ
port_card_bytes = 3 ∷ 0 ∷ 0 ∷ 2 ∷ 0x0C ∷ 0x84 ∷ []

-- what is read of bytes where a first card may stand in an image: it, and the bytes left, or how many are left from the
-- bad field on
abbrev pub read_card : List ℕ → Result (FittedCard × List ℕ) ℕ
read_card bytes = card_fields false 1 0x400_0000 bytes

-- and in the bytes of a running board, whose cards may have bases of which the board keeps no bytes
abbrev pub read_running : List ℕ → Result (FittedCard × List ℕ) ℕ
read_running bytes = card_fields true 1 0x400_0000 bytes

-- a card with one base of this number
abbrev pub with_base : ℕ → List ℕ
with_base byte = 3 ∷ 0 ∷ 0 ∷ 1 ∷ byte ∷ []

abbrev pub with_ports : ℕ → FittedCard
with_ports bits = record { dev = 3; vga = false; bases = IoBase bits ∷ []; rom = None }

pub record PortsKept : Type 0 where
  pub written : card_bytes port_card ≡ port_card_bytes
  pub read : read_card port_card_bytes ≡ Ok (port_card, [])
  pub fewest : read_card (with_base 0x82) ≡ Ok (with_ports 2, [])
  pub most : read_card (with_base 0x88) ≡ Ok (with_ports 8, [])
  pub too_few : read_card (with_base 0x81) ≡ Err 1
  pub too_many : read_card (with_base 0x89) ≡ Err 1
  pub other_bit : read_card (with_base 0x24) ≡ Err 1

-- a plain card at device 3 with 256 MiB outside the board and 4 KiB of memory, and as an image has it
abbrev pub frame_card : FittedCard
frame_card = record { dev = 3; vga = false; bases = OutsideBase 28 ∷ MemoryBase 12 ∷ []; rom = None }

abbrev pub frame_card_bytes : List ℕ
frame_card_bytes = 3 ∷ 0 ∷ 0 ∷ 2 ∷ 0x5C ∷ 0x0C ∷ []

abbrev pub with_outside : ℕ → FittedCard
with_outside bits = record { dev = 3; vga = false; bases = OutsideBase bits ∷ []; rom = None }

-- it takes none of the memory that is left for cards
pub record OutsideKept : Type 0 where
  pub written : card_bytes frame_card ≡ frame_card_bytes
  pub read : card_fields true 1 0x1000 frame_card_bytes ≡ Ok (frame_card, [])
  pub least : read_running (with_base 0x44) ≡ Ok (with_outside 4, [])
  pub too_little : read_running (with_base 0x43) ≡ Err 1
  pub too_much : read_running (with_base 0x5D) ≡ Err 1
  pub both_bits : read_running (with_base 0xC4) ≡ Err 1
  -- no image has one
  pub least_in_image : read_card (with_base 0x44) ≡ Err 1
  pub most_in_image : read_card (with_base 0x5C) ≡ Err 1
  pub both_in_image : read_card (with_base 0xC4) ≡ Err 1

-- ---- the head: `BOARDIMG`, version 1, MiB, cards, whether there is a disk, a byte that is reserved, and four bytes
-- each for the length of the ROM, that of the disk, and the number of steps, the low byte first

abbrev pub head_with : (version mib cards disk reserved : ℕ) → (sizes : List ℕ) → List ℕ
head_with version mib cards disk reserved sizes =
    0x42 ∷ 0x4F ∷ 0x41 ∷ 0x52 ∷ 0x44 ∷ 0x49 ∷ 0x4D ∷ 0x47 ∷ version ∷ 0 ∷ mib ∷ cards ∷ disk ∷ reserved ∷ sizes

-- a ROM of 64 KiB, no disk, and no step
abbrev pub plain_sizes : List ℕ
plain_sizes = 0 ∷ 0 ∷ 1 ∷ 0 ∷ 0 ∷ 0 ∷ 0 ∷ 0 ∷ 0 ∷ 0 ∷ 0 ∷ 0 ∷ []

-- a ROM of 64 KiB and a disk of this many bytes, or this many steps on no disk
abbrev pub disk_size : List ℕ → List ℕ
disk_size bytes = 0 ∷ 0 ∷ 1 ∷ 0 ∷ (bytes ++ 0 ∷ 0 ∷ 0 ∷ 0 ∷ [])

abbrev pub step_count : List ℕ → List ℕ
step_count bytes = 0 ∷ 0 ∷ 1 ∷ 0 ∷ 0 ∷ 0 ∷ 0 ∷ 0 ∷ bytes

-- how many bytes are left from the first bad field of a head on; None where all are good
abbrev pub left_of : {A : Type 0} → Result A ℕ → Option ℕ
left_of (Ok read) = None
left_of (Err left) = Some left

abbrev pub bad_from : List ℕ → Option ℕ
bad_from bytes = left_of (head_fields bytes)

pub record HeadBorders : Type 0 where
  pub versions : map (λ version. bad_from (head_with version 8 0 0 0 plain_sizes)) (0 ∷ 1 ∷ 2 ∷ [])
      ≡ Some 18 ∷ None ∷ Some 18 ∷ []
  pub memory :
      map (λ mib. bad_from (head_with 1 mib 0 0 0 plain_sizes)) (0 ∷ 1 ∷ 64 ∷ 65 ∷ [])
      ≡ Some 16 ∷ None ∷ None ∷ Some 16 ∷ []
  pub cards : map (λ cards. bad_from (head_with 1 8 cards 0 0 plain_sizes)) (0 ∷ 8 ∷ 9 ∷ [])
      ≡ None ∷ None ∷ Some 15 ∷ []
  pub flag : bad_from (head_with 1 8 0 2 0 plain_sizes) ≡ Some 14
  pub reserved : bad_from (head_with 1 8 0 0 1 plain_sizes) ≡ Some 13
  pub rom : bad_from (head_with 1 8 0 0 0 (1 ∷ 0 ∷ 1 ∷ 0 ∷ 0 ∷ 0 ∷ 0 ∷ 0 ∷ 0 ∷ 0 ∷ 0 ∷ 0 ∷ [])) ≡ Some 12
  -- of 512 bytes, of 33,554,432, of a sector more, and of none
  pub disks :
      map (λ bytes. bad_from (head_with 1 8 0 1 0 (disk_size bytes)))
      ((0 ∷ 2 ∷ 0 ∷ 0 ∷ []) ∷ (0 ∷ 0 ∷ 0 ∷ 2 ∷ []) ∷ (0 ∷ 2 ∷ 0 ∷ 2 ∷ []) ∷ (0 ∷ 0 ∷ 0 ∷ 0 ∷ []) ∷ [])
      ≡ None ∷ None ∷ Some 8 ∷ Some 8 ∷ []
  pub no_disk : bad_from (head_with 1 8 0 0 0 (disk_size (0 ∷ 2 ∷ 0 ∷ 0 ∷ []))) ≡ Some 8
  -- 250,000 and 250,001
  pub steps :
      map (λ bytes. bad_from (head_with 1 8 0 0 0 (step_count bytes)))
      ((0x90 ∷ 0xD0 ∷ 3 ∷ 0 ∷ []) ∷ (0x91 ∷ 0xD0 ∷ 3 ∷ 0 ∷ []) ∷ [])
      ≡ None ∷ Some 4 ∷ []

-- ---- cards: devices in rising order to 9, six bases, expansion ROMs of 2 KiB to 16 MiB, and the memory that is left

abbrev pub card_from : (above room : ℕ) → List ℕ → Option ℕ
card_from above room bytes = left_of (card_fields false above room bytes)

pub record CardFieldBorders : Type 0 where
  pub devices :
      map (λ dev. card_from 1 0x400_0000 (dev ∷ 0 ∷ 0 ∷ 0 ∷ [])) (1 ∷ 2 ∷ 9 ∷ 10 ∷ [])
      ≡ Some 4 ∷ None ∷ None ∷ Some 4 ∷ []
  pub rising : map (λ above. card_from above 0x400_0000 (5 ∷ 0 ∷ 0 ∷ 0 ∷ [])) (4 ∷ 5 ∷ []) ≡ None ∷ Some 4 ∷ []
  pub roms :
      map (λ rom. card_from 1 0x400_0000 (5 ∷ 0 ∷ rom ∷ 0 ∷ [])) (0 ∷ 10 ∷ 11 ∷ 24 ∷ 25 ∷ [])
      ≡ None ∷ Some 2 ∷ None ∷ None ∷ Some 2 ∷ []
  pub six : card_from 1 0x400_0000 (5 ∷ 0 ∷ 0 ∷ 6 ∷ 0x82 ∷ 0x82 ∷ 0x82 ∷ 0x82 ∷ 0x82 ∷ 0x82 ∷ []) ≡ None
  pub seven : card_from 1 0x400_0000 (5 ∷ 0 ∷ 0 ∷ 7 ∷ 0x82 ∷ 0x82 ∷ 0x82 ∷ 0x82 ∷ 0x82 ∷ 0x82 ∷ 0x82 ∷ []) ≡ Some 8
  pub bases :
      map (λ bits. card_from 1 0x400_0000 (5 ∷ 0 ∷ 0 ∷ 1 ∷ bits ∷ [])) (3 ∷ 4 ∷ 24 ∷ 25 ∷ [])
      ≡ Some 1 ∷ None ∷ None ∷ Some 1 ∷ []
  pub room : map (λ room. card_from 1 room (5 ∷ 0 ∷ 0 ∷ 1 ∷ 12 ∷ [])) (4_096 ∷ 4_095 ∷ []) ≡ None ∷ Some 1 ∷ []
