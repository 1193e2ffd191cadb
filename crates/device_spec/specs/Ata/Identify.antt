-- The words of IDENTIFY DEVICE for a disk of n sectors (ATA, IDENTIFY DEVICE).
use Rattle.std.specs.Prelude.{ℕ, ◌+◌, ◌-◌, ◌*◌, ◌/◌, ◌%◌, ◌==◌, nat_le, ◌&&◌, ◌||◌, min, max, if◌then◌else◌, List}
use Rattle.std.specs.Prelude.{slice_index_or, codes}
use Rattle.device_spec.specs.Ata.Address.{track_sectors, heads, cylinder_sectors}

-- the cylinders of the default geometry of 16 heads and 63 sectors
abbrev pub cylinders_of : ℕ → ℕ
cylinders_of n = max 1 (n / cylinder_sectors)

-- the sectors that this geometry reaches
abbrev pub chs_sectors : ℕ → ℕ
chs_sectors n = min (cylinders_of n * cylinder_sectors) n

-- a word of a text that is padded with spaces: its first character is in the high byte (ATA, IDENTIFY DEVICE, Serial
-- number)
abbrev pub text_word : List ℕ → ℕ → ℕ
text_word text k = 256 * slice_index_or text (2 * k) 32 + slice_index_or text (2 * k + 1) 32

-- The words that are not 0: general configuration, geometry and capacity (ATA, IDENTIFY DEVICE).
abbrev pub number_word : ℕ → ℕ → ℕ
number_word n k =
    if k == 0 then 0x0040
    else (if (k == 1) || (k == 54) then cylinders_of n
    else (if (k == 3) || (k == 55) then heads
    else (if (k == 6) || (k == 56) then track_sectors
    else (if k == 49 then 0x0200
    else (if k == 53 then 0x0001
    else (if k == 57 then chs_sectors n % 65536
    else (if k == 58 then chs_sectors n / 65536
    else (if k == 60 then n % 65536
    else (if k == 61 then n / 65536
    else 0)))))))))

-- Word k: serial number in 10 to 19, firmware revision in 23 to 26, model number in 27 to 46.
unfoldable pub identify_word : ℕ → ℕ → ℕ
identify_word n k =
    if nat_le 10 k && nat_le k 19 then text_word (codes "BOARD0001") (k - 10)
    else (if nat_le 23 k && nat_le k 26 then text_word (codes "1.0") (k - 23)
    else (if nat_le 27 k && nat_le k 46 then text_word (codes "BOARD DISK") (k - 27)
    else number_word n k))
