-- The sector that the address registers name, as a number, and how a number is written back.
use Rattle.std.specs.Prelude.{ℕ, ◌+◌, ◌-◌, ◌*◌, ◌/◌, ◌%◌, ◌==◌, nat_lt, ◌||◌, if◌then◌else◌, Option, Some, None}
use Rattle.device_spec.specs.Ata.State.{Registers, is_lba}

-- Every track has 63 sectors, which are counted from 1, and every cylinder has 16 heads (ATA, CHS translation; the
-- numbers are this board's choice).
abbrev pub track_sectors : ℕ
track_sectors = 63

abbrev pub heads : ℕ
heads = 16

abbrev pub cylinder_sectors : ℕ
cylinder_sectors = 1008

-- the head, or bits 27:24 of an LBA (ATA, Device/Head register)
abbrev pub head_of : Registers → ℕ
head_of r = r.device % 16

-- the 28-bit LBA (ATA, Sector Number, Cylinder Low and Cylinder High registers)
abbrev pub lba_of : Registers → ℕ
lba_of r = r.low + 256 * (r.mid + 256 * (r.high + 256 * head_of r))

-- the cylinder
abbrev pub cylinder_of : Registers → ℕ
cylinder_of r = r.mid + 256 * r.high

-- the sector by cylinder, head and sector, of which there is no sector 0 and none above 63
-- (ATA, Sector Number register)
abbrev pub chs_of : Registers → Option ℕ
chs_of r =
    if (r.low == 0) || nat_lt track_sectors r.low then None
    else Some ((cylinder_of r * heads + head_of r) * track_sectors + r.low - 1)

-- the sector that the registers name, in the form that the device register says
abbrev pub named : Registers → Option ℕ
named r = if is_lba r then Some (lba_of r) else chs_of r

-- the device register with another head
abbrev pub with_head : ℕ → ℕ → ℕ
with_head device head = device / 16 * 16 + head % 16

-- The registers that name a sector, in the same form.
abbrev pub naming : Registers → ℕ → Registers
naming r sector =
    if is_lba r
    then record r {
      low = sector % 256;
      mid = sector / 256 % 256;
      high = sector / 65536 % 256;
      device = with_head r.device (sector / 16777216);
    }
    else record r {
      low = sector % track_sectors + 1;
      mid = sector / cylinder_sectors % 256;
      high = sector / cylinder_sectors / 256 % 256;
      device = with_head r.device (sector / track_sectors);
    }

-- how many sectors are left once one more was moved: the count is modulo 256, so that 0 asks for 256
-- (ATA, Sector Count register)
abbrev pub left_of : Registers → ℕ
left_of r = (r.count + 255) % 256

-- the registers once a sector was moved
abbrev pub counted : Registers → Registers
counted r = record r { count = left_of r }
