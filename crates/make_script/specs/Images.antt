-- The bytes of the ROM and of the disk that a script that is made names. They are not read from files.
use Rattle.std.specs.Prelude.{ℕ, ◌/◌, ◌%◌, ◌*◌, List, map}
use Rattle.std.specs.List.{range_with_len}

-- 65,536 bytes, the byte at an offset being the offset modulo 256
unfoldable pub rom_image : List ℕ
rom_image = map (λ offset. offset % 256) (range_with_len 0 0x1_0000)

-- 64 sectors of 512 bytes, each byte of sector s being s
unfoldable pub disk_image : List ℕ
disk_image = map (λ offset. offset / 512) (range_with_len 0 (64 * 512))
