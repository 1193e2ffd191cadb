-- Where an access of a bus master would land, in numbers.
use Rattle.std.specs.Prelude.{ℕ, ◌≡◌, ◌≢◌, ◌⊎◌, ◌%◌, Bool, true, false, List, Some}
use Rattle.board_prelude.specs.{Bytes, Width, Kind, Read, Write, bytes_of, Entry, byte_of, is_smram_range}
use Rattle.board_chipset.specs.Chipset.{Running, IsLeftBy}
use Rattle.board_chipset.specs.Masters.{master_part}
use Rattle.board_chipset.specs.Held.{HoldsBytes}
use Rattle.machine_records.specs.declared.reply.PartRecord.{PartRecord}
use Rattle.machine_records.specs.Events.{width_said}
use Rattle.machine_records.specs.Numbers.{dram_target, shadow_target, smram_target}
use Rattle.machine_records.specs.Replies.{of_part}

abbrev pub master_kind : (is_write : Bool) → Kind
master_kind true = Write
master_kind false = Read

-- one bus cycle makes the access: it is of 1, 2 or 4 bytes, at a multiple of them
abbrev pub IsMasterCycle : (addr bytes : ℕ) → Type 0
IsMasterCycle addr bytes = (width : Width) × (width_said bytes ≡ Some width) × (addr % bytes_of width ≡ 0)

-- it can be made, and what would answer it and deny it is told: never SMRAM, nor memory at A0000h to BFFFFh
pub record IsMasterPlaced (chipset : Running) (addr bytes : ℕ) (is_write : Bool) (said : PartRecord) : Type 0 where
  pub cycle : IsMasterCycle addr bytes
  pub part : (history : List Entry) → IsLeftBy chipset history →
      said ≡ of_part (master_part chipset.setup (byte_of chipset.setup history) (master_kind is_write) addr)
  pub held : (registers : Bytes) → HoldsBytes chipset registers →
      said ≡ of_part (master_part chipset.setup registers (master_kind is_write) addr)
  pub no_smram : said.target ≢ smram_target
  pub outside : (said.target ≡ dram_target) ⊎ (said.target ≡ shadow_target) → is_smram_range addr ≡ false
