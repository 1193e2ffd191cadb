-- What `dma` asks of a bus master after a replay, and the text of the transfer.
use Rattle.std.specs.Prelude.{ℕ, zero, suc, ◌≡◌, ◌+◌, ◌*◌, ◌++◌, ◌∷◌, [], List, slice_index, codes, decimal, Option}
use Rattle.std.specs.Prelude.{Some, None, if◌then◌else◌}
use Rattle.board_prelude.specs.{Disk, sectors_of, Entry, Setup, installed, byte_of, DramCell, CardCell, dram_byte}
use Rattle.board_prelude.specs.{card_byte, expansion_byte, rom_base, disk_of, IsReplayOf, space, line_feed, hex_byte}
use Rattle.board_prelude.specs.{hex_long, denial_text}
use Rattle.pci_bars.specs.Contents.{IsBaseNumber}
use Rattle.bus_master.specs.declared.done.Done.{Done}
use Rattle.bus_master.specs.declared.done.End.{End}
use Rattle.bus_master.specs.declared.done.End.TheVariants.{Exact, Longer, Shorter, Abort, Sector}
use Rattle.bus_master.specs.Cells.{Cells}
use Rattle.bus_master.specs.Registers.{Master}
use Rattle.bus_master.specs.Transfer.{Moving, transferred, done_of, master_after, medium_of, with_medium}
use Rattle.script_spec.specs.ScriptText.{Script as Said}
use Rattle.script_spec.specs.ScriptRange.{statements_in}
use Rattle.command_words.specs.declared.transfer.Transfer.{Transfer}

-- ---- the transfer

-- the registers of a bus master that was told to start: start and active are 1, and the direction is 1 to memory
abbrev pub started : Transfer → Master
started transfer = record {
  command = if transfer.to_memory then 0x09 else 0x01;
  status = 0x01;
  table = transfer.table;
}

-- what each byte of the DRAM, of the cards' bases and of their expansion ROMs reads after a history. The bytes of a ROM
-- are fixed
pub record AreCellsAfter (setup : Setup) (history : List Entry) (cells : Cells) : Type 0 where
  pub dram : (addr : ℕ) → cells (DramCell addr) ≡ dram_byte setup history addr
  pub cards :
      (dev base off : ℕ) → IsBaseNumber dev base → cells (CardCell dev base off) ≡ card_byte setup history dev base off
  pub roms : (dev off : ℕ) → cells (CardCell dev rom_base off) ≡ expansion_byte dev off

-- the transfer over what a history left: the registers of the memory map, these bytes, and the disk
abbrev pub transfer_after : Setup → List Entry → Cells → Transfer → Moving
transfer_after setup history cells transfer =
    transferred setup (byte_of setup history) (started transfer) transfer.lba transfer.count cells
    (medium_of (disk_of setup history))

-- ---- the sums

-- byte 0 and so on, so many of them, added up
unfoldable pub sum_below : (count : ℕ) → (byte_at : ℕ → ℕ) → ℕ
sum_below zero byte_at = 0
sum_below (suc count) byte_at = sum_below count byte_at + byte_at count

-- of all installed DRAM, that of SMRAM and that under the ROM and the cards with it
abbrev pub dram_sum : Setup → Cells → ℕ
dram_sum setup cells = sum_below (installed setup) (λ addr. cells (DramCell addr))

-- of all sectors, of 512 bytes each. Without a disk there are none
abbrev pub disk_sum : Option Disk → ℕ
disk_sum None = 0
disk_sum (Some disk) = sum_below (sectors_of disk.medium * 512) (slice_index disk.medium.bytes)

-- ---- the text

abbrev pub end_text : End → List ℕ
end_text Exact = codes "exact"
end_text Longer = codes "longer"
end_text Shorter = codes "shorter"
end_text (Abort addr denial) = codes "abort " ++ hex_long addr ++ space ∷ denial_text (Some denial)
end_text (Sector lba) = codes "sector " ++ decimal lba

-- how it ended, what the status reads then, and how many bytes were moved
abbrev pub ended_line : Done → (status : ℕ) → List ℕ
ended_line done status =
    end_text done.end ++ codes " status " ++ hex_byte status ++ codes " moved " ++ decimal done.moved ++ line_feed ∷ []

abbrev pub sums_line : (dram disk : ℕ) → List ℕ
sums_line dram disk = codes "dram " ++ decimal dram ++ codes " disk " ++ decimal disk ++ line_feed ∷ []

-- of a transfer from or to this disk
abbrev pub transfer_text : Setup → Option Disk → Master → Moving → List ℕ
transfer_text setup disk master moving =
    ended_line (done_of moving) (master_after master moving).status
    ++ sums_line (dram_sum setup moving.cells) (disk_sum (with_medium disk moving.medium))

-- the text of a transfer after a history
pub record HasTransferText (setup : Setup) (history : List Entry) (transfer : Transfer) (text : List ℕ) : Type 0 where
  pub cells : Cells
  pub stored : AreCellsAfter setup history cells
  pub lines :
      text
      ≡ transfer_text setup (disk_of setup history) (started transfer) (transfer_after setup history cells transfer)

-- and after the replay of a script
pub record IsTransferText (setup : Setup) (script : Said) (transfer : Transfer) (text : List ℕ) : Type 0 where
  pub history : List Entry
  pub replay : IsReplayOf setup (statements_in script) history
  pub after : HasTransferText setup history transfer text
