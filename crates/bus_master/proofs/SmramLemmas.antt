-- A bus master never reaches SMRAM: it changes no byte of it, and does the same whatever stands there.
use Rattle.std.proofs.Common.{◌≡◌, ℕ, ◌*◌, ◌%◌, true, false, Option, refl, arith}
use Rattle.board_prelude.proofs.{cases_Bool, nat_tests, Width, bytes_of, Medium, Setup, Bytes, is_smram_range, Cell}
use Rattle.board_prelude.proofs.{DramCell}
use Rattle.bus_master.specs.declared.done.End.{End}
use Rattle.bus_master.specs.declared.direction.Direction.{Direction}
use Rattle.bus_master.specs.Cells.{Cells}
use Rattle.bus_master.specs.Registers.{Master}
use Rattle.bus_master.specs.Transfer.{Moving, begun, direction_of, master_value, region_taken, transferred, word_moved}
use Rattle.bus_master.specs.Stores.{is_in_smram}
use Rattle.board_chipset.proofs.MasterSteps.{off_dram}
use Rattle.bus_master.proofs.Relations.{Keeps, with_cells, words_hold}

-- ---- a read does not depend on SMRAM

-- outside SMRAM the bytes are the same
abbrev pub AreAlike : Cells → Cells → Type 0
AreAlike cells other = (cell : Cell) → is_in_smram cell ≡ false → cells cell ≡ other cell

value_alike : (setup : Setup) (cells other : Cells) → AreAlike cells other → (bytes : Bytes) (addr : ℕ)
    (width : Width) → addr % bytes_of width ≡ 0 →
    master_value setup bytes cells addr width ≡ master_value setup bytes other addr width
value_alike setup cells other alike bytes addr width aligned = grind (arith, nat_tests, cases_Bool, off_dram)

-- ---- step by step: SMRAM is as at the start, and another transfer, whose bytes differ there alone, has come as far

-- an aligned place, the bytes of SMRAM, and the same but for them
pub record Follows (start : Cells) (moving other : Moving) : Type 0 where
  pub evens : moving.place.addr % 2 ≡ 0
  pub fours : moving.place.table % 4 ≡ 0
  pub kept : (addr : ℕ) → is_smram_range addr ≡ true → moving.cells (DramCell addr) ≡ start (DramCell addr)
  pub alike : AreAlike moving.cells other.cells
  pub same : other ≡ with_cells other.cells moving

module _ (setup : Setup) (bytes : Bytes) (lba : ℕ) (start : Cells) where
  ends_as : (end : Option End) → Keeps (Follows start) (λ moving. record moving { end = end })
  ends_as end moving cells is =
      record { evens = is.evens; fours = is.fours; kept = is.kept; alike = is.alike; same = refl }

  region_respects : Keeps (Follows start) (region_taken setup bytes)
  unfolding region_taken
  region_respects moving cells is = grind (arith, nat_tests, value_alike)

  word_respects : (direction : Direction) → Keeps (Follows start) (word_moved setup bytes direction lba)
  unfolding word_moved
  word_respects direction = grind (arith, nat_tests, off_dram, value_alike)

-- ---- the whole

pub hides_smram : (setup : Setup) (bytes : Bytes) (master : Master) (lba count : ℕ) (cells other : Cells)
    (medium : Medium) → master.table % 4 ≡ 0 → AreAlike cells other →
    Follows cells (transferred setup bytes master lba count cells medium)
    (transferred setup bytes master lba count other medium)
unfolding transferred
hides_smram setup bytes master lba count cells other medium fours alike =
    words_hold setup bytes (direction_of master) lba (Follows cells) (λ one two follows. follows.same)
    (ends_as setup bytes lba cells) (region_respects setup bytes lba cells)
    (word_respects setup bytes lba cells (direction_of master)) (256 * count)
    {one = begun cells medium master.table} {other = begun other medium master.table}
    (record { evens = refl; fours = fours; kept = λ addr inside. refl; alike = alike; same = refl })
