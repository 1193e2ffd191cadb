-- A transfer to memory changes no sector, and one to the disk no byte of memory.
use Rattle.std.proofs.Common.{◌≡◌, ℕ, ◌*◌, true, false, Option, refl, ap, ◌∙◌}
use Rattle.board_prelude.proofs.{Medium, Setup, Bytes, Cell}
use Rattle.bus_master.specs.declared.done.End.{End}
use Rattle.bus_master.specs.declared.direction.Direction.{Direction}
use Rattle.bus_master.specs.declared.direction.Direction.TheVariants.{ToMemory, ToDisk}
use Rattle.bus_master.specs.Cells.{Cells}
use Rattle.bus_master.specs.Registers.{Master, is_to_memory}
use Rattle.bus_master.specs.Transfer.{Moving, TransferPlace, begun, region_taken, transferred, word_moved, words_moved}
use Rattle.bus_master.proofs.Relations.{words_hold, with_cells}

-- a part of a transfer under way that neither the place nor an end changes
module _ {X : Type 0} (part : Moving → X)
    (blind : (moving : Moving) (place : TransferPlace) (end : Option End) →
    part (record moving { place = place; end = end }) ≡ part moving) where
  record Kept (value : X) (one other : Moving) : Type 0 where
    pub same : other ≡ one
    pub kept : part one ≡ value

  part_kept : (setup : Setup) (bytes : Bytes) (direction : Direction) (lba : ℕ) →
      ((moving : Moving) → part (word_moved setup bytes direction lba moving) ≡ part moving) →
      (words : ℕ) (moving : Moving) → part (words_moved setup bytes direction lba words moving) ≡ part moving
  unfolding region_taken
  part_kept setup bytes direction lba word words moving =
      (words_hold setup bytes direction lba (Kept (part moving))
      (λ one other is. ap (λ (m : Moving). with_cells other.cells m) is.same)
      (λ end m cells is. record {
        same = ap (λ (m' : Moving). record m' { end = end }) is.same;
        kept = blind m m.place end ∙ is.kept;
      })
      (λ m cells is. record { same = ap (region_taken setup bytes) is.same; kept = blind m _ m.end ∙ is.kept })
      (λ m cells is. record { same = ap (word_moved setup bytes direction lba) is.same; kept = word m ∙ is.kept })
      words {one = moving} {other = moving} (record { same = refl; kept = refl })).kept

module _ (setup : Setup) (bytes : Bytes) (master : Master) (lba count : ℕ) (cells : Cells) (medium : Medium) where
  pub sectors_kept : is_to_memory master ≡ true →
      (transferred setup bytes master lba count cells medium).medium ≡ medium
  unfolding transferred word_moved
  sectors_kept way =
      rw way
      (part_kept (λ moving. moving.medium) (λ moving place end. refl) setup bytes ToMemory lba (λ moving. refl)
      (256 * count) (begun cells medium master.table))

  pub memory_kept : is_to_memory master ≡ false → (cell : Cell) →
      (transferred setup bytes master lba count cells medium).cells cell ≡ cells cell
  unfolding transferred word_moved
  memory_kept way cell =
      rw way
      (part_kept (λ moving. moving.cells cell) (λ moving place end. refl) setup bytes ToDisk lba (λ moving. refl)
      (256 * count) (begun cells medium master.table))
