-- A relation between two transfers under way whose bytes alone may differ. It holds after words that both move.
use Rattle.std.proofs.Common.{◌≡◌, ℕ, zero, suc, Bool, true, false, not, ◌&&◌, Option, Some, is_some, sym, subst, ◌==◌}
use Rattle.std.proofs.Common.{if◌then◌else◌, arith}
use Rattle.board_prelude.proofs.{nat_tests, Setup, Bytes}
use Rattle.ata_pio.specs.Words.{is_readable}
use Rattle.bus_master.specs.declared.done.End.{End}
use Rattle.bus_master.specs.declared.done.End.TheVariants.{Shorter, Sector}
use Rattle.bus_master.specs.declared.direction.Direction.{Direction}
use Rattle.bus_master.specs.Cells.{Cells}
use Rattle.bus_master.specs.Transfer.{Moving, ◌and_then◌, answered, is_used_up, kind_of, next_moved, next_sector}
use Rattle.bus_master.specs.Transfer.{next_word, ready_for, region_found, region_taken, sector_tested, table_tested}
use Rattle.bus_master.specs.Transfer.{word_moved, words_moved}

abbrev pub with_cells : Cells → Moving → Moving
with_cells cells moving = record moving { cells = cells }

-- a step after which it holds where it held before
abbrev pub Keeps : (Moving → Moving → Type 0) → (Moving → Moving) → Type 0
Keeps R step =
    (moving : Moving) (cells : Cells) → R moving (with_cells cells moving) →
    R (step moving) (step (with_cells cells moving))

module _ (setup : Setup) (bytes : Bytes) (direction : Direction) (lba : ℕ) (R : Moving → Moving → Type 0)
    (same : (one other : Moving) → R one other → other ≡ with_cells other.cells one)
    (ends : (end : Option End) → Keeps R (λ moving. record moving { end = end }))
    (region : Keeps R (region_taken setup bytes)) (word : Keeps R (word_moved setup bytes direction lba)) where
  holds : (step : Moving → Moving) → Keeps R step → {one other : Moving} → R one other → R (step one) (step other)
  holds step keeps {one} {other} is =
      subst (λ (m : Moving). R (step one) (step m)) (sym (same one other is))
      (keeps one other.cells (subst (λ (m : Moving). R one m) (same one other is) is))

  either : (c : Bool) {one one' other other' : Moving} → R one one' → R other other' →
      R (if c then one else other) (if c then one' else other')
  either true is is_other = is
  either false is is_other = is_other

  then_holds : (step : Moving → Moving) → Keeps R step → {one other : Moving} → R one other →
      R (one and_then step) (other and_then step)
  then_holds step keeps is =
      holds (λ m. m and_then step) (λ m cells alike. either (is_some m.end) alike (keeps m cells alike)) is

  table : Keeps R table_tested
  unfolding table_tested
  table moving cells is =
      either (is_used_up moving.place && moving.place.is_last) (ends (Some Shorter) moving cells is) is

  sector : Keeps R (sector_tested lba)
  unfolding sector_tested
  sector moving cells is =
      either (next_word moving.place == 0 && not (is_readable moving.medium (next_sector lba moving.place)))
      (ends (Some (Sector (next_sector lba moving.place))) moving cells is) is

  found : Keeps R (region_found setup bytes)
  unfolding region_found answered
  found moving cells is = grind (arith, nat_tests, either, then_holds)

  pub words_hold : (words : ℕ) {one other : Moving} → R one other →
      R (words_moved setup bytes direction lba words one) (words_moved setup bytes direction lba words other)
  unfolding words_moved next_moved ready_for answered
  words_hold zero is = is
  words_hold (suc words) is =
      then_holds _ word (then_holds (λ ready. answered setup bytes (kind_of direction) ready.place.addr ready)
      (λ m others alike. ends _ m others alike)
      (then_holds _ found (then_holds _ sector (then_holds _ table (words_hold words is)))))
