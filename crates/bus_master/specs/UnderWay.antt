-- What a transfer under way stands for while the code moves words.
use Rattle.std.specs.Prelude.{ℕ, ◌≡◌, ◌≢◌, ◌<◌, ◌≤◌, ◌+◌, ◌%◌, ◌*◌, Option, Some, None, Result, Ok, Err}
use Rattle.board_prelude.specs.{sectors_of, Cell, Setup, Bytes}
use Rattle.board_chipset.specs.declared.store.Store.{Store}
use Rattle.bus_master.specs.declared.done.End.{End}
use Rattle.bus_master.specs.declared.direction.Direction.{Direction}
use Rattle.bus_master.specs.Transfer.{Moving, TransferPlace, end_of, medium_of, next_sector, words_moved}
use Rattle.bus_master.specs.Stores.{cells_of, IsCell}

-- accesses are aligned, and regions hold whole words
pub record IsPlace (place : TransferPlace) : Type 0 where
  pub table : place.table % 4 ≡ 0
  pub addr : place.addr % 2 ≡ 0
  pub left : place.left % 2 ≡ 0
  pub moved : place.moved % 2 ≡ 0

-- why a step ended the transfer, if it did
abbrev pub end_in : {A : Type 0} → Result A End → Option End
end_in (Ok done) = None
end_in (Err end) = Some end

-- it has come as far in this store as the definition's, byte by byte
pub record StandsAt (moving : Moving) (store : Store) (place : TransferPlace) (end : Option End) : Type 0 where
  pub cells : (cell : Cell) → IsCell cell → cells_of store cell ≡ moving.cells cell
  pub medium : medium_of store.disk ≡ moving.medium
  pub come : place ≡ moving.place
  pub ends : end ≡ moving.end

-- and that is all: it ended so
pub record EndedSo (moving : Moving) (store : Store) (place : TransferPlace) (end : End) : Type 0 where
  pub cells : (cell : Cell) → IsCell cell → cells_of store cell ≡ moving.cells cell
  pub medium : medium_of store.disk ≡ moving.medium
  pub come : place ≡ moving.place
  pub ends : end ≡ end_of moving

-- a sector that was begun is there
abbrev pub HasSector : (lba : ℕ) → Store → TransferPlace → Type 0
HasSector lba store place = place.moved % 512 ≢ 0 → next_sector lba place < sectors_of (medium_of store.disk)

-- a step moved some words of the definition, at most so many. It tells how many, unless the transfer ended
pub record CameOn (setup : Setup) (bytes : Bytes) (direction : Direction) (lba most : ℕ) (moving : Moving)
    (store : Store)
    (old new : TransferPlace) (end : Option End) : Type 0 where
  pub words : ℕ
  pub some : 1 ≤ words
  pub few : words ≤ most
  pub stands : StandsAt (words_moved setup bytes direction lba words moving) store new end
  pub moved : end ≡ None → new.moved ≡ old.moved + 2 * words
