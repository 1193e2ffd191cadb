-- Images and bus masters. A board that was saved and loaded goes on as it would have unsaved, and no bus master reaches
-- SMRAM. Histories have the newest entry first.
use Rattle.std.specs.Prelude.{ℕ, ◌≡◌, ◌≢◌, ◌+◌, ◌*◌, ◌%◌, ◌<◌, ◌⊎◌, ◌++◌, List, Some, false}
use Rattle.std.specs.Prelude.{Result, Ok, Err}
use Rattle.board_spec.specs.declared.event.Entry.{Entry}
use Rattle.board_spec.specs.Setup.{Setup}
use Rattle.board_spec.specs.Decode.{Bytes, is_smram_range}
use Rattle.board_spec.specs.Legal.{IsLegal}
use Rattle.board_spec.specs.Orders.{statements_of}
use Rattle.board_spec.specs.Stored.{first_cell, DramCell}
use Rattle.board_base.specs.declared.target.Target.{Target}
use Rattle.board_base.specs.declared.target.Target.TheVariants.{Smram}
use Rattle.board_base.specs.declared.target.Area.{Area}
use Rattle.board_base.specs.declared.access.Kind.TheVariants.{Read}
use Rattle.board_base.specs.declared.target.Area.TheVariants.{Dram as DramArea, Shadow as ShadowArea}
use Rattle.board_base.specs.declared.target.Area.TheVariants.{Smram as SmramArea}
use Rattle.board_chipset.specs.Masters.{master_target}
use Rattle.board_core.specs.Kept.{Standing}
use Rattle.bus_master.specs.declared.piece.Piece.{Piece}
use Rattle.bus_master.specs.declared.piece.Piece.TheVariants.{Descriptor, Move, Ended}

-- ---- images

-- whatever statements two histories of one board go on with, their replies to these are the same
abbrev pub GoOnAlike : Setup → (history other : List Entry) → Type 0
GoOnAlike setup history other =
    (more later : List Entry) → IsLegal setup (more ++ history) → IsLegal setup (later ++ other) →
    statements_of more ≡ statements_of later → more ≡ later

-- a board has the history of the one that was saved, and so goes on as that one would
pub record IsAsSaved (setup : Setup) (history : List Entry) (board : Standing) : Type 0 where
  pub same_setup : board.setup ≡ setup
  pub same : board.entries ≡ history
  pub alike : GoOnAlike setup history board.entries

-- bytes that were saved are taken for what was saved, and refused for want of memory alone
abbrev pub IsTakenFor : {T E : Type 0} → (saved : T) → (no_memory : E) → Result T E → Type 0
IsTakenFor saved no_memory result = (result ≡ Ok saved) ⊎ (result ≡ Err no_memory)

-- ---- bus masters

-- an access with this target reaches neither SMRAM nor a byte of DRAM at A0000h to BFFFFh
pub record MissesSmram (target : Target) (addr : ℕ) : Type 0 where
  pub other : target ≢ Smram
  pub beside : (at : ℕ) → first_cell target addr ≡ Some (DramCell at) → is_smram_range at ≡ false

abbrev pub IsDram : Area → Type 0
IsDram (DramArea row) = Unit {0}
IsDram (ShadowArea row) = Unit {0}
IsDram _ = ⊥

-- no byte of a piece is SMRAM: neither of a descriptor's two doublewords, by what a bus master reaches at each byte, nor
-- of the words that are moved, by what answers them
abbrev pub PieceMissesSmram : Setup → Bytes → Piece → Type 0
PieceMissesSmram setup bytes (Descriptor addr) =
    (i : ℕ) → i < 8 →
    MissesSmram (master_target setup bytes Read ((addr + i) % 0x1_0000_0000)) ((addr + i) % 0x1_0000_0000)
PieceMissesSmram setup bytes (Move stretch) =
    (stretch.area ≢ SmramArea)
    × (IsDram stretch.area → (i : ℕ) → i < 2 * stretch.words →
    is_smram_range ((stretch.addr + i) % 0x1_0000_0000) ≡ false)
PieceMissesSmram setup bytes (Ended end) = Unit {0}
