-- Stored bytes: what the last write left in DRAM and in the contents of the cards.
use Rattle.std.specs.Prelude.{ℕ, ◌+◌, ◌-◌, ◌%◌, ◌==◌, Bool, true, false, ◌&&◌, nat_le, nat_lt, if◌then◌else◌, List, []}
use Rattle.std.specs.Prelude.{◌∷◌, Option, Some, None, unwrap_or, option_and_then}
use Rattle.std.specs.Option.{option_or}
use Rattle.board_base.specs.declared.access.Width.{Width}
use Rattle.board_base.specs.declared.access.Kind.{Kind}
use Rattle.board_base.specs.declared.access.Kind.TheVariants.{Fetch, Read, Write}
use Rattle.board_base.specs.declared.access.PortAccess.{PortAccess}
use Rattle.board_base.specs.declared.target.Target.{Target}
use Rattle.board_base.specs.declared.target.Target.TheVariants.{Dram, Shadow, Smram, Card}
use Rattle.board_base.specs.Access.{bytes_of}
use Rattle.board_base.specs.declared.access.Access.{Access}
use Rattle.board_spec.specs.declared.event.Event.{Event}
use Rattle.board_spec.specs.declared.event.Event.TheVariants.{Memory, Wide, Port}
use Rattle.board_spec.specs.declared.event.Part.{Part}
use Rattle.board_spec.specs.declared.event.Reply.{Reply}
use Rattle.board_spec.specs.declared.event.Reply.TheVariants.{Bus, Parts}
use Rattle.board_spec.specs.declared.event.Entry.{Entry}
use Rattle.board_spec.specs.Setup.{Setup, card_at, installed, kept_size, rom_base}
use Rattle.board_spec.specs.Bits.{byte}
use Rattle.board_spec.specs.WideParts.{parts_of, parts_list}

-- a byte of the DRAM, by its address, or of a card's base, by its offset
pub data Cell : Type 0 where
  DramCell : (addr : ℕ) → Cell
  CardCell : (dev base off : ℕ) → Cell

-- the first byte that an access with this target covers: in DRAM the one at its own address. An expansion
-- ROM stores nothing
abbrev pub first_cell : Target → ℕ → Option Cell
first_cell (Dram row) addr = Some (DramCell addr)
first_cell (Shadow row) addr = Some (DramCell addr)
first_cell Smram addr = Some (DramCell addr)
first_cell (Card dev base off) addr = if base == rom_base then None else Some (CardCell dev base off)
first_cell _ addr = None

-- how far a cell lies after another of its store
abbrev pub distance : Cell → Cell → Option ℕ
distance (DramCell first) (DramCell at) = if nat_le first at then Some (at - first) else None
distance (CardCell dev base first) (CardCell dev' base' at) =
    if dev == dev' && base == base' && nat_le first at then Some (at - first) else None
distance (DramCell first) (CardCell dev' base' at) = None
distance (CardCell dev base first) (DramCell at) = None

-- the byte of a written value that lands in a cell
abbrev pub byte_put : Target → ℕ → Width → ℕ → Cell → Option ℕ
byte_put target addr width value cell =
    option_and_then
    (λ k. if nat_lt k (bytes_of width) then Some (byte value k) else None)
    (option_and_then (λ first. distance first cell) (first_cell target addr))

abbrev pub is_write : Kind → Bool
is_write Fetch = false
is_write Read = false
is_write Write = true

-- the byte that a memory access with this target leaves in a cell
abbrev pub memory_put : Access → Target → Cell → Option ℕ
memory_put access target cell =
    if is_write access.kind then byte_put target access.addr access.width access.value cell else None

abbrev pub port_put : PortAccess → Target → Cell → Option ℕ
port_put access target cell =
    if access.write then byte_put target access.port access.width access.value cell else None

-- the byte that the parts of a wide access leave in a cell: that of the part which covers it
unfoldable pub parts_put : List Access → List Part → Cell → Option ℕ
parts_put (part ∷ parts) (reply ∷ replies) cell =
    option_or (parts_put parts replies cell) (memory_put part reply.target cell)
parts_put _ _ cell = None

-- the byte that an event with this reply leaves in a cell
abbrev pub entry_put : Event → Reply → Cell → Option ℕ
entry_put (Memory access) (Bus value target denial) cell = memory_put access target cell
entry_put (Port access) (Bus value target denial) cell = port_put access target cell
entry_put (Wide access) (Parts parts value) cell = parts_put (parts_of access) (parts_list parts) cell
entry_put _ _ cell = None

-- the byte that the last write to a cell put there, and 0 where there was none (`law_stored` says so)
unfoldable pub stored_of : List Entry → Cell → ℕ
stored_of [] cell = 0
stored_of (entry ∷ before) cell = unwrap_or (entry_put entry.event entry.reply cell) (stored_of before cell)

-- DRAM reads FFh at and past the installed memory
abbrev pub dram_byte : Setup → List Entry → ℕ → ℕ
dram_byte setup history addr = if nat_lt addr (installed setup) then stored_of history (DramCell addr) else 0xFF

-- a byte of an expansion ROM is fixed by its offset and the device
abbrev pub expansion_byte : (dev off : ℕ) → ℕ
expansion_byte dev off = (off + dev) % 256

-- a byte of a card's base. Where the board keeps none, as for an outside base, it reads FFh
abbrev pub card_byte : Setup → List Entry → (dev base off : ℕ) → ℕ
card_byte setup history dev base off =
    if base == rom_base then expansion_byte dev off else
    if nat_lt off (kept_size (card_at setup dev) base) then stored_of history (CardCell dev base off) else 0xFF
