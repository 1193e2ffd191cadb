-- Claims as the cards' own registers decide them.
use Rattle.std.specs.Prelude.{ℕ, ◌+◌, ◌/◌, ◌^◌, ◌==◌, Bool, true, false, not, ◌&&◌, if◌then◌else◌, List, [], ◌∷◌}
use Rattle.std.specs.Prelude.{Option, Some, None, option_map, slice_index}
use Rattle.board_prelude.specs.{option_or, Base, MemoryBase, IoBase, OutsideBase, rom_base, vga_base, vga_bits, is_bit}
use Rattle.board_prelude.specs.{smram_range}
use Rattle.pci_bars.specs.declared.claims.Gate.{Gate}
use Rattle.pci_bars.specs.declared.claims.Gate.TheVariants.{Open, Shut}
use Rattle.pci_bars.specs.declared.claims.Windows.{Windows}
use Rattle.pci_bars.specs.declared.claims.Windows.TheVariants.{Memory, UnselectedRom, Ports}
use Rattle.pci_bars.specs.Cards.{CardBytes}

-- two places agree but in the low bits
abbrev pub agrees : (bits value place : ℕ) → Bool
agrees bits value place = value / 2 ^ bits == place / 2 ^ bits

abbrev pub base_covers : Windows → Base → (value place : ℕ) → Bool
base_covers Memory (MemoryBase bits) value place = agrees bits value place
base_covers Memory (IoBase bits) value place = false
base_covers Memory (OutsideBase bits) value place = agrees bits value place
base_covers UnselectedRom base value place = false
base_covers Ports (MemoryBase bits) value place = false
base_covers Ports (IoBase bits) value place = agrees bits value place
base_covers Ports (OutsideBase bits) value place = false

-- the first of these bases that base_covers a place, where the first of them is number k
abbrev pub covering : Windows → (values : List ℕ) → (place : ℕ) → ℕ → List Base → Option ℕ
covering windows values place k [] = None
covering windows values place k (base ∷ later) =
    if base_covers windows base (slice_index values k) place then Some k
    else covering windows values place (k + 1) later

-- an expansion ROM base_covers the places that agree with its register
abbrev pub rom_covers : Option ℕ → (register place : ℕ) → Bool
rom_covers None register place = false
rom_covers (Some bits) register place = agrees bits register place

-- the expansion ROM, among the memory windows where bit 0 of its register selects it
abbrev pub rom_claim : Windows → Option ℕ → (register place : ℕ) → Option ℕ
rom_claim Memory rom register place = if is_bit register 0 && rom_covers rom register place then Some rom_base else None
rom_claim UnselectedRom rom register place =
    if not (is_bit register 0) && rom_covers rom register place then Some rom_base else None
rom_claim Ports rom register place = None

-- the VGA window
abbrev pub vga_claim : Windows → Bool → ℕ → Option ℕ
vga_claim Memory vga place = if vga && agrees vga_bits smram_range.0 place then Some vga_base else None
vga_claim UnselectedRom vga place = None
vga_claim Ports vga place = None

-- the base of a card that base_covers a place
abbrev pub covering_base : Windows → (place : ℕ) → CardBytes → Option ℕ
covering_base windows place card =
    option_or
    (option_or (covering windows card.bases place 0 card.card.bases) (rom_claim windows card.card.rom card.rom place))
    (vga_claim windows card.card.vga place)

-- a card's command lets it decode memory by bit 1, and ports by bit 0
abbrev pub is_enabled : Windows → CardBytes → Bool
is_enabled Memory card = is_bit card.command 1
is_enabled UnselectedRom card = is_bit card.command 1
is_enabled Ports card = is_bit card.command 0

abbrev pub gate_of : Bool → Gate
gate_of true = Open
gate_of false = Shut

abbrev pub is_gate : Gate → Bool → Bool
is_gate Open enabled = enabled
is_gate Shut enabled = not enabled

-- the first card at whose gate one stands, and that base_covers a place: its device and its base
abbrev pub first_claim : Windows → Gate → (place : ℕ) → List CardBytes → Option (ℕ × ℕ)
first_claim windows gate place [] = None
first_claim windows gate place (card ∷ later) =
    option_or
    (if is_gate gate (is_enabled windows card)
    then option_map (λ base. (card.card.dev, base)) (covering_base windows place card) else None)
    (first_claim windows gate place later)
