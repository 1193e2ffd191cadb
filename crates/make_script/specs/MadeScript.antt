-- What a script that is made says, as a value: the statements in the order of its lines.
use Rattle.std.specs.Prelude.{ℕ, zero, suc, ◌++◌, Bool, true, false, List, [], ◌∷◌, map, Some, None, codes}
use Rattle.board_prelude.specs.{Read, Write, Width, One, moment_of, Event, Memory, Port, Ack, Pulses, Time, Statement}
use Rattle.board_prelude.specs.{MemoryBase, IoBase, FittedCard, Setup}
use Rattle.board_base.specs.declared.access.Width.TheVariants.{Two, Four}
use Rattle.board_spec.specs.declared.event.Event.TheVariants.{Look as LookAt}
use Rattle.script_spec.specs.ScriptText.{Script}
use Rattle.make_script.specs.MakeText.{dram_addr, card_addr}
use Rattle.make_script.specs.Images.{rom_image, disk_image}

-- ---- words for statements

abbrev pub asks : (actor : ℕ) → Event → Statement
asks actor event = record { actor = actor; event = event }

abbrev pub reads : Width → (addr : ℕ) → (smm : Bool) → Event
reads width addr smm = Memory (record { kind = Read; addr = addr; width = width; smm = smm; value = 0 })

abbrev pub writes : Width → (addr value : ℕ) → (smm : Bool) → Event
writes width addr value smm = Memory (record { kind = Write; addr = addr; width = width; smm = smm; value = value })

abbrev pub ins : Width → (port : ℕ) → Event
ins width port = Port (record { write = false; port = port; width = width; value = 0 })

abbrev pub outs : Width → (port value : ℕ) → Event
outs width port value = Port (record { write = true; port = port; width = width; value = value })

-- ---- the first 47 statements, all of processor 0

unfoldable pub opening_events : List Event
opening_events =
    outs Four 0xCF8 0x8000_0060
    ∷ outs Four 0xCFC 0x0202_0202
    ∷ outs Four 0xCF8 0x8000_0064
    ∷ outs Four 0xCFC 0x0202_0202
    ∷ outs Four 0xCF8 0x8000_0058
    ∷ outs One 0xCFD 0x20
    ∷ reads Four 0xF_0000 false
    ∷ writes Four 0xF_0000 0x0302_0100 false
    ∷ outs One 0xCFD 0x10
    ∷ outs Four 0xCF8 0x8000_1010
    ∷ outs Four 0xCFC 0xE000_0000
    ∷ outs Four 0xCF8 0x8000_1004
    ∷ outs One 0xCFC 0x03
    ∷ outs Four 0xCF8 0x8000_1810
    ∷ outs Four 0xCFC 0xE010_0000
    ∷ outs Four 0xCF8 0x8000_1814
    ∷ outs Four 0xCFC 0x0000_C000
    ∷ outs Four 0xCF8 0x8000_1804
    ∷ outs One 0xCFC 0x03
    ∷ outs Four 0xCF8 0x8000_0070
    ∷ outs One 0xCFE 0x18
    ∷ outs Four 0xCF8 0x8000_0904
    ∷ outs One 0xCFC 0x01
    ∷ outs Four 0xCF8 0x8000_0940
    ∷ outs Two 0xCFC 0x8000
    ∷ outs One 0x20 0x11
    ∷ outs One 0x21 0x20
    ∷ outs One 0x21 0x04
    ∷ outs One 0x21 0x01
    ∷ outs One 0xA0 0x11
    ∷ outs One 0xA1 0x28
    ∷ outs One 0xA1 0x02
    ∷ outs One 0xA1 0x01
    ∷ outs One 0x43 0x34
    ∷ outs One 0x40 0x04
    ∷ outs One 0x40 0x00
    ∷ Pulses 1
    ∷ Time (moment_of 2024 2 29 12 0 0)
    ∷ writes One 0xA_0000 0xC3 true
    ∷ outs One 0x3F6 0x02
    ∷ outs One 0x1F6 0xE0
    ∷ outs One 0x1F2 0x01
    ∷ outs One 0x1F3 0x05
    ∷ outs One 0x1F4 0x00
    ∷ outs One 0x1F5 0x00
    ∷ outs One 0x1F7 0x20
    ∷ ins Four 0x1F0
    ∷ []

-- ---- the eleven statements of a round

unfoldable pub round_statements : ℕ → List Statement
round_statements i =
    asks 0 (writes Four (dram_addr i) i false)
    ∷ asks 1 (reads Four (dram_addr i) false)
    ∷ asks 1 (writes Four (card_addr i) i false)
    ∷ asks 1 (reads One 0xA_0000 false)
    ∷ asks 0 (reads One 0xA_0000 true)
    ∷ asks 1 (writes One 0xF_0000 0x00 false)
    ∷ asks 1 (LookAt Read 0xF_0000 false)
    ∷ asks 0 (Pulses 4)
    ∷ asks 0 Ack
    ∷ asks 0 (outs One 0x20 0x20)
    ∷ asks 1 (reads One 0xFFFE_0000 false)
    ∷ []

-- those of the rounds 0 to n - 1
unfoldable pub statements_of_rounds : (n : ℕ) → List Statement
statements_of_rounds zero = []
statements_of_rounds (suc i) = statements_of_rounds i ++ round_statements i

-- ---- the whole

abbrev pub made_statements : (n : ℕ) → List Statement
made_statements n = map (asks 0) opening_events ++ statements_of_rounds n

-- a VGA card with one memory base
abbrev pub vga_card : FittedCard
vga_card = record { dev = 2; vga = true; bases = MemoryBase 20 ∷ []; rom = None }

-- a plain card with a memory base and an I/O base
abbrev pub plain_card : FittedCard
plain_card = record { dev = 3; vga = false; bases = MemoryBase 12 ∷ IoBase 4 ∷ []; rom = None }

abbrev pub made_cards : List FittedCard
made_cards = vga_card ∷ plain_card ∷ []

unfoldable pub made_script : (n : ℕ) → Script
made_script n = record {
  version = 1;
  cpus = 2;
  mib = 16;
  rom = codes "make.rom";
  disk = Some (codes "make.disk");
  cards = made_cards;
  phases = made_statements n ∷ [];
}

-- what the board of such a script is fitted with, whatever lies in files of these names
abbrev pub made_setup : Setup
made_setup = record { mib = 16; cards = made_cards; rom = rom_image; disk = Some disk_image }
