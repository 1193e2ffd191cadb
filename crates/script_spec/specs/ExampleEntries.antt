-- Entries at the borders of what a log can say: the last that is good, and the first that is not.
use Rattle.std.specs.Prelude.{ℕ, true, false, Some, None}
use Rattle.board_prelude.specs.{Reg, Dram, Shadow, Rom, Card, Device, Config, Register, Ack, Wire, Line, Reply, Bus}
use Rattle.board_prelude.specs.{Saw, Entry}
use Rattle.board_base.specs.declared.target.Dev.TheVariants.{Vector, Spurious}
use Rattle.board_base.specs.declared.target.Area.TheVariants as areas
use Rattle.board_base.specs.declared.access.Kind.TheVariants.{Read}
use Rattle.board_spec.specs.declared.event.Event.TheVariants.{Look as LookAt}
use Rattle.script_spec.specs.WellFormed.{FitsReg, FitsTarget, FitsDenial, HasShape, IsNamed, IsWellFormed}

-- ---- what a reply names: rows, cards and bases of one decimal digit, functions of one hexadecimal digit

abbrev pub register : (dev fun off : ℕ) → Reg
register dev fun off = record { dev = dev; fun = fun; off = off }

pub record NameBorders : Type 0 where
  pub rows : FitsTarget (Dram 7) × FitsTarget (Dram 8) × FitsTarget (Dram 9) × FitsTarget (Shadow 9)
  pub row_10 : ¬ FitsTarget (Dram 10)
  pub shadow_10 : ¬ FitsTarget (Shadow 10)
  pub functions : FitsReg (register 0 7 0) × FitsReg (register 0 8 0) × FitsReg (register 255 15 255)
  pub function_16 : ¬ FitsReg (register 0 16 0)
  pub device_256 : ¬ FitsTarget (Config (register 256 0 0))
  pub offset_256 : ¬ FitsDenial (Some (Register (register 0 0 256)))
  pub rom_end : FitsTarget (Rom 0xF_FFFF)
  pub past_the_rom : ¬ FitsTarget (Rom 0x10_0000)
  pub card_end : FitsTarget (Card 9 9 0xFFFF_FFFF)
  pub card_10 : ¬ FitsTarget (Card 10 0 0)
  pub base_10 : ¬ FitsTarget (Card 0 10 0)
  pub past_the_base : ¬ FitsTarget (Card 0 0 0x1_0000_0000)
  pub chips : FitsTarget (Device (Vector 1)) × FitsTarget (Device (Spurious 1))
  pub vector_2 : ¬ FitsTarget (Device (Vector 2))
  pub spurious_2 : ¬ FitsTarget (Device (Spurious 2))
  pub wires : IsNamed (Wire 0x7F true) × IsNamed (Wire 0x80 true) × IsNamed (Wire 0xFF true)
  pub wire_100 : ¬ IsNamed (Wire 0x100 true)
  pub lines : IsNamed (Line 0x7F true) × IsNamed (Line 0x80 true) × IsNamed (Line 0xFF true)
  pub line_100 : ¬ IsNamed (Line 0x100 true)

-- ---- whole entries

abbrev pub spurious : (vector : ℕ) → Reply
spurious vector = Bus (Some vector) (Device (Spurious 0)) None

abbrev pub acknowledged : (actor seq vector : ℕ) → Entry
acknowledged actor seq vector = record { actor = actor; seq = seq; event = Ack; reply = spurious vector }

abbrev pub seen : (version lo hi : ℕ) → Reply
seen version lo hi = Saw (record { version = version; lo = lo; hi = hi; area = areas.Dram 9 })

abbrev pub IsLookOf : Reply → Type 0
IsLookOf reply = HasShape (LookAt Read 0 false) reply

pub record EntryBorders : Type 0 where
  pub last : IsWellFormed 1 (acknowledged 255 999_999_999 255)
  pub actor_256 : ¬ IsWellFormed 1 (acknowledged 256 1 0)
  pub ten_digits : ¬ IsWellFormed 1 (acknowledged 0 1_000_000_000 0)
  pub vector_256 : ¬ IsWellFormed 1 (acknowledged 0 1 256)
  pub look : IsLookOf (seen 999_999_999 0xFFFF_FFFF 0xFFFF_FFFF)
  pub version : ¬ IsLookOf (seen 1_000_000_000 0 0)
  pub from_past_the_end : ¬ IsLookOf (seen 0 0x1_0000_0000 0)
  pub to_past_the_end : ¬ IsLookOf (seen 0 0 0x1_0000_0000)
