-- Texts of scripts, and what they say; texts that are bad, each with its line and the least reason; and of each number
-- of a script the first that is good and the first that is bad.
use Rattle.std.specs.Prelude.{ℕ, ◌-◌, false, true, List, [], ◌∷◌, ◌++◌, take, drop, All, Some, None, replicate, codes}
use Rattle.board_prelude.specs.{Kind, Fetch, Read, Write, Width, One, Memory, Wide, Port, Wire, Line, Event, Statement}
use Rattle.board_prelude.specs.{MemoryBase, IoBase}
use Rattle.board_base.specs.declared.access.Width.TheVariants.{Four}
use Rattle.board_spec.specs.declared.event.Event.TheVariants.{Look as LookAt}
use Rattle.script_spec.specs.Lines.{text_of_lines}
use Rattle.script_spec.specs.ScriptText.{Script, IsScriptText, IsScriptBad}

-- ---- bad texts

-- a text, and the line at which it is bad, for this reason
pub record BadText : Type 0 where
  pub lines : List (List ℕ)
  pub line : ℕ
  pub why : ℕ

abbrev pub IsBadText : BadText → Type 0
IsBadText text = IsScriptBad (text_of_lines text.lines) text.line text.why

abbrev pub bad : (lines : List (List ℕ)) → (line why : ℕ) → BadText
bad lines line why = record { lines = lines; line = line; why = why }

-- a sixth line after a setup and a phase
abbrev pub sixth : (first line : List ℕ) → (why : ℕ) → BadText
sixth first line why =
    bad (first ∷ codes "cpus 1" ∷ codes "memory 8" ∷ codes "rom r64" ∷ codes "phase" ∷ line ∷ []) 6 why

unfoldable pub bad_texts : List BadText
bad_texts =
    -- there is no line 1, and a comment is none
    bad [] 1 1
    ∷ bad (codes "# a script" ∷ codes "board 1" ∷ []) 1 1
    -- a comment has at most 120 bytes too
    ∷ bad (codes "board 1" ∷ replicate 121 0x23 ∷ []) 2 2
    -- a phase before the setup is whole, and a setup line of a kind that came before
    ∷ bad (codes "board 1" ∷ codes "cpus 1" ∷ codes "phase" ∷ []) 3 6
    ∷ bad (codes "board 1" ∷ codes "cpus 1" ∷ codes "cpus 1" ∷ []) 3 5
    -- the end counts as a line
    ∷ bad (codes "board 1" ∷ codes "cpus 1" ∷ []) 3 6
    -- an address of seven digits
    ∷ sixth (codes "board 1") (codes "0 r b 0000000") 3
    ∷ sixth (codes "board 1") (codes "memory 8") 4
    -- a day that the calendar does not have
    ∷ sixth (codes "board 1") (codes "0 moment 2023-02-29T00:00:00") 7
    ∷ sixth (codes "board 1") (codes "0 r w 00000001") 8
    -- processor 1 where there is only processor 0; of two reasons the least counts: the address
    ∷ sixth (codes "board 1") (codes "1 ack") 9
    ∷ sixth (codes "board 1") (codes "1 r w 00000001") 8
    -- a level that is neither 0 nor 1
    ∷ sixth (codes "board 1") (codes "0 irq 5 2") 7
    -- version 1 has no access of eight bytes, and in version 2 none passes FFFFFFFF
    ∷ sixth (codes "board 1") (codes "0 r q 00001000") 3
    ∷ sixth (codes "board 2") (codes "0 f w FFFFFFFF") 8
    -- version 1 has no expansion ROMs, and one has 2 KiB or more
    ∷ bad (codes "board 1" ∷ codes "card 2 plain x11" ∷ []) 2 3
    ∷ bad (codes "board 2" ∷ codes "card 2 plain x10" ∷ []) 2 7
    -- a ROM without a name
    ∷ bad (codes "board 1" ∷ codes "rom " ∷ []) 2 3
    -- of two reasons the least: 4 before 5 and 7, 5 before 7 and 10, 7 before 9 and 10, 9 before 10
    ∷ sixth (codes "board 1") (codes "memory 65") 4
    ∷ bad (codes "board 1" ∷ codes "cpus 1" ∷ codes "cpus 9" ∷ []) 3 5
    ∷ bad (codes "board 1" ∷ codes "card 2 plain" ∷ codes "card 2 plain m25" ∷ []) 3 5
    ∷ bad (codes "board 1" ∷ codes "card 9 plain" ∷ codes "card 9 plain m24 m24 m24 m24 m24" ∷ []) 3 5
    ∷ bad (codes "board 1" ∷ codes "card 10 plain m24 m24 m24 m24 m24" ∷ []) 2 7
    ∷ sixth (codes "board 1") (codes "1 pulse 0") 7
    ∷ bad (codes "board 1" ∷ codes "phase 1" ∷ []) 2 3
    ∷ []

unfoldable pub AreBad : Type 0
AreBad = All IsBadText bad_texts

-- ---- the numbers of a script

-- in place of this line of a script the first is good, and the second bad for this reason
pub record Bound : Type 0 where
  pub place : ℕ
  pub good : List ℕ
  pub bad : List ℕ
  pub why : ℕ

abbrev pub bound : (place : ℕ) → (good bad : List ℕ) → (why : ℕ) → Bound
bound place good bad why = record { place = place; good = good; bad = bad; why = why }

abbrev pub whole_lines : List (List ℕ)
whole_lines =
    codes "board 2"
    ∷ codes "cpus 8"
    ∷ codes "memory 64"
    ∷ codes "rom r64"
    ∷ codes "card 2 plain"
    ∷ codes "card 9 plain"
    ∷ codes "phase"
    ∷ codes "0 ack"
    ∷ []

abbrev pub with_line : (place : ℕ) → (line : List ℕ) → List (List ℕ)
with_line place line = take (place - 1) whole_lines ++ line ∷ drop place whole_lines

pub record IsBound (row : Bound) : Type 0 where
  pub good : (script : Script) × IsScriptText (text_of_lines (with_line row.place row.good)) script
  pub bad : IsScriptBad (text_of_lines (with_line row.place row.bad)) row.place row.why

unfoldable pub bounds : List Bound
bounds =
    bound 2 (codes "cpus 1") (codes "cpus 0") 7
    ∷ bound 2 (codes "cpus 8") (codes "cpus 9") 7
    ∷ bound 3 (codes "memory 1") (codes "memory 0") 7
    ∷ bound 3 (codes "memory 64") (codes "memory 65") 7
    -- a name has 64 bytes, and a line 120
    ∷ bound 4 (codes "rom " ++ replicate 64 0x61) (codes "rom " ++ replicate 65 0x61) 3
    ∷ bound 8 (replicate 120 0x23) (replicate 121 0x23) 2
    -- device numbers, and the sizes of bases and of an expansion ROM
    ∷ bound 5 (codes "card 2 plain") (codes "card 1 plain") 7
    ∷ bound 6 (codes "card 9 plain") (codes "card 10 plain") 7
    ∷ bound 6 (codes "card 9 plain m4") (codes "card 9 plain m3") 7
    ∷ bound 6 (codes "card 9 plain m24") (codes "card 9 plain m25") 7
    ∷ bound 6 (codes "card 9 plain i2") (codes "card 9 plain i1") 7
    ∷ bound 6 (codes "card 9 plain i8") (codes "card 9 plain i9") 7
    ∷ bound 6 (codes "card 9 plain x11") (codes "card 9 plain x10") 7
    ∷ bound 6 (codes "card 9 plain x24") (codes "card 9 plain x25") 7
    -- the characters of a name, and the first: each border of the digits and of both alphabets
    ∷ bound 4 (codes "rom a-b_c.d-") (codes "rom -a") 3
    ∷ bound 4 (codes "rom _a") (codes "rom .a") 3
    ∷ bound 4 (codes "rom 9") (codes "rom :") 3
    ∷ bound 4 (codes "rom 0") (codes "rom /") 3
    ∷ bound 4 (codes "rom A") (codes "rom @") 3
    ∷ bound 4 (codes "rom Z") (codes "rom [") 3
    ∷ bound 4 (codes "rom a") (codes "rom `") 3
    ∷ bound 4 (codes "rom z") (codes "rom {") 3
    ∷ bound 4 (codes "rom az") (codes "rom a{") 3
    ∷ bound 4 (codes "rom a0") (codes "rom a/") 3
    ∷ bound 4 (codes "rom a9") (codes "rom a b") 3
    -- six bases, and 64 MiB behind all of them
    ∷ bound 6 (codes "card 9 plain i2 i2 i2 i2 i2 i2") (codes "card 9 plain i2 i2 i2 i2 i2 i2 i2") 3
    ∷ bound 6 (codes "card 9 plain m24 m24 m24 m24") (codes "card 9 plain m24 m24 m24 m24 m4") 10
    -- processors, and nine digits
    ∷ bound 8 (codes "7 ack") (codes "8 ack") 9
    ∷ bound 8 (codes "0 pulse 1") (codes "0 pulse 0") 7
    ∷ bound 8 (codes "0 pulse 1000000") (codes "0 pulse 1000001") 7
    ∷ bound 8 (codes "0 pulse 1") (codes "0 pulse 1000000000") 3
    ∷ bound 8 (codes "0 pulse 1") (codes "0 pulse 01") 3
    ∷ bound 8 (codes "0 bad 65535") (codes "0 bad 65536") 7
    -- nine digits are a number, out of range, and ten are none
    ∷ bound 8 (codes "0 bad 0") (codes "0 bad 999999999") 7
    ∷ bound 8 (codes "0 bad 0") (codes "0 bad 1000000000") 3
    ∷ bound 8 (codes "0 ack") (codes "999999999 ack") 9
    ∷ bound 8 (codes "0 ack") (codes "1000000000 ack") 3
    -- cards and interrupt lines, and their levels
    ∷ bound 8 (codes "0 wire 2 0") (codes "0 wire 1 0") 7
    ∷ bound 8 (codes "0 wire 9 1") (codes "0 wire 10 1") 7
    ∷ bound 8 (codes "0 wire 9 1") (codes "0 wire 127 1") 7
    ∷ bound 8 (codes "0 wire 9 1") (codes "0 wire 128 1") 7
    ∷ bound 8 (codes "0 wire 2 1") (codes "0 wire 3 1") 9
    ∷ bound 8 (codes "0 wire 2 1") (codes "0 wire 2 2") 7
    ∷ bound 8 (codes "0 irq 1 0") (codes "0 irq 0 0") 7
    ∷ bound 8 (codes "0 irq 3 0") (codes "0 irq 2 0") 7
    ∷ bound 8 (codes "0 irq 7 0") (codes "0 irq 8 0") 7
    ∷ bound 8 (codes "0 irq 12 0") (codes "0 irq 13 0") 7
    ∷ bound 8 (codes "0 irq 15 0") (codes "0 irq 14 0") 7
    ∷ bound 8 (codes "0 irq 15 1") (codes "0 irq 16 1") 7
    -- moments
    ∷ bound 8 (codes "0 moment 1980-01-01T00:00:00") (codes "0 moment 1979-12-31T23:59:59") 7
    ∷ bound 8 (codes "0 moment 2099-12-31T23:59:59") (codes "0 moment 2100-01-01T00:00:00") 7
    ∷ bound 8 (codes "0 moment 2000-01-01T00:00:00") (codes "0 moment 2000-00-01T00:00:00") 7
    ∷ bound 8 (codes "0 moment 2000-12-01T00:00:00") (codes "0 moment 2000-13-01T00:00:00") 7
    ∷ bound 8 (codes "0 moment 2000-01-01T00:00:00") (codes "0 moment 2000-01-00T00:00:00") 7
    ∷ bound 8 (codes "0 moment 2000-01-31T00:00:00") (codes "0 moment 2000-01-32T00:00:00") 7
    ∷ bound 8 (codes "0 moment 2000-02-29T00:00:00") (codes "0 moment 2001-02-29T00:00:00") 7
    ∷ bound 8 (codes "0 moment 2000-01-01T23:00:00") (codes "0 moment 2000-01-01T24:00:00") 7
    ∷ bound 8 (codes "0 moment 2000-01-01T00:59:00") (codes "0 moment 2000-01-01T00:60:00") 7
    ∷ bound 8 (codes "0 moment 2000-01-01T00:00:59") (codes "0 moment 2000-01-01T00:00:60") 7
    -- addresses have eight digits, ports four and values two for each byte, and an access ends by FFFFFFFF
    ∷ bound 8 (codes "0 r b FFFFFFFF") (codes "0 r b 100000000") 3
    ∷ bound 8 (codes "0 look r FFFFFFFF") (codes "0 look r FFFFFFF") 3
    ∷ bound 8 (codes "0 in b FFFF") (codes "0 in b 10000") 3
    ∷ bound 8 (codes "0 w b 00000000 FF") (codes "0 w b 00000000 100") 3
    ∷ bound 8 (codes "0 out d 0CF8 FFFFFFFF") (codes "0 out d 0CF8 100000000") 3
    ∷ bound 8 (codes "0 r w FFFFFFFE") (codes "0 r w FFFFFFFF") 8
    ∷ bound 8 (codes "0 r d FFFFFFFC") (codes "0 r d FFFFFFFD") 8
    ∷ bound 8 (codes "0 r q FFFFFFF8") (codes "0 r q FFFFFFF9") 8
    ∷ bound 8 (codes "0 in w 0002") (codes "0 in w 0001") 8
    ∷ bound 8 (codes "0 in d 0004") (codes "0 in d 0002") 8
    ∷ []

unfoldable pub AreBounds : Type 0
AreBounds = All IsBound bounds

-- ---- good texts

abbrev pub states : ℕ → Event → Statement
states actor event = record { actor = actor; event = event }

abbrev pub accesses : Kind → (addr : ℕ) → Event
accesses kind addr = Memory (record { kind = kind; addr = addr; width = One; smm = false; value = 0 })

-- comments, an empty line, setup in no order, digits in either case, two processors, cards and phases
unfoldable pub TwoProcessors : Type 0
TwoProcessors = IsScriptText
    (text_of_lines
    (codes "board 1"
    ∷ codes "# cards"
    ∷ codes "card 3 vga m20 i4"
    ∷ codes "card 2 plain"
    ∷ []
    ∷ codes "rom make.rom"
    ∷ codes "cpus 2"
    ∷ codes "disk make.disk"
    ∷ codes "memory 16"
    ∷ codes "phase"
    ∷ codes "0 r b 000f0010"
    ∷ codes "0 f b 000F0010"
    ∷ codes "# the other processor"
    ∷ codes "phase"
    ∷ codes "1 irq 10 1"
    ∷ codes "1 wire 3 0"
    ∷ []))
    (record {
      version = 1;
      cpus = 2;
      mib = 16;
      rom = codes "make.rom";
      disk = Some (codes "make.disk");
      cards =
          record { dev = 2; vga = false; bases = []; rom = None }
          ∷ record { dev = 3; vga = true; bases = MemoryBase 20 ∷ IoBase 4 ∷ []; rom = None }
          ∷ [];
      phases =
          (states 0 (accesses Read 0xF_0010) ∷ states 0 (accesses Fetch 0xF_0010) ∷ [])
          ∷ (states 1 (Line 10 true) ∷ states 1 (Wire 3 false) ∷ [])
          ∷ [];
    })

abbrev pub outputs : Width → (port value : ℕ) → Event
outputs width port value = Port (record { write = true; port = port; width = width; value = value })

-- two phases, in the second of which one processor opens a shadow window while the other looks at it
unfoldable pub TwoOrders : Type 0
TwoOrders = IsScriptText
    (text_of_lines
    (codes "board 1"
    ∷ codes "cpus 2"
    ∷ codes "memory 8"
    ∷ codes "rom r64"
    ∷ codes "phase"
    ∷ codes "0 out d 0CF8 80000058"
    ∷ codes "phase"
    ∷ codes "0 out b 0CFD 10"
    ∷ codes "1 look r 000F0000"
    ∷ []))
    (record {
      version = 1;
      cpus = 2;
      mib = 8;
      rom = codes "r64";
      disk = None;
      cards = [];
      phases =
          (states 0 (outputs Four 0xCF8 0x8000_0058) ∷ [])
          ∷ (states 0 (outputs One 0xCFD 0x10) ∷ states 1 (LookAt Read 0xF_0000 false) ∷ [])
          ∷ [];
    })

-- version 2: an expansion ROM, an access of eight bytes, one that is not aligned, and one that is
unfoldable pub WideScript : Type 0
WideScript = IsScriptText
    (text_of_lines
    (codes "board 2"
    ∷ codes "cpus 1"
    ∷ codes "memory 8"
    ∷ codes "rom r64"
    ∷ codes "card 2 plain m12 x11"
    ∷ codes "phase"
    ∷ codes "0 w q 00001000 0807060504030201"
    ∷ codes "0 r w 0009FFFF smm"
    ∷ codes "0 r b 000F0010"
    ∷ []))
    (record {
      version = 2;
      cpus = 1;
      mib = 8;
      rom = codes "r64";
      disk = None;
      cards = record { dev = 2; vga = false; bases = MemoryBase 12 ∷ []; rom = Some 11 } ∷ [];
      phases =
          (states 0 (Wide (record { kind = Write; addr = 0x1000; bytes = 8; smm = false; value = 0x807060504030201 }))
          ∷ states 0 (Wide (record { kind = Read; addr = 0x9_FFFF; bytes = 2; smm = true; value = 0 }))
          ∷ states 0 (accesses Read 0xF_0010)
          ∷ [])
          ∷ [];
    })
