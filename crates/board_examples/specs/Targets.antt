-- The log's text of every kind of target, denial, width and event. These entries are no history of a board.
use Rattle.std.specs.Prelude.{List, [], ◌∷◌, codes, true, false}
use Rattle.board_prelude.specs.{One, Fetch, Read, Write, Pic0, Pic1, Pit, System, Keyboard, Elcr, Ata, Dram, Shadow}
use Rattle.board_prelude.specs.{Smram, Rom, Card, Confadd, NoRegister, Two as TwoParts, Three as ThreeParts}
use Rattle.board_base.specs.declared.access.Width.TheVariants.{Two, Four}
use Rattle.board_base.specs.declared.target.Area.TheVariants.{Dram as DramArea, Shadow as ShadowArea}
use Rattle.board_base.specs.declared.target.Area.TheVariants.{Smram as SmramArea, Rom as RomArea}
use Rattle.board_base.specs.declared.target.Dev.TheVariants.{Reset, Clock}
use Rattle.board_spec.specs.declared.event.Event.TheVariants.{Look as LookAt}
use Rattle.board_examples.specs.Words.{Said, inputs, reads, fetches, writes, fetches_in_smm, writes_in_smm, looks, sees}
use Rattle.board_examples.specs.Words.{gives, goes_to, floats, lost_in, register, denied_by, wide_access, reads_wide}
use Rattle.board_examples.specs.Words.{part, denied_part, gives_parts, goes_in_parts, puts, gets, wire, line, tells}
use Rattle.board_examples.specs.Wide.{IsLoggedWide}

abbrev pub device_lines : List Said
device_lines =
    gets Pic0 0x21 0x00
    ∷ puts Pic1 0xA1 0xFF
    ∷ gets Pit 0x42 0x9A
    ∷ puts System 0x61 0x01
    ∷ gets Keyboard 0x64 0xFF
    ∷ gets Clock 0x71 0x26
    ∷ puts Elcr 0x4D1 0x08
    ∷ inputs Two 0x1F0 (gives 0xCDEF (register 1 1 0x40))
    ∷ puts Ata 0x3F6 0x02
    ∷ gets Reset 0xCF9 0x04
    ∷ wire 9 false
    ∷ line 15 false
    ∷ tells (record { year = 1980; month = 12; day = 1; weekday = 2; hour = 0; minute = 7; second = 30 })
    ∷ []

unfoldable pub DeviceLinesLogged : Type 0
DeviceLinesLogged = IsLoggedWide device_lines
    (codes "access log 2"
    ∷ codes "1 0.1 in b 0021 = 00 pic0 -"
    ∷ codes "2 0.2 out b 00A1 FF = - pic1 -"
    ∷ codes "3 0.3 in b 0042 = 9A pit -"
    ∷ codes "4 0.4 out b 0061 01 = - sys -"
    ∷ codes "5 0.5 in b 0064 = FF kbd -"
    ∷ codes "6 0.6 in b 0071 = 26 clock -"
    ∷ codes "7 0.7 out b 04D1 08 = - elcr -"
    ∷ codes "8 0.8 in w 01F0 = CDEF config:01.1.40 -"
    ∷ codes "9 0.9 out b 03F6 02 = - ata -"
    ∷ codes "10 0.10 in b 0CF9 = 04 reset -"
    ∷ codes "11 0.11 wire 9 0 = - wires -"
    ∷ codes "12 0.12 irq 15 0 = - wires -"
    ∷ codes "13 0.13 moment 1980-12-01T00:07:30 = - clock -"
    ∷ [])

abbrev pub memory_lines : List Said
memory_lines =
    reads Two 0x7F_FFFE (gives 0x0A0B (Dram 7))
    ∷ fetches_in_smm Four 0xA_0000 (gives 0xFEDC_BA98 Smram)
    ∷ writes_in_smm Two 0xC_0000 0x00F0 (goes_to (Shadow 6))
    ∷ fetches One 0xFFF8_0000 (gives 0x12 (Rom 0x7_89AB))
    ∷ writes Four 0xFFFF_FFFC 0x0102_0304 (lost_in (Rom 0x3_FFFC) NoRegister)
    ∷ reads One 0xCAFE_F00D (floats 0xFF Confadd)
    ∷ writes One 0xD000_0000 0x9F (goes_to (Card 9 6 0x00AB_CDEF))
    ∷ reads Four 0x8000_0000 (floats 0xFFFF_FFFF (denied_by 9 0 0x30))
    ∷ wide_access Fetch true 4 0xB_FFFD 0
    (gives_parts 0x0102_0304
    (ThreeParts (part Smram) (denied_part (Rom 0x0) (denied_by 1 0 0x4E)) (part (Shadow 1))))
    ∷ wide_access Write true 8 0x1008 0x0123_4567_89AB_CDEF
    (goes_in_parts (TwoParts (part (Dram 0)) (part (Card 2 0 0x10))))
    ∷ reads_wide 2 0x1 (gives_parts 0x0BAD (TwoParts (part (Dram 0)) (part (Dram 0))))
    ∷ looks Fetch 0x0 (sees 0 0x0 0x9_FFFF (DramArea 0))
    ∷ record { asked = LookAt Write 0xF_0000 true; replied = sees 12 0xF_0000 0xF_FFFF (ShadowArea 3) }
    ∷ looks Read 0xA_0000 (sees 3 0xA_0000 0xB_FFFF SmramArea)
    ∷ looks Read 0xFFFF_FFFF (sees 3 0xFFFF_0000 0xFFFF_FFFF RomArea)
    ∷ []

unfoldable pub MemoryLinesLogged : Type 0
MemoryLinesLogged = IsLoggedWide memory_lines
    (codes "access log 2"
    ∷ codes "1 0.1 r w 007FFFFE = 0A0B dram:7 -"
    ∷ codes "2 0.2 f d 000A0000 smm = FEDCBA98 smram -"
    ∷ codes "3 0.3 w w 000C0000 00F0 smm = - shadow:6 -"
    ∷ codes "4 0.4 f b FFF80000 = 12 rom:789AB -"
    ∷ codes "5 0.5 w d FFFFFFFC 01020304 = - rom:3FFFC none"
    ∷ codes "6 0.6 r b CAFEF00D = FF abort confadd"
    ∷ codes "7 0.7 w b D0000000 9F = - card:9.6:00ABCDEF -"
    ∷ codes "8 0.8 r d 80000000 = FFFFFFFF abort 09.0.30"
    ∷ codes "9 0.9 f d 000BFFFD smm = 01020304 smram - rom:00000 01.0.4E shadow:1 -"
    ∷ codes "10 0.10 w q 00001008 0123456789ABCDEF smm = - dram:0 - card:2.0:00000010 -"
    ∷ codes "11 0.11 r w 00000001 = 0BAD dram:0 - dram:0 -"
    ∷ codes "12 0.12 look f 00000000 = 0 00000000 0009FFFF dram:0"
    ∷ codes "13 0.13 look w 000F0000 smm = 12 000F0000 000FFFFF shadow:3"
    ∷ codes "14 0.14 look r 000A0000 = 3 000A0000 000BFFFF smram"
    ∷ codes "15 0.15 look r FFFFFFFF = 3 FFFF0000 FFFFFFFF rom"
    ∷ [])
