-- The logs of some worked examples, as they are written.
use Rattle.std.specs.Prelude.{ℕ, ◌≡◌, ◌++◌, List, [], ◌∷◌, codes, flat_map, true}
use Rattle.board_prelude.specs.{Pit, Ata, Wires, Vector, Spurious, Device, Ack, Pulses, Time, Wire, Line, BadSector}
use Rattle.board_prelude.specs.{Entry, log_text, line_feed}
use Rattle.board_base.specs.declared.target.Dev.TheVariants.{Clock}
use Rattle.board_examples.specs.Words.{Said, from_reset, gives, goes_to}
use Rattle.board_examples.specs.Basics.{vga_beside_smram, configuration_ports, two_cards_at_one_address}
use Rattle.board_examples.specs.Basics.{xbcs_over_a_soft_reset}

-- lines of text, each with its line feed
abbrev pub text_of : List (List ℕ) → List ℕ
text_of lines = flat_map (λ line. line ++ line_feed ∷ []) lines

-- the log of an example is this text
abbrev pub IsLogged : List Said → List (List ℕ) → Type 0
IsLogged lines text = log_text 1 (from_reset lines) ≡ text_of text

unfoldable pub VgaBesideSmramLogged : Type 0
VgaBesideSmramLogged = IsLogged vga_beside_smram
    (codes "access log 1"
    ∷ codes "1 0.1 out d 0CF8 80001004 = - confadd -"
    ∷ codes "2 0.2 out b 0CFC 02 = - config:02.0.04 -"
    ∷ codes "3 0.3 out d 0CF8 80000070 = - confadd -"
    ∷ codes "4 0.4 out b 0CFE 28 = - config:00.0.72 -"
    ∷ codes "5 0.5 w b 000A0010 33 smm = - card:2.7:00000010 -"
    ∷ codes "6 0.6 f b 000A0010 smm = 00 smram -"
    ∷ codes "7 0.7 r b 000A0010 smm = 33 card:2.7:00000010 -"
    ∷ codes "8 0.8 f b 000A0010 = 33 card:2.7:00000010 -"
    ∷ [])

unfoldable pub ConfigurationPortsLogged : Type 0
ConfigurationPortsLogged = IsLogged configuration_ports
    (codes "access log 1"
    ∷ codes "1 0.1 in b 0CF8 = FF abort none"
    ∷ codes "2 0.2 in b 0CFC = FF abort confadd"
    ∷ codes "3 0.3 out d 0CF8 80000000 = - confadd -"
    ∷ codes "4 0.4 in w 0CFE = 1237 config:00.0.02 -"
    ∷ codes "5 0.5 in d 0CFC = 12378086 config:00.0.00 -"
    ∷ codes "6 0.6 out d 0CF8 8000F800 = - confadd -"
    ∷ codes "7 0.7 in d 0CFC = FFFFFFFF abort none"
    ∷ codes "8 0.8 out d 0CF8 FFFFFFFF = - confadd -"
    ∷ codes "9 0.9 in d 0CF8 = 80FFFFFC confadd -"
    ∷ [])

unfoldable pub TwoCardsLogged : Type 0
TwoCardsLogged = IsLogged two_cards_at_one_address
    (codes "access log 1"
    ∷ codes "1 0.1 out d 0CF8 80001010 = - confadd -"
    ∷ codes "2 0.2 out d 0CFC C0000000 = - config:02.0.10 -"
    ∷ codes "3 0.3 out d 0CF8 80001810 = - confadd -"
    ∷ codes "4 0.4 out d 0CFC C0000000 = - config:03.0.10 -"
    ∷ codes "5 0.5 r b C0000000 = FF abort 02.0.04"
    ∷ codes "6 0.6 out d 0CF8 80001804 = - confadd -"
    ∷ codes "7 0.7 out b 0CFC 02 = - config:03.0.04 -"
    ∷ codes "8 0.8 w b C0000000 11 = - card:3.0:00000000 -"
    ∷ codes "9 0.9 out d 0CF8 80001004 = - confadd -"
    ∷ codes "10 0.10 out b 0CFC 02 = - config:02.0.04 -"
    ∷ codes "11 0.11 r b C0000000 = 00 card:2.0:00000000 -"
    ∷ codes "12 0.12 look r C0000000 = 4 C0000000 C0000FFF card:2.0"
    ∷ [])

unfoldable pub XbcsLogged : Type 0
XbcsLogged = IsLogged xbcs_over_a_soft_reset
    (codes "access log 1"
    ∷ codes "1 0.1 out d 0CF8 8000084C = - confadd -"
    ∷ codes "2 0.2 out b 0CFE 47 = - config:01.0.4E -"
    ∷ codes "3 0.3 w b 000F0000 01 = - rom:00000 none"
    ∷ codes "4 0.4 r b 000E0005 = 05 rom:00005 -"
    ∷ codes "5 0.5 out b 0CF9 04 = - reset -"
    ∷ codes "6 0.6 in b 0CFE = 47 config:01.0.4E -"
    ∷ codes "7 0.7 in b 0CF9 = 04 reset -"
    ∷ [])

-- an entry of a processor
abbrev pub entry_of : ℕ → ℕ → Said → Entry
entry_of actor seq said = record { actor = actor; seq = seq; event = said.asked; reply = said.replied }

-- what comes from outside the bus, with the replies of the devices. The newest entry stands first
abbrev pub outside_entries : List Entry
outside_entries =
    entry_of 0 8 (record { asked = Ack; replied = gives 0x25 (Device (Vector 0)) })
    ∷ entry_of 0 7 (record { asked = Ack; replied = gives 0x2F (Device (Spurious 1)) })
    ∷ entry_of 0 6 (record { asked = BadSector 1; replied = goes_to (Device Ata) })
    ∷ entry_of 0 5 (record { asked = Line 10 true; replied = goes_to (Device Wires) })
    ∷ entry_of 0 4 (record { asked = Wire 4 true; replied = goes_to (Device Wires) })
    ∷ entry_of 0 3 (record {
      asked = Time (record { year = 2024; month = 2; day = 29; weekday = 5; hour = 23; minute = 59; second = 58 });
      replied = goes_to (Device Clock);
    })
    ∷ entry_of 0 2 (record { asked = Pulses 3; replied = goes_to (Device Pit) })
    ∷ entry_of 0 1 (record { asked = Ack; replied = gives 0x07 (Device (Spurious 0)) })
    ∷ []

unfoldable pub OutsideLogged : Type 0
OutsideLogged = log_text 1 outside_entries ≡ text_of
    (codes "access log 1"
    ∷ codes "1 0.1 ack = 07 spur0 -"
    ∷ codes "2 0.2 pulse 3 = - pit -"
    ∷ codes "3 0.3 moment 2024-02-29T23:59:58 = - clock -"
    ∷ codes "4 0.4 wire 4 1 = - wires -"
    ∷ codes "5 0.5 irq 10 1 = - wires -"
    ∷ codes "6 0.6 bad 1 = - ata -"
    ∷ codes "7 0.7 ack = 2F spur1 -"
    ∷ codes "8 0.8 ack = 25 vec0 -"
    ∷ [])
