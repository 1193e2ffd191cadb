-- The text of a script that is made: a setup, and one phase. In it processor 0 first programs the board, and then
-- come rounds, in each of which two processors touch DRAM, a card, SMRAM, a shadow window, the map, the timer, the
-- interrupt controller and the ROM.
use Rattle.std.specs.Prelude.{ℕ, zero, suc, ◌+◌, ◌*◌, ◌%◌, ◌++◌, List, [], ◌∷◌, codes}
use Rattle.board_spec.specs.Text.{space, hex_long}
use Rattle.script_spec.specs.Lines.{text_of_lines}

-- ---- lines 1 to 8: the setup, and the phase

unfoldable pub setup_lines : List (List ℕ)
setup_lines =
    codes "board 1"
    ∷ codes "cpus 2"
    ∷ codes "memory 16"
    ∷ codes "rom make.rom"
    ∷ codes "disk make.disk"
    ∷ codes "card 2 vga m20"
    ∷ codes "card 3 plain m12 i4"
    ∷ codes "phase"
    ∷ []

-- ---- the first 47 statements

unfoldable pub opening_lines : List (List ℕ)
opening_lines =
    -- each row of DRAM ends at 16 MiB
    codes "0 out d 0CF8 80000060"
    ∷ codes "0 out d 0CFC 02020202"
    ∷ codes "0 out d 0CF8 80000064"
    ∷ codes "0 out d 0CFC 02020202"
    -- the first bytes of the BIOS are copied to DRAM: writes go there, and afterwards reads do
    ∷ codes "0 out d 0CF8 80000058"
    ∷ codes "0 out b 0CFD 20"
    ∷ codes "0 r d 000F0000"
    ∷ codes "0 w d 000F0000 03020100"
    ∷ codes "0 out b 0CFD 10"
    -- card 2: its base, and its command
    ∷ codes "0 out d 0CF8 80001010"
    ∷ codes "0 out d 0CFC E0000000"
    ∷ codes "0 out d 0CF8 80001004"
    ∷ codes "0 out b 0CFC 03"
    -- card 3: its bases, and its command
    ∷ codes "0 out d 0CF8 80001810"
    ∷ codes "0 out d 0CFC E0100000"
    ∷ codes "0 out d 0CF8 80001814"
    ∷ codes "0 out d 0CFC 0000C000"
    ∷ codes "0 out d 0CF8 80001804"
    ∷ codes "0 out b 0CFC 03"
    -- SMRAM on, and locked
    ∷ codes "0 out d 0CF8 80000070"
    ∷ codes "0 out b 0CFE 18"
    -- the IDE function: its command, and the primary channel
    ∷ codes "0 out d 0CF8 80000904"
    ∷ codes "0 out b 0CFC 01"
    ∷ codes "0 out d 0CF8 80000940"
    ∷ codes "0 out w 0CFC 8000"
    -- the 8259A pair: vectors from 20h and from 28h on
    ∷ codes "0 out b 0020 11"
    ∷ codes "0 out b 0021 20"
    ∷ codes "0 out b 0021 04"
    ∷ codes "0 out b 0021 01"
    ∷ codes "0 out b 00A0 11"
    ∷ codes "0 out b 00A1 28"
    ∷ codes "0 out b 00A1 02"
    ∷ codes "0 out b 00A1 01"
    -- counter 0 of the timer counts 4 in mode 2
    ∷ codes "0 out b 0043 34"
    ∷ codes "0 out b 0040 04"
    ∷ codes "0 out b 0040 00"
    ∷ codes "0 pulse 1"
    ∷ codes "0 moment 2024-02-29T12:00:00"
    ∷ codes "0 w b 000A0000 C3 smm"
    -- sector 5 of the disk is read, and its first four bytes are taken
    ∷ codes "0 out b 03F6 02"
    ∷ codes "0 out b 01F6 E0"
    ∷ codes "0 out b 01F2 01"
    ∷ codes "0 out b 01F3 05"
    ∷ codes "0 out b 01F4 00"
    ∷ codes "0 out b 01F5 00"
    ∷ codes "0 out b 01F7 20"
    ∷ codes "0 in d 01F0"
    ∷ []

-- ---- the eleven statements of a round

-- the address in DRAM: each of 4,096 in turn
abbrev pub dram_addr : (round : ℕ) → ℕ
dram_addr round = 0x10_0000 + 4 * (round % 4096)

-- the address in the base of card 2: each of 256 in turn
abbrev pub card_addr : (round : ℕ) → ℕ
card_addr round = 0xE000_0000 + 4 * (round % 256)

unfoldable pub round_lines : ℕ → List (List ℕ)
round_lines i =
    (codes "0 w d " ++ hex_long (dram_addr i) ++ space ∷ hex_long i)
    ∷ (codes "1 r d " ++ hex_long (dram_addr i))
    ∷ (codes "1 w d " ++ hex_long (card_addr i) ++ space ∷ hex_long i)
    ∷ codes "1 r b 000A0000"
    ∷ codes "0 r b 000A0000 smm"
    ∷ codes "1 w b 000F0000 00"
    ∷ codes "1 look r 000F0000"
    ∷ codes "0 pulse 4"
    ∷ codes "0 ack"
    ∷ codes "0 out b 0020 20"
    ∷ codes "1 r b FFFE0000"
    ∷ []

-- the rounds 0 to n - 1
unfoldable pub lines_of_rounds : (n : ℕ) → List (List ℕ)
lines_of_rounds zero = []
lines_of_rounds (suc i) = lines_of_rounds i ++ round_lines i

-- ---- the whole

abbrev pub make_lines : (n : ℕ) → List (List ℕ)
make_lines n = setup_lines ++ opening_lines ++ lines_of_rounds n

-- the script of n rounds, each line with its line feed
unfoldable pub make_text : (n : ℕ) → List ℕ
make_text n = text_of_lines (make_lines n)
