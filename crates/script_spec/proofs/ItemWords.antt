-- The fields of each item, which its line joins.
use Rattle.std.proofs.Common.{◌≡◌, ℕ, Bool, true, false, Option, Some, None, List, [], ◌∷◌, ◌++◌, flat_map, map, refl}
use Rattle.std.proofs.Common.{sym, ap, ◌∙◌, append_assoc, append-nil, arith, codes, decimal}
use Rattle.board_prelude.proofs.{join_with_byte, nat_tests, Base, MemoryBase, IoBase, OutsideBase, Event, Ack}
use Rattle.board_prelude.proofs.{stimulus_form, space}
use Rattle.script_spec.specs.Grammar.{Item, SetCpus, SetMemory, SetRom, SetDisk, FitCard, BeginPhase, Ask, AskLevel}
use Rattle.script_spec.specs.Grammar.{IsForm, Says, base_text, rom_text, card_text, item_text}
use Rattle.script_spec.specs.Fields.{fields_of}
use Rattle.script_spec.proofs.Chains.{Reads, joined}
use Rattle.script_spec.proofs.PlainText.{split, split_exact, are_words, decimal_word, name_word}
use Rattle.script_spec.proofs.Words.{spaced, line_spaced, event_words, event_joined, event_are}

-- ---- cards

abbrev pub kind_word : Bool → List ℕ
kind_word true = codes "vga"
kind_word false = codes "plain"

abbrev pub base_word : Base → List ℕ
base_word (MemoryBase bits) = codes "m" ++ decimal bits
base_word (IoBase bits) = codes "i" ++ decimal bits
base_word (OutsideBase bits) = codes "o" ++ decimal bits

abbrev pub rom_words : Option ℕ → List (List ℕ)
rom_words None = []
rom_words (Some bits) = (codes "x" ++ decimal bits) ∷ []

-- the words of a card after its kind
abbrev pub tail_words : List Base → Option ℕ → List (List ℕ)
tail_words bases rom = map base_word bases ++ rom_words rom

spaced_tail : (bases : List Base) (rom : Option ℕ)
    → spaced (tail_words bases rom) ≡ flat_map base_text bases ++ rom_text rom
spaced_tail [] rom = grind (arith, nat_tests, append-nil)
spaced_tail (base ∷ bases) rom = grind (arith, nat_tests, append_assoc, spaced_tail bases rom)

card_joined : (dev : ℕ) (vga : Bool) (bases : List Base) (rom : Option ℕ)
    → join_with_byte space (decimal dev ∷ kind_word vga ∷ tail_words bases rom)
    ≡ card_text (record { dev = dev; vga = vga; bases = bases; rom = rom })
card_joined dev true bases rom = simp (line_spaced, spaced_tail, append_assoc)
card_joined dev false bases rom = simp (line_spaced, spaced_tail, append_assoc)

-- ---- items

abbrev pub item_words : Item → List (List ℕ)
item_words (SetCpus count) = codes "cpus" ∷ decimal count ∷ []
item_words (SetMemory mib) = codes "memory" ∷ decimal mib ∷ []
item_words (SetRom name) = codes "rom" ∷ name ∷ []
item_words (SetDisk name) = codes "disk" ∷ name ∷ []
item_words (FitCard card) = codes "card" ∷ decimal card.dev ∷ kind_word card.vga ∷ tail_words card.bases card.rom
item_words BeginPhase = codes "phase" ∷ []
item_words (Ask statement) = decimal statement.actor ∷ event_words statement.event
item_words (AskLevel actor one number level) =
    decimal actor ∷ (stimulus_form one).word ∷ decimal number ∷ decimal level ∷ []

-- these fields say an item
abbrev pub AreFields : List (List ℕ) → Item → Type 0
AreFields fields (Ask statement) = Reads fields (item_words (Ask statement))
AreFields fields item = fields ≡ item_words item

event_after : (first : List ℕ) (event : Event)
    → join_with_byte space (first ∷ event_words event) ≡ first ++ space ∷ join_with_byte space (event_words event)
event_after first Ack = refl
event_after first _ = refl

pub item_joined : (item : Item) → join_with_byte space (item_words item) ≡ item_text item
unfolding item_text
item_joined (FitCard card) =
    ap (λ (text : List ℕ). codes "card " ++ text) (card_joined card.dev card.vga card.bases card.rom)
item_joined (Ask statement) = rw (event_after, event_joined) refl
item_joined (AskLevel actor one number level) = simp append_assoc
item_joined _ = refl

tail_are : (bases : List Base) (rom : Option ℕ) → are_words (tail_words bases rom) ≡ true
tail_are [] rom = grind (arith, nat_tests, decimal_word)
tail_are (base ∷ bases) rom = grind (arith, nat_tests, decimal_word, tail_are bases rom)

item_are : (version : ℕ) (item : Item) → IsForm version item → are_words (item_words item) ≡ true
item_are version (FitCard card) form = grind (arith, nat_tests, decimal_word, tail_are card.bases card.rom)
item_are version item form = grind (arith, nat_tests, decimal_word, name_word, event_are)

-- ---- a line that says an item is its fields joined

pub fields_say : (fields : List (List ℕ)) (item : Item) → AreFields fields item
    → Says (join_with_byte space fields) item
fields_say fields (Ask statement) are = rw (← item_joined (Ask statement)) (joined _ _ are)
fields_say fields item are = ap (join_with_byte space) are ∙ item_joined item

pub fields_said : (version : ℕ) (line : List ℕ) (item : Item) → IsForm version item → Says line item
    → AreFields (fields_of line) item
fields_said version line (Ask statement) form says =
    split line _ _ (item_are version (Ask statement) form) (rw (item_joined (Ask statement)) says)
fields_said version line item form says =
    ap fields_of (says ∙ sym (item_joined item)) ∙ split_exact _ _ (item_are version item form)
