-- Steps, bases and cards are read one after another.
use Rattle.std.proofs.Common.{ℕ, ◌-◌, Bool, List, [], ◌∷◌, refl}
use Rattle.board_prelude.proofs.{w8, Base, FittedCard, Setup, memory_of_cards, memory_size}
use Rattle.board_prelude.specs.{Statement}
use Rattle.byte_fields.specs.Fields.{Reading, number}
use Rattle.board_image.specs.EventFields.{step_fields}
use Rattle.board_image.specs.ImageFields.{base_in, bases_fields, card_fields, cards_fields, steps_fields}
use Rattle.byte_fields.proofs.Loops.{IsLoop}

abbrev pub same_setup : Setup → Statement → Setup
same_setup setup step = setup

pub steps_loop : IsLoop step_fields same_setup steps_fields
unfolding steps_fields
steps_loop = record { none = λ setup bytes. refl; more = λ setup n bytes. refl }

abbrev pub base_field : (outside : Bool) (room : ℕ) → Reading Base
base_field outside room = number w8 (base_in outside room)

abbrev pub room_after : (room : ℕ) → Base → ℕ
room_after room base = room - memory_size base

abbrev pub bases_in : (outside : Bool) (room count : ℕ) → Reading (List Base)
bases_in outside room count = bases_fields outside count room

pub bases_loop : (outside : Bool) → IsLoop (base_field outside) room_after (bases_in outside)
unfolding bases_fields
bases_loop outside = record { none = λ room bytes. refl; more = λ room n bytes. refl }

-- the device number of the card before, and the memory that is left
abbrev pub card_after : (outside : Bool) → ℕ × ℕ → Reading FittedCard
card_after outside before = card_fields outside before.0 before.1

abbrev pub past_card : ℕ × ℕ → FittedCard → ℕ × ℕ
past_card before card = (card.dev, before.1 - memory_of_cards (card ∷ []))

abbrev pub cards_after : (outside : Bool) → ℕ × ℕ → (count : ℕ) → Reading (List FittedCard)
cards_after outside before count = cards_fields outside count before.0 before.1

pub cards_loop : (outside : Bool) → IsLoop (card_after outside) past_card (cards_after outside)
unfolding cards_fields
cards_loop outside = record { none = λ before bytes. refl; more = λ before n bytes. refl }
