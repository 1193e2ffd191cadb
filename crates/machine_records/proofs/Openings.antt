-- What an open looks at before it copies: the cards that records say are as many as the records.
use Rattle.board_prelude.proofs.{common_steps, nat_tests, drop_more, FittedCard}
use Rattle.std.proofs.Common.{◌≡◌, ℕ, ◌+◌, ◌<◌, ◌&&◌, true, arith, List, [], ◌∷◌, length, get_or, drop, is_some, Some}
use Rattle.board_chipset.specs.Setups.{IsMemory}
use Rattle.machine_records.specs.Openings.{IsSetupRefusal, setup_said}
use Rattle.machine_records.specs.Statuses.{bad_cards}
use Rattle.machine_records.specs.declared.card.CardRecord.{CardRecord}
use Rattle.machine_records.specs.Cards.{all_said, card_said, cards_said}

pub said_count : (records : List CardRecord) (cards : List FittedCard) → cards_said records ≡ Some cards →
    length cards ≡ length records
said_count [] cards is = grind (arith, nat_tests, common_steps)
said_count (first ∷ later) cards is = grind (arith, nat_tests, common_steps, said_count later)

-- all say something where the first does, and all behind it do
pub said_next : (records : List CardRecord) (index : ℕ) (last : CardRecord) → index < length records →
    is_some (all_said card_said (drop index records))
    ≡ (is_some (card_said (get_or records index last)) && is_some (all_said card_said (drop (index + 1) records)))
said_next records index last within = grind (arith, nat_tests, common_steps, drop_more)

-- ---- more than eight

pub many_cards : (mib : ℕ) (records : List CardRecord) (rom disk : List ℕ) → is_some (cards_said records) ≡ true →
    8 < length records → IsMemory mib → IsSetupRefusal (setup_said mib records rom disk) bad_cards
many_cards mib records rom disk test many memory = grind (arith, nat_tests, common_steps, said_count)
