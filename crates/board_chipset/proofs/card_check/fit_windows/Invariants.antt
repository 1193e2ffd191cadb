-- What the cards so far took of the room, and what is left of them takes, is what all take.
use Rattle.std.proofs.Common.{◌≡◌, ◌+◌, drop}
use Rattle.board_prelude.proofs.{most_card_memory, memory_of_cards}
use Rattle.board_chipset.proofs.card_check.fit_windows.Given as goal

abbrev pub invariant-loop-card : goal.invariant-loop-card
invariant-loop-card l =
    l.room + memory_of_cards l.cards ≡ most_card_memory + memory_of_cards (drop l.card-index l.cards)
