-- The cards so far are written.
use Rattle.std.proofs.Common.{◌≡◌, ◌++◌, take, flat_map}
use Rattle.board_image.specs.ImageBytes.{card_bytes}
use Rattle.machine.proofs.setup_writer.push_cards.Given as goal

abbrev pub invariant-loop-card : goal.invariant-loop-card
invariant-loop-card l = l.into.items ≡ l.fn.into.items ++ flat_map card_bytes (take l.card-index l.cards)
