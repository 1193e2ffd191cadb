-- The cards so far are written.
use Rattle.std.proofs.Common.{◌≡◌, ◌++◌, take, flat_map}
use Rattle.board_image.specs.ImageBytes.{card_bytes, head_bytes}
use Rattle.board_image.proofs.writer.front_piece.Given as goal

abbrev pub invariant-loop-card : goal.invariant-loop-card
invariant-loop-card l =
    l.piece.items ≡ head_bytes l.setup l.steps ++ flat_map card_bytes (take l.card-index l.setup.cards)
