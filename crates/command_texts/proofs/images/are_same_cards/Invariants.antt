-- The cards so far are the same.
use Rattle.std.proofs.Common.{◌≡◌, take, length}
use Rattle.command_texts.proofs.images.are_same_cards.Given as goal

abbrev pub invariant-loop-index : goal.invariant-loop-index
invariant-loop-index l = record {
  same : take l.index l.cards ≡ take l.index l.others;
  count : length l.cards ≡ length l.others;
}
