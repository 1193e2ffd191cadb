use Rattle.std.proofs.Common.{◌≡◌, ◌≤◌, length, take}
use Rattle.arrayvec.specs.ArrayVec.{array_vec_len}
use Rattle.addr_decode.proofs.regs.MapRegs.copy.Given as goal

abbrev pub invariant-loop-card : goal.invariant-loop-card
invariant-loop-card l = record {
  from : l.card-items ≡ l.self.cards.items;
  few : length l.card-items ≤ 8;
  count : array_vec_len l.cards ≡ l.card-index;
  copied : l.cards.items ≡ take l.card-index l.card-items;
}
