use Rattle.std.proofs.Common.{rules, ◌≡◌, length, arith}
use Rattle.board_live.proofs.Histories.{oldest_whole}
use Rattle.board_live.proofs.sharing.shared.Goals as goal

pub invariant_of-result : goal.invariant_of-result
invariant_of-result g c =
    let board = g.B.Steps.standing c.args.board.value in
    let count : c.count-opened.result ≡ length board.entries = search rules in
    grind (arith, count, oldest_whole board.entries, c.requires)
