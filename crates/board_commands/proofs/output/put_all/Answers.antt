use Rattle.std.proofs.Common.{arith, rules, ◌∙◌}
use Rattle.std.proofs.lemmas.Bool.Decides.{nat_tests}
use Rattle.board_commands.proofs.SentLemmas.{nothing_sent, then_piece_sent, then_piece_refused}
use Rattle.command_files.proofs.CallLemmas.{none_made}
use Rattle.board_commands.proofs.PutLemmas.{piece_put, piece_not_put, puts_failed}
use Rattle.board_commands.proofs.output.put_all.Goals as goal

pub loop-piece-init : goal.loop-piece-init
loop-piece-init g c = grind (arith, nat_tests, nothing_sent, none_made)

pub loop-piece-preserved : goal.loop-piece-preserved
loop-piece-preserved g c = record {
  sent =
      then_piece_sent _ _ _ _ c.pieces-piece-items.result.now c.loop-piece.piece-index c.piece-item.result _
      c.loop-piece-test.true
      c.piece-item.is c.deref.ensures.value c.loop-piece.invariant.sent c.in_ok-put_piece.ensures.whole;
  quiet = c.in_ok-put_piece.ensures.quiet ∙ c.loop-piece.invariant.quiet;
  puts = piece_put _ _ _ c.loop-piece.invariant.puts c.in_ok-put_piece.ensures.puts;
}

pub returns-in_err-put_piece-clause-front : goal.returns-in_err-put_piece-clause-front
returns-in_err-put_piece-clause-front g c =
    then_piece_refused _ _ _ _ c.pieces-piece-items.result.now c.loop-piece.piece-index c.piece-item.result _
    c.loop-piece-test.true c.piece-item.is c.deref.ensures.value c.loop-piece.invariant.sent c.from_residual.result
    c.in_err-put_piece.ensures.front

pub returns-in_err-put_piece-clause-puts : goal.returns-in_err-put_piece-clause-puts
returns-in_err-put_piece-clause-puts g c =
    puts_failed _ _ c.from_residual.result (search rules)
    (piece_not_put _ _ _ c.loop-piece.invariant.puts c.in_err-put_piece.ensures.puts)
