use Rattle.promises.proofs.PieceLaws.{piece_misses}
use Rattle.promises.proofs.masters.piece_beside_smram.Goals as goal

pub returns : goal.returns
returns c = record {
  beside = λ setup bytes stands.
      piece_misses setup bytes c.args.transfer.now (λ cell. 0) _ c.next.result
      (c.next.ensures.next setup bytes (λ cell. 0) stands) c.next.ensures.stretch
      (c.next.ensures.smram setup bytes stands);
}
