use Rattle.std.proofs.lemmas.Bool.Decides.{Decides-eqb}
use Rattle.std.proofs.lemmas.Slice.Eq.{strip_prefix_is}
use Rattle.scripts.proofs.StraightLemmas.{matched}
use Rattle.scripts.proofs.straight.after.Goals as goal

pub returns : goal.returns
returns c = record {
  rest =
      matched _ _ c.strip_prefix.result
      (strip_prefix_is Decides-eqb c.args.words.now c.args.verb.now c.strip_prefix.result c.strip_prefix.ensures.cases);
}
