use Rattle.std.proofs.Common.{arith}
use Rattle.std.proofs.lemmas.Bool.Decides.{Decides-eqb, nat_tests}
use Rattle.std.proofs.lemmas.Slice.Eq.{strip_prefix_is}
use Rattle.log_check.proofs.line.go_past.Goals as goal

pub returns : goal.returns
returns c =
    let told = strip_prefix_is Decides-eqb c.args.rest.now c.as_bytes.result.now c.strip_prefix.result
    c.strip_prefix.ensures.cases in
    record { cases = grind (arith, nat_tests) }
