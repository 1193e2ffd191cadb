use Rattle.std.proofs.Common.{◌≤◌, arith}
use Rattle.std.proofs.lemmas.Bool.Decides.{nat_tests}
use Rattle.map_publish.proofs.Fronts.{prefix_shorter}
use Rattle.map_publish.proofs.front.Front.begins.Goals as goal

pub returns-clause-yes : goal.returns-clause-yes
returns-clause-yes c is =
    let this = c.args.self.now in let other = c.args.other.now in
    let both = c.learn.new.self.log in
    let own = rw c.again-both.ensures at c.learn.ensures.2 in
    let less : this.count ≤ other.count = grind (arith, nat_tests) in
    prefix_shorter this.seen.log other.seen.log both own c.learn.ensures.3
    (omega (arith, less, this.counted, other.counted))
