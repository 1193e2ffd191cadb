use Rattle.std.proofs.Common.{rules, ◌≡◌, [], ◌∷◌, ◌++◌, arith}
use Rattle.access_history.proofs.Pushed.{pushed_entries, pushed_history}
use Rattle.access_history.proofs.history.History.add.Goals as goal

pub invariant_of-self : goal.invariant_of-self
invariant_of-self c =
    let new_is : c.push.new.self.items ≡ c.self.inside.entries.items ++ c.keep-packed.result ∷ [] = search rules in
    pushed_history c.keep-packed.result c.self.invariant (search rules) c.keep-packed.ensures.kept new_is
    c.push.ensures.capacity c.keep-packed.ensures.capacity

pub returns : goal.returns
returns c =
    let new_is : c.push.new.self.items ≡ c.self.inside.entries.items ++ c.keep-packed.result ∷ [] = search rules in
    let pushed = pushed_entries c.self.inside.entries.items c.keep-packed.result c.self.invariant.within
    c.keep-packed.ensures.kept c.keep-packed.ensures.entry new_is in
    let is = c.self.view_is in grind (arith, pushed, is)
