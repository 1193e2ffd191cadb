use Rattle.std.proofs.Common.{arith}
use Rattle.std.proofs.lemmas.List.{take-map}
use Rattle.access_history.specs.Packed.{entry_in}
use Rattle.access_history.proofs.entries.Entries.before.Goals as goal

pub returns : goal.returns
returns c =
    let list = take-map (entry_in c.self.inside.parts.now) c.args.end c.self.inside.entries.now in
    let is = c.self.view_is in grind (arith, is, c.new.ensures.entries, list)
