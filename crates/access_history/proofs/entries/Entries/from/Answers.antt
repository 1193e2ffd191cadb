use Rattle.std.proofs.Common.{◌-◌, length, drop, arith}
use Rattle.std.proofs.lemmas.List.{drop-map, length-drop, take_all}
use Rattle.access_history.specs.Packed.{entry_in}
use Rattle.access_history.proofs.entries.Entries.from.Goals as goal

pub returns : goal.returns
returns c =
    let entries = c.self.inside.entries.now in let parts = c.self.inside.parts.now in let is = c.self.view_is in
    let rest = take_all (length entries - c.args.start) (drop c.args.start entries) in
    let size = length-drop c.args.start entries in let cut = drop-map (entry_in parts) c.args.start entries in
    grind (arith, is, c.new.ensures.entries, rest, size, cut)
