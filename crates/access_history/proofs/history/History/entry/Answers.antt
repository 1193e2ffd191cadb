use Rattle.std.proofs.Common.{◌<◌, length, arith, refl}
use Rattle.board_prelude.proofs.{length-map, reverse-reverse, length-reverse}
use Rattle.access_history.specs.Packed.{entry_in, entries_in}
use Rattle.std.proofs.lemmas.Option.{slice_get_read, slice_get-map}
use Rattle.access_history.proofs.history.History.entry.Goals as goal

pub returns : goal.returns
returns c =
    let list = c.self.inside.parts.items in let entries = c.self.inside.entries.items in let is = c.self.view_is in
    let turned = reverse-reverse (entries_in list entries) in let size = length-map entries (entry_in list) in
    let within : c.args.i < length entries = grind (arith, is, turned, length-reverse c.args.self.now.entries, size) in
    let packed = slice_get_read entries (length entries) c.args.i c.index.result.now refl within c.index.ensures in
    let one = slice_get-map (entry_in list) entries c.args.i in
    grind (arith, is, turned, packed, one, c.deref.ensures.value, c.entry.ensures.entry)
