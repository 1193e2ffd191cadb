use Rattle.addr_decode.specs.MapRegs.{map_bytes}
use Rattle.map_builder.proofs.BoardLemmas.{has_board}
use Rattle.map_builder.proofs.BuildLemmas.{are_map_of}
use Rattle.map_builder.proofs.flat_map.FlatMap.restored.Goals as goal

pub uncounted_ranges-ranges-requires-clause-board : goal.uncounted_ranges-ranges-requires-clause-board
uncounted_ranges-ranges-requires-clause-board c = has_board _ c.requires.cards c.hold_widths.ensures.widths

pub invariant_of-result : goal.invariant_of-result
invariant_of-result c =
    let board = has_board (map_bytes c.args.regs) c.requires.cards c.hold_widths.ensures.widths in
    let ranges = c.uncounted_ranges-ranges.ensures in
    are_map_of c.uncounted_ranges-ranges.result.items c.requires.cards board ranges.tiles ranges.map ranges.few

pub returns-clause-whole : goal.returns-clause-whole
returns-clause-whole c = invariant_of-result c
