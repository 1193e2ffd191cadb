use Rattle.std.proofs.Common.{sym, ◌∙◌}
use Rattle.addr_decode.specs.MapRegs.{map_bytes}
use Rattle.addr_decode.proofs.MemoryLemmas.{plain_areas, plain_denials, plain_outside}
use Rattle.addr_decode.proofs.memory.plain_row.Goals as goal

pub returns-clause-row : goal.returns-clause-row
returns-clause-row c = λ setup bytes stands.
    c.row_beside_hole.ensures.row setup bytes stands
    ∙ sym (plain_outside bytes c.args.addr (sym c.if-contains.ensures.inside))

pub returns-clause-area : goal.returns-clause-area
returns-clause-area c = plain_areas (map_bytes c.args.regs.now) c.args.addr _ (returns-clause-row c)

pub returns-clause-denial : goal.returns-clause-denial
returns-clause-denial c = plain_denials (map_bytes c.args.regs.now) c.args.addr _ (returns-clause-row c)
