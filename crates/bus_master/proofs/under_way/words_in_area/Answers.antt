use Rattle.std.proofs.Common.{sym, ◌∙◌, arith}
use Rattle.bus_master.proofs.AreaLemmas.{in_area}
use Rattle.bus_master.proofs.under_way.words_in_area.Goals as goal

pub returns-clause-area : goal.returns-clause-area
returns-clause-area c = λ setup bytes kind i stands below.
    let edge = c.next_edge.ensures in
    in_area _ _ _ kind _ (edge.next setup bytes stands) (edge.last setup bytes stands).0
    (edge.equal setup bytes stands) (sym c.contains.ensures.inside ∙ c.if-contains.false)
    (omega (arith, c.ranges.addr.fits)) i
    (rw (c.max.ensures, c.unwrap_or-end.ensures) at below)
