use Rattle.std.proofs.Common.{rules, ◌≡◌, ◌∙◌, sym}
use Rattle.host_bridge.proofs.RowLemmas.{row_below_top, row_above_top, none_above_top}
use Rattle.host_bridge.proofs.rows.row_of.Goals as goal

pub returns-then-addr-top_of-clause-row : goal.returns-then-addr-top_of-clause-row
returns-then-addr-top_of-clause-row c = λ bytes is_rows.
    sym (row_above_top bytes c.args.addr (rw (← c.top_of.ensures.top bytes is_rows) c.if-addr-top_of.true))

pub returns-clause-row : goal.returns-clause-row
returns-clause-row c =
    let same : c.map.result ≡ c.first_above.result = search rules in
    λ bytes is_rows.
    same
    ∙ c.first_above.ensures.first
    ∙ row_below_top _ _ _ c.told-drb is_rows (rw (← c.top_of.ensures.top bytes is_rows) c.if-addr-top_of.false)

pub returns-clause-none : goal.returns-clause-none
returns-clause-none c = λ bytes is_rows. rw (returns-clause-row c bytes is_rows) (none_above_top bytes c.args.addr)
