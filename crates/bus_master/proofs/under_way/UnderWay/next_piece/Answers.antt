use Rattle.std.proofs.Common.{sym, ◌∙◌, arith}
use Rattle.bus_master.proofs.under_way.UnderWay.next_piece.Goals as goal

pub returns-clause-next : goal.returns-clause-next
returns-clause-next c = λ setup bytes cells medium stands said.
    c.next_access.ensures.next setup bytes cells medium stands
    (record {
      some = omega (arith, c.if-words-eq0.false);
      over = sym c.is_over.ensures.over ∙ c.if-is_over.false;
      sector =
          rw (said (omega (arith, c.if-words-eq0.false))) (sym c.is_missing.ensures.missing ∙ c.if-is_missing.false);
    })
