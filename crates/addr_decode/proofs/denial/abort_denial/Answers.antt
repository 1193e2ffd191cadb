use Rattle.std.proofs.Common.{refl}
use Rattle.addr_decode.proofs.MemoryLemmas.{denials_in_order}
use Rattle.addr_decode.proofs.denial.abort_denial.Goals as goal

pub returns-in-Some : goal.returns-in-Some
returns-in-Some c = record {
  denial = λ setup bytes stands.
      rw (← c.top_of.ensures.top bytes stands.rows, denials_in_order, ← c.in-Some.ensures.denial) refl;
}

pub returns-in-None : goal.returns-in-None
returns-in-None c = record {
  denial = λ setup bytes stands.
      rw (
        ← c.top_of.ensures.top bytes stands.rows,
        denials_in_order,
        ← c.in_default.ensures.denial,
        ← c.in_default-shut_mem.ensures.shut setup bytes (rw c.deref.ensures.0 stands.cards),
        ← c.in-None.ensures.unselected setup bytes (rw c.deref-2.ensures.0 stands.cards),
      ) c.row_denial.ensures.denial;
}
