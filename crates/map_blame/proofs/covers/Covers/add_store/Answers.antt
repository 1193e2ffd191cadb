use Rattle.map_blame.proofs.CoverLemmas.{covers_of_store}
use Rattle.std.proofs.Common.{refl}
use Rattle.map_blame.proofs.covers.Covers.add_store.Goals as goal

pub returns : goal.returns
returns c = record {
  added = λ changes number are.
      covers_of_store c.args.reg c.args.width c.args.value c.args.number changes c.args.self.now _ number are
      c.cover_all.ensures.covered (rw (c.or-self.ensures, c.then_some.ensures, c.locks.ensures.locks) refl);
}
