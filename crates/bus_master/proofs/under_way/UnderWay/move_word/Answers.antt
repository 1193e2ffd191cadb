use Rattle.std.proofs.Common.{sym}
use Rattle.bus_master.proofs.WordLemmas.{word_stands}
use Rattle.bus_master.proofs.under_way.UnderWay.move_word.Goals as goal

pub returns-clause-word : goal.returns-clause-word
returns-clause-word c = λ setup bytes moving of reached is.
    let view = sym c.self.view_is in
    let copied = c.copy_word.ensures in
    word_stands of (rw view at is) c.args.lba c.copy_word.new.store c.args.direction c.args.area c.self.invariant.addr
    (rw view at reached) (copied.memory setup bytes of) copied.disk (copied.word setup bytes of) copied.cells
