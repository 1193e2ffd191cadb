use Rattle.std.proofs.Common.{ap, arith, sym, ◌∙◌}
use Rattle.bus_master.specs.Transfer.{TransferPlace, kind_of, next_sector, next_word}
use Rattle.bus_master.specs.Pieces.{going_from}
use Rattle.bus_master.proofs.PieceLemmas.{ends_at_word, move_is, outside_smram}
use Rattle.bus_master.proofs.under_way.UnderWay.next_stretch.Goals as goal

pub returns-in-Ok-clause-next : goal.returns-in-Ok-clause-next
returns-in-Ok-clause-next c = λ setup bytes cells medium stands passed.
    let addr = ap (λ (p : TransferPlace). p.addr) c.self.view_is in
    let moved = ap (λ (p : TransferPlace). p.moved) c.self.view_is in
    let words = c.stretch-words.ensures in
    move_is setup bytes (going_from c.args.self.now c.args.direction c.args.lba c.args.most) cells medium _
    (record {
      addr = addr;
      sector = ap (λ (p : TransferPlace). next_sector c.args.lba p) c.self.view_is;
      word = ap next_word c.self.view_is;
      some = words.some;
      most = words.most;
      left = words.left;
      within = omega (arith, moved, words.sector);
    })
    passed (omega (arith, moved, c.self.invariant.moved))
    (rw (c.kind.ensures.kind, addr) at (c.in-Ok.ensures.area setup bytes stands))
    (rw (c.kind.ensures.kind, addr) at (c.in-Ok.ensures.end setup bytes stands))
    (λ i below. words.area setup bytes i stands below)

pub returns-in-Ok-clause-smram : goal.returns-in-Ok-clause-smram
returns-in-Ok-clause-smram c = λ setup bytes stands.
    let addr = ap (λ (p : TransferPlace). p.addr) c.self.view_is in
    outside_smram setup bytes (kind_of c.args.direction) c.self.inside.addr c.stretch-words.result c.in-Ok.area
    c.self.invariant.addr
    (λ i below.
    rw addr
    (c.stretch-words.ensures.area setup bytes i stands below
    ∙ sym (rw (c.kind.ensures.kind, addr) at (c.in-Ok.ensures.area setup bytes stands))))

pub returns-in-Err-clause-next : goal.returns-in-Err-clause-next
returns-in-Err-clause-next c = λ setup bytes cells medium stands passed.
    let addr = ap (λ (p : TransferPlace). p.addr) c.self.view_is in
    ends_at_word setup bytes (going_from c.args.self.now c.args.direction c.args.lba c.args.most) cells medium passed
    c.in-Err.end c.requires.left (rw (c.kind.ensures.kind, addr) at (c.in-Err.ensures.end setup bytes stands))
