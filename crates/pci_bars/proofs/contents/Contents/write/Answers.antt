use Rattle.std.proofs.Common.{◌≡◌, length, sym, ◌∙◌, arith}
use Rattle.pci_bars.specs.Contents.{held}
use Rattle.pci_bars.proofs.ContentsLemmas.{IsBuffer, buffer_held, buffer_set, buffer_there, IsWritten, written, lost}
use Rattle.pci_bars.proofs.ContentsLemmas.{stored_written}
use Rattle.pci_bars.proofs.contents.Contents.write.Goals as goal

pub returns-then-base-ne-ROM_BASE : goal.returns-then-base-ne-ROM_BASE
returns-then-base-ne-ROM_BASE c =
    let at : IsBuffer c.self.inside.buffers.items c.args.self.now c.slot_of.result c.args.dev c.args.base
    c.index_mut.result.now = grind arith in
    let old : held c.args.self.now c.args.dev c.args.base ≡ c.deref_mut.result.now = buffer_held at
    ∙ sym c.deref_mut.ensures.value in
    let long : length c.put_value.new.kept ≡ length (held c.args.self.now c.args.dev c.args.base) =
    rw old (omega arith) in
    let all = written c.args.self.now c.args.dev c.args.base c.args.off c.args.width c.args.value c.put_value.new.kept
    c.if-base-ne-ROM_BASE.true (buffer_there at) c.requires.place.number long (rw old c.put_value.ensures.bytes) in
    rw (buffer_set at c.put_value.new.kept (omega arith))
    (record { sizes = all.sizes; bytes = all.bytes; stored = stored_written all })

pub returns-else-base-ne-ROM_BASE-clause-stored : goal.returns-else-base-ne-ROM_BASE-clause-stored
returns-else-base-ne-ROM_BASE-clause-stored c =
    let all : IsWritten c.args.self.now c.args.dev c.args.base c.args.off c.args.width c.args.value c.args.self.now =
    rw c.if-base-ne-ROM_BASE.false (lost c.args.self.now c.args.dev c.args.off c.args.width c.args.value) in
    stored_written all
