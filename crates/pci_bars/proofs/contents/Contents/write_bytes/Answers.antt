use Rattle.std.proofs.Common.{◌≡◌, ◌+◌, ◌-◌, [], length, set, sym, refl, ◌∙◌, arith}
use Rattle.board_prelude.proofs.{get_or-set_same, get_or-set_other, with_items, drop-drop}
use Rattle.pci_bars.specs.Contents.{slot_number}
use Rattle.pci_bars.proofs.ContentsLemmas.{IsBuffer, buffer_held, buffer_set, buffer_there, lists, stretch}
use Rattle.pci_bars.proofs.ContentsLemmas.{stretch_length, same_slot}
use Rattle.pci_bars.proofs.contents.Contents.write_bytes.Goals.{After-copy_from_slice}
use Rattle.pci_bars.proofs.contents.Contents.write_bytes.Goals as goal
use Rattle.std.proofs.lemmas.Bool.Decides.{nat_tests}

there : (c : After-copy_from_slice) → IsBuffer c.self.inside.buffers.items c.args.self.now c.slot_of.result c.args.dev
    c.args.base c.index_mut.result.now
there c = grind arith

new : (c : After-copy_from_slice) →
    lists (set c.self.inside.buffers.items c.slot_of.result
    (with_items c.index_mut.result.now (stretch c.deref_mut.result.now c.copy_from_slice.new.self c.args.off
    (length c.args.bytes.now))))
    ≡ set c.args.self.now (slot_number c.args.dev c.args.base)
    (stretch c.deref_mut.result.now c.copy_from_slice.new.self c.args.off (length c.args.bytes.now))
new c = grind (arith, nat_tests, buffer_held, there, buffer_set, stretch_length)

pub returns-clause-here : goal.returns-clause-here
returns-clause-here c =
    let at = (goal.at.returns-clause-here c).After-copy_from_slice in
    let size : c.args.off + length c.args.bytes.now - c.args.off ≡ length c.args.bytes.now = omega arith in
    rw (
      new at,
      get_or-set_same c.args.self.now (slot_number c.args.dev c.args.base) _ [] (buffer_there (there at)),
      size,
      c.copy_from_slice.ensures.after,
      drop-drop (length c.args.bytes.now) c.args.off c.deref_mut.result.now,
      buffer_held (there at) ∙ sym at.deref_mut.ensures.value,
    ) refl

pub returns-clause-others : goal.returns-clause-others
returns-clause-others c = λ d b other apart.
    let at = (goal.at.returns-clause-others c).After-copy_from_slice in
    rw (new at)
    (get_or-set_other c.args.self.now (slot_number c.args.dev c.args.base) (slot_number d b) _ []
    (λ same. let both = same_slot c.requires.number other same in apart both.0 both.1))
