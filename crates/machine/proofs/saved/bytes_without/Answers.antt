use Rattle.machine.proofs.SavedParts.{blank_image}
use Rattle.machine.proofs.saved.bytes_without.Goals as goal

pub returns-clause-bytes : goal.returns-clause-bytes
returns-clause-bytes c =
    let serial = c.in_ok-push_after.ensures.sound c.in_ok-push_before.ensures.registers in
    blank_image _ _ _ _ _ _ serial.chipset.whole.stores.dram c.new-bytes.ensures.items c.in_ok-push_before.ensures.added
    (rw c.board.ensures.board at c.in_ok-push_pages.ensures.added)
    c.in_ok-push_after.ensures.added
