use Rattle.std.proofs.Common.{ℕ, List, ◌++◌, ◌∙◌, ap, append_assoc}
use Rattle.std.proofs.lemmas.Result.{on_ok_weaker}
use Rattle.pci_bars.specs.State.{contents_bytes}
use Rattle.board_devices.specs.State.{devices_bytes, machines_bytes}
use Rattle.board_chipset.specs.Given.{devices_left}
use Rattle.board_chipset.proofs.LeftBytes.{left_disk}
use Rattle.board_chipset.proofs.state.State.save_after_left.Goals as goal

pub returns-clause-saved : goal.returns-clause-saved
unfolding devices_bytes machines_bytes
returns-clause-saved c =
    let fitted = c.args.setup.now.disk in
    let devices = c.args.self.now.devices in
    let disk = left_disk fitted devices.disk c.requires.sound.disk c.sectors-sectors.ensures.whole in
    on_ok_weaker c.save_state-2.result (λ second. second ∙ rw (
      c.sectors-sectors.ensures.bytes,
      c.in_ok-save_state.ensures.saved,
      ap (λ (it : List ℕ). machines_bytes devices ++ it) disk,
    )
    (append_assoc c.args.into.now.items (contents_bytes c.args.self.now.stores.contents)
    (devices_left fitted devices))) c.save_state-2.ensures.saved
