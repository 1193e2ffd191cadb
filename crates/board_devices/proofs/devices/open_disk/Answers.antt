use Rattle.std.proofs.Common.{◌≡◌, ◌∙◌, ap, refl, Err, length}
use Rattle.ata_pio.specs.declared.ata.AtaOpen.{AtaOpen}
use Rattle.board_devices.proofs.DeviceLemmas.{fault_named, opened_disk}
use Rattle.board_devices.proofs.devices.open_disk.Goals as goal

pub returns-in-Ok-clause-fresh : goal.returns-in-Ok-clause-fresh
returns-in-Ok-clause-fresh c = λ setup fitted.
    opened_disk setup c.in-Some.bytes.now c.in-Ok.disk (fitted ∙ rw c.in-Some.is refl) c.in-Ok.ensures.opened

pub returns-in-Err-clause-bad : goal.returns-in-Err-clause-bad
returns-in-Err-clause-bad c =
    let named = fault_named c.open.result c.in-Err.fault (length c.in-Some.bytes.now) c.open.ensures.bad_length
    c.in-Err.is in (
      λ is disk. let bad : c.in-Err.fault ≡ AtaOpen.BadLength = cc in named.0 bad (rw c.in-Some.is at disk),
      λ none. ap (λ (f : AtaOpen). Err f) (named.1 (λ disk. none (rw c.in-Some.is disk))),
    )
