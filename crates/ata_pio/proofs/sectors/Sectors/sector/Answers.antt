use Rattle.std.proofs.Common.{◌≡◌, ◌+◌, ◌-◌, ◌*◌, arith, refl}
use Rattle.ata_pio.proofs.sectors.Sectors.sector.Goals as goal

pub returns : goal.returns
returns c =
    let width : c.args.sector * 512 + 512 - c.args.sector * 512 ≡ 512 = omega arith in
    let place : c.args.sector * 512 ≡ 512 * c.args.sector = omega arith in
    record { bytes = rw (width, place, c.deref.ensures.value) refl }
