use Rattle.std.proofs.Common.{rules}
use Rattle.addr_decode.specs.MapRegs.{map_bytes}
use Rattle.addr_decode.proofs.StandsLemmas.{single_stored}
use Rattle.addr_decode.proofs.regs.MapRegs.set_single.Goals as goal

pub returns-clause-stands : goal.returns-clause-stands
returns-clause-stands c = λ setup bytes stands.
    single_stored setup bytes (map_bytes c.args.self.now) stands c.args.byte c.requires.cards c.ranges.byte.fits
    c.args.number c.single_after.result (search rules) c.requires.number (c.single_after.ensures.after setup)
