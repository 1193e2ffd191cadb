use Rattle.std.proofs.Common.{sym, subst}
use Rattle.addr_decode.specs.MapRegs.{StandsFor}
use Rattle.promises.proofs.DecodedMaps.{answers_as_decode}
use Rattle.promises.proofs.definitions.map_as_decoded.Goals as goal

pub returns : goal.returns
returns c = record {
  answers = λ setup bytes stands.
      answers_as_decode setup bytes c.from_scratch.result.ranges
      (c.from_scratch.ensures.map setup bytes (subst (StandsFor setup bytes) (sym c.from_scratch.ensures.regs) stands));
}
