use Rattle.std.proofs.Common.{◌≡◌, true, false, sym, ◌∙◌, refl}
use Rattle.board_spec.specs.MapWrites.{is_map_byte}
use Rattle.map_blame.proofs.CoverLemmas.{touches_one}
use Rattle.map_blame.proofs.keep.is_last.Goals as goal

pub returns-then-touches : goal.returns-then-touches
returns-then-touches c = record {
  last = λ setup bytes stands.
      let map_byte : is_map_byte setup c.args.reg ≡ true =
      sym (touches_one setup c.args.reg) ∙ sym (c.touches.ensures.touched setup bytes stands) ∙ c.if-touches.true in
      rw (map_byte, c.eq.ensures, c.last_of.ensures.number) refl;
}

pub returns-else-touches : goal.returns-else-touches
returns-else-touches c = record {
  last = λ setup bytes stands.
      let map_byte : is_map_byte setup c.args.reg ≡ false =
      sym (touches_one setup c.args.reg) ∙ sym (c.touches.ensures.touched setup bytes stands) ∙ c.if-touches.false in
      rw (c.if-touches.false, map_byte) refl;
}
