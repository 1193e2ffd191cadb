use Rattle.std.proofs.Common.{sym, ◌∙◌}
use Rattle.addr_decode.proofs.MemoryLemmas.{areas_beside, areas_of_row, plain_outside}
use Rattle.addr_decode.proofs.areas.areas_below_and_above.Goals as goal

pub returns-in-Some : goal.returns-in-Some
returns-in-Some c = record {
  areas = λ setup bytes stands.
      sym (areas_of_row setup bytes c.args.addr _
      (plain_outside bytes c.args.addr c.requires.outside ∙ sym (c.in-Some.ensures.row setup bytes stands)));
}

pub returns-in-None : goal.returns-in-None
returns-in-None c = record {
  areas = λ setup bytes stands.
      sym (areas_beside setup bytes c.args.addr _ (c.area_beside_dram-area.ensures.area setup bytes stands)
      c.requires.outside
      (plain_outside bytes c.args.addr c.requires.outside ∙ sym (c.in-None.ensures.row setup bytes stands)));
}
