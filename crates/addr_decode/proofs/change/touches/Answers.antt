use Rattle.std.proofs.Common.{◌<◌, ℕ, ◌∙◌, lit<}
use Rattle.addr_decode.proofs.CardLemmas.{no_low_card}
use Rattle.addr_decode.proofs.NameLemmas.{names_touch}
use Rattle.addr_decode.proofs.change.touches.Goals as goal

pub returns : goal.returns
returns c = record {
  touched = λ setup bytes stands.
      let low = λ (dev : ℕ) (below : dev < 2). no_low_card setup _ dev below c.requires.cards.each stands.cards.0 in
      (rw (← stands.cards.0) at c.has_name.ensures.named)
      ∙ names_touch setup c.args.reg c.args.width 0 (low 0 (lit< tt)) (low 1 (lit< tt));
}
