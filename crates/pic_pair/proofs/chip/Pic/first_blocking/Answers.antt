-- The first level of those that block is the first that blocks.
use Rattle.std.proofs.Common.{ap, sym, ◌∙◌}
use Rattle.device_spec.specs.Pic.{Chip, is_blocking}
use Rattle.device_spec.specs.Levels.{levels_where}
use Rattle.pic_pair.specs.contracts.chip.Pic.{the_view}
use Rattle.pic_pair.proofs.ChipLemmas.{first_is}
use Rattle.pic_pair.proofs.chip.Pic.first_blocking.Goals as goal

pub returns-clause-first : goal.returns-clause-first
returns-clause-first c =
    let is = c.blocking.ensures.blocking ∙ ap (λ (chip : Chip). levels_where (is_blocking chip)) (sym c.self.view_is) in
    rw (← c.self.view_is) (c.first_of.ensures.first
    ∙ first_is (the_view c.self.inside) c.blocking.result c.self.invariant.1 is)
