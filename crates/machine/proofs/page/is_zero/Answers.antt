use Rattle.std.proofs.Common.{◌∙◌}
use Rattle.machine.proofs.Pages.{zero_page}
use Rattle.machine.proofs.page.is_zero.Goals as goal

pub returns : goal.returns
returns c = record { zero = c.eq.ensures ∙ rw c.requires.zeros (zero_page c.args.kept.now c.requires.within) }
