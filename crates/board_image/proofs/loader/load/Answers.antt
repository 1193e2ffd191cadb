use Rattle.std.proofs.Common.{◌≡◌, List, rules}
use Rattle.board_prelude.specs.{Statement}
use Rattle.board_prelude.proofs.{Setup}
use Rattle.board_core.specs.Steps.{AreInRange}
use Rattle.board_image.specs.ImageBytes.{IsImage}
use Rattle.board_image.proofs.loader.load.Goals as goal

in_range : (setup other : Setup) (steps others : List Statement) → setup ≡ other → steps ≡ others →
    IsImage setup steps → AreInRange other others
in_range setup other steps others same all is = rw (← same, ← all) (λ k d below. (is.each k d below).event)

pub steps-requires-clause-in_range : goal.steps-requires-clause-in_range
steps-requires-clause-in_range c =
    in_range c.args.image.setup c.reserve.new.self.setup c.args.image.steps c.deref.result.now (search rules)
    (search rules) c.requires.image

pub returns-clause-saved : goal.returns-clause-saved
returns-clause-saved c history legal same =
    c.law_one_replay.ensures.one c.args.image.setup c.args.image.steps c.steps.new.self.entries history
    (record { legal = search rules; same = search rules }) (record { legal = legal; same = same })
