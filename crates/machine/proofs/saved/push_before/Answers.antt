use Rattle.std.proofs.Common.{ap, ◌∙◌}
use Rattle.board_chipset.specs.Chipset.{Running}
use Rattle.machine.proofs.SavedParts.{before_added}
use Rattle.machine.proofs.saved.push_before.Goals as goal

pub returns-clause-added : goal.returns-clause-added
returns-clause-added c =
    before_added _ _ (record { serial = c.args.serial.now; identities = c.args.identities.now }) _ _ _ _ _
    c.board-2.ensures.board (c.setup.ensures.setup ∙ ap (λ (board : Running). board.setup) c.board.ensures.board)
    c.in_ok-push_fitted.ensures.added c.save_before_dram.ensures.saved
