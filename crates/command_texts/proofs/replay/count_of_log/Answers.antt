use Rattle.std.proofs.Common.{ℕ, List, ◌≡◌, length, ap, ◌∙◌, Result, Ok, Err, IfOk}
use Rattle.board_prelude.proofs.{Entry, Setup}
use Rattle.board_prelude.specs.{Statement}
use Rattle.board_core.specs.Kept.{Standing}
use Rattle.script_spec.specs.Checks.{IsLogOf}
use Rattle.log_check.specs.Checked.{IsCheckedLog}
use Rattle.command_texts.proofs.replay.count_of_log.Goals as goal

counted : {E : Type 0} (result : Result ℕ E) (setup other : Setup) (version : ℕ) (phases : List (List Statement))
    (bytes : List ℕ) (history : List Entry) → setup ≡ other →
    IfOk result (λ count. IsCheckedLog setup version phases bytes history count) →
    IfOk result (λ count. (log : IsLogOf other version phases bytes) × (count ≡ length log.history))
counted (Ok count) setup other version phases bytes history same is =
    let checked : IsCheckedLog other version phases bytes history count = rw same at is in
    (checked.log, checked.count_is)
counted (Err fault) setup other version phases bytes history same is = tt

pub returns-clause-log : goal.returns-clause-log
returns-clause-log c =
    counted c.check_log.result _ _ _ _ _ _
    (ap (λ (board : Standing). board.setup) c.new-board.ensures.fresh ∙ c.into_replay.ensures.setup)
    c.check_log.ensures.log
