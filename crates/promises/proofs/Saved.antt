-- A board that was saved and loaded goes on as it would have unsaved.
use Rattle.std.proofs.Common.{◌≡◌, ◌++◌, List, Result, Ok, Err, IfOk, refl, ap, sym, ◌∙◌, subst}
use Rattle.std.proofs.lemmas.List.{append_cancel_right}
use Rattle.board_core.specs.Kept.{Standing}
use Rattle.board_prelude.specs.{Entry, Setup, Statement, IsLegal, statements_of}
use Rattle.board_spec.proofs.OrderLawProofs.{statements-append}
use Rattle.board_spec.proofs.ReplayLaws.{one_replay}
use Rattle.promises.specs.Images.{GoOnAlike, IsAsSaved}

go_on : (setup : Setup) (history : List Entry) → GoOnAlike setup history history
go_on setup history more later first second same =
    let left : statements_of (more ++ history) ≡ statements_of history ++ statements_of more =
    statements-append more history in
    let right : statements_of (later ++ history) ≡ statements_of history ++ statements_of later =
    statements-append later history in
    let both : statements_of (more ++ history) ≡ statements_of (later ++ history) =
    left ∙ (ap (λ said. statements_of history ++ said) same ∙ sym right) in
    append_cancel_right more later history
    (one_replay setup (statements_of (later ++ history)) (more ++ history) (later ++ history)
    (record { legal = first; same = both }) (record { legal = second; same = refl }))

pub as_saved : (setup : Setup) (history : List Entry) (board : Standing) → board.setup ≡ setup →
    board.entries ≡ history → IsAsSaved setup history board
as_saved setup history board setup_is same = record {
  same_setup = setup_is;
  same = same;
  alike = subst (GoOnAlike setup history) (sym same) (go_on setup history);
}

pub loaded_as_saved : {E : Type 0} (setup : Setup) (history : List Entry) (result : Result Standing E) →
    IfOk result (λ board. board.setup ≡ setup) → IfOk result (λ board. board.entries ≡ history) →
    IfOk result (IsAsSaved setup history)
loaded_as_saved setup history (Ok board) setup_is same = as_saved setup history board setup_is same
loaded_as_saved setup history (Err fault) setup_is same = tt

-- of all histories with these steps
pub at_history : {E : Type 0} (setup : Setup) (steps : List Statement) (history : List Entry)
    (result : Result Standing E) →
    IfOk result
    (λ board. (other : List Entry) → IsLegal setup other → statements_of other ≡ steps → board.entries ≡ other) →
    IsLegal setup history → statements_of history ≡ steps → IfOk result (λ board. board.entries ≡ history)
at_history setup steps history (Ok board) saved legal same = saved history legal same
at_history setup steps history (Err fault) saved legal same = tt
