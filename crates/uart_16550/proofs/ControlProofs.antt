-- The reset control register of a board with a serial port.
use Rattle.std.proofs.Common.{◌≡◌, ℕ, Bool, List, [], ◌∷◌, ◌++◌, refl, sym, arith}
use Rattle.board_prelude.proofs.{nat_tests, Event, Port, Entry, control_written, control_after, reset_control}
use Rattle.board_prelude.proofs.{is_hard_reset, statement_of, statements_of}
use Rattle.board_prelude.specs.{Statement}
use Rattle.board_spec.proofs.OrderLawProofs.{statements-append}
use Rattle.uart_16550.specs.declared.com1.Com1.{Com1}
use Rattle.uart_16550.specs.Com1.{line_steps, board_steps}
use Rattle.uart_16550.specs.Sent.{ControlFollows}

-- the register after statements, the oldest first
control_over : ℕ → List Statement → ℕ
control_over control [] = control
control_over control (statement ∷ later) = control_over (control_after control (control_written statement.event)) later

control_last : (control : ℕ) (statements : List Statement) (last : Statement) →
    control_over control (statements ++ last ∷ [])
    ≡ control_after (control_over control statements) (control_written last.event)
unfolding control_over
control_last control [] last = refl
control_last control (statement ∷ later) last =
    control_last (control_after control (control_written statement.event)) later last

control_more : (more history : List Entry) →
    reset_control (more ++ history) ≡ control_over (reset_control history) (statements_of more)
unfolding reset_control control_over
control_more [] history = refl
control_more (entry ∷ more) history =
    rw (control_more more history, statements-append (entry ∷ []) more)
    (sym (control_last (reset_control history) (statements_of more) (statement_of entry)))

-- levels of line 4 leave it
control_of_change : (control : ℕ) (old new : Bool) → control_over control (line_steps old new) ≡ control
unfolding control_over
control_of_change control old new = grind (arith, nat_tests)

control_stepped : (control actor : ℕ) (resets : Bool) (event : Event) (com1 : Com1) →
    control_over control (board_steps actor resets event com1) ≡ control_after control (control_written event)
unfolding control_over
control_stepped control actor resets (Port access) com1 =
    grind (arith, nat_tests, control_of_change)
control_stepped control actor resets _ com1 = refl

pub control_follows : ControlFollows
control_follows history after actor event com1 goes_on =
    rw (goes_on.grows, control_more goes_on.more history, goes_on.same)
    (control_stepped (reset_control history) actor (is_hard_reset history event) event com1)
