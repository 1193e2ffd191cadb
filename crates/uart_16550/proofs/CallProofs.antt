-- No byte that was received is lost, and all are read in their order.
use Rattle.std.proofs.Common.{◌≡◌, ℕ, Bool, true, List, [], ◌∷◌, ◌++◌, refl, sym, ap, ◌∙◌, append_assoc, arith}
use Rattle.std.proofs.Common.{append-nil}
use Rattle.board_prelude.proofs.{nat_tests, Event, control_written, resets_hard}
use Rattle.uart_16550.specs.declared.register.ReadRegister.{ReadRegister}
use Rattle.uart_16550.specs.declared.register.WriteRegister.{WriteRegister}
use Rattle.uart_16550.specs.declared.com1.Happening.{Happening}
use Rattle.uart_16550.specs.declared.com1.Happening.TheVariants.{Comes, Happens}
use Rattle.uart_16550.specs.Uart.{Uart}
use Rattle.uart_16550.specs.Reads.{value_of, after_value}
use Rattle.uart_16550.specs.Writes.{with_value}
use Rattle.uart_16550.specs.Calls.{Call, after_call, brought, front_taken, taken, is_kept, is_keeping, after_calls}
use Rattle.uart_16550.specs.Calls.{all_brought, all_taken, ReadInOrder, calls_of}
use Rattle.uart_16550.specs.Sent.{Sending, sending_after}
use Rattle.uart_16550.specs.SerialOrder.{calls_for, all_calls, after_all, bytes_come, SerialReadsInOrder}
use Rattle.uart_16550.specs.declared.register.ReadRegister.TheVariants as read
use Rattle.uart_16550.specs.declared.register.WriteRegister.TheVariants as write

-- what a read takes, and what it leaves, is what was there
pub read_in_order : (uart : Uart) (register : ReadRegister) →
    front_taken uart.queue register (value_of uart register) ++ (after_value uart register).queue ≡ uart.queue
unfolding value_of after_value
read_in_order uart register = grind (arith, nat_tests)

pub write_keeps : (uart : Uart) (register : WriteRegister) (byte : ℕ) → is_kept uart register byte ≡ true →
    (with_value uart register byte).queue ≡ uart.queue
unfolding with_value
write_keeps uart register byte kept = grind (arith, nat_tests)

call_in_order : (uart : Uart) (call : Call) → is_keeping uart call ≡ true →
    taken uart call ++ (after_call uart call).queue ≡ uart.queue ++ brought call
call_in_order uart call kept = grind (arith, nat_tests, append-nil, read_in_order, write_keeps)

pub calls_in_order : ReadInOrder
calls_in_order uart [] kept = sym (append-nil uart.queue)
calls_in_order uart (call ∷ later) kept =
    let next = after_call uart call in
    rw (
      append_assoc (taken uart call) (all_taken next later) (after_calls next later).queue,
      calls_in_order next later kept.1,
      ← append_assoc (taken uart call) next.queue (all_brought later),
      call_in_order uart call kept.0,
    ) (append_assoc uart.queue (brought call) (all_brought later))

-- ---- events of a board

event_brings_nothing : (resets : Bool) (event : Event) → all_brought (calls_of resets event) ≡ []
event_brings_nothing resets event = grind (arith, nat_tests)

calls_in_turn : (uart : Uart) (first later : List Call) →
    after_calls uart (first ++ later) ≡ after_calls (after_calls uart first) later
calls_in_turn uart [] later = refl
calls_in_turn uart (call ∷ first) later = calls_in_turn (after_call uart call) first later

brought_in_turn : (first later : List Call) → all_brought (first ++ later) ≡ all_brought first ++ all_brought later
brought_in_turn [] later = refl
brought_in_turn (call ∷ first) later =
    ap (λ (bytes : List ℕ). brought call ++ bytes) (brought_in_turn first later)
    ∙ sym (append_assoc (brought call) (all_brought first) (all_brought later))

happening_is_calls : (before : Sending) (happening : Happening) →
    (sending_after before happening).com1.uart ≡ after_calls before.com1.uart (calls_for before happening)
happening_is_calls before happening = grind (arith, nat_tests)

run_is_calls : (before : Sending) (happenings : List Happening) →
    (after_all before happenings).com1.uart ≡ after_calls before.com1.uart (all_calls before happenings)
run_is_calls before [] = refl
run_is_calls before (happening ∷ later) =
    let next = sending_after before happening in
    rw (run_is_calls next later, happening_is_calls before happening)
    (sym (calls_in_turn before.com1.uart (calls_for before happening) (all_calls next later)))

run_brings : (before : Sending) (happenings : List Happening) →
    all_brought (all_calls before happenings) ≡ bytes_come happenings
run_brings before [] = refl
run_brings before (Comes byte ∷ later) =
    ap (λ (bytes : List ℕ). byte ∷ bytes) (run_brings (sending_after before (Comes byte)) later)
run_brings before (Happens event ∷ later) =
    let next = sending_after before (Happens event) in
    let resets = resets_hard before.control (control_written event) in
    rw (brought_in_turn (calls_of resets event) (all_calls next later), event_brings_nothing resets event)
    (run_brings next later)

pub serial_in_order : SerialReadsInOrder
serial_in_order before happenings kept =
    rw (
      run_is_calls before happenings,
      calls_in_order before.com1.uart (all_calls before happenings) kept,
      run_brings before happenings,
    ) refl
