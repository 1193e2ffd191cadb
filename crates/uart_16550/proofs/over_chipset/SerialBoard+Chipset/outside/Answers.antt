use Rattle.std.proofs.Common.{rules, ◌≡◌, ℕ, Bool, List, refl, sym}
use Rattle.board_prelude.proofs.{Event, Line, Reply, Entry, Setup, IsAnswer}
use Rattle.board_chipset.specs.Versions.{IsAnswerModulo}
use Rattle.board_chipset.specs.Steps.{IsForDevices}
use Rattle.board_chipset.proofs.Exact.{modulo}
use Rattle.uart_16550.proofs.SerialSteps.{IsPlain, is_plain, plain_step}
use Rattle.uart_16550.proofs.over_chipset.SerialBoard+Chipset.outside.Goals as goal

-- an event for the devices alone is for the board alone, and no look
plain_outside : (event : Event) → IsForDevices event → ((irq : ℕ) (on : Bool) → event ≡ Line irq on → ⊥) → IsPlain event
plain_outside event is no_line = is_plain event (λ access same. rw same at is) no_line

answer_outside : (setup : Setup) (history : List Entry) (event : Event) (reply : Reply) → IsForDevices event →
    IsAnswer setup history event reply → IsAnswerModulo setup history event reply
answer_outside setup history event reply is = modulo setup history event reply (λ kind addr smm same. rw same at is)

pub returns : goal.returns
returns c =
    let plain = plain_outside _ c.requires.devices c.requires.no_line in
    let com1 = c.self.inside.com1 in
    record {
      setup = search rules;
      other = plain.access;
      held = c.outside.ensures.held;
      com1 = rw (← c.self.view_is) (λ resets. sym (plain.after resets com1));
      answer =
          rw (← c.self.view_is)
          (λ history left_at. rw (plain.heard com1)
          (answer_outside _ _ _ _ c.requires.devices (c.outside.ensures.answer history left_at.left)));
      history =
          rw (← c.self.view_is)
          (λ history actor resets below left_at.
          plain_step left_at c.outside.ensures.setup
          (answer_outside _ _ _ _ c.requires.devices (c.outside.ensures.answer history left_at.left))
          (c.outside.ensures.left history _ left_at.left refl refl) com1 resets plain below);
    }
