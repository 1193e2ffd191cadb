use Rattle.std.proofs.Common.{◌≡◌, ◌⊎◌, Option, Some, Result, Ok, Err, inl, refl, sym, ◌∙◌, true≢false, arith}
use Rattle.board_prelude.proofs.{nat_tests}
use Rattle.machine.specs.Machines.{MachineState}
use Rattle.machine.specs.declared.refusal.Refusal.{Refusal}
use Rattle.machine.specs.declared.refusal.Refusal.TheVariants.{NoMemory}
use Rattle.machine_records.specs.Statuses.{no_memory, ok}
use Rattle.board_c.proofs.Full.{is_closed}
use Rattle.board_c.proofs.image.board_load_with.Goals as goal

-- the machine that was loaded is the one that was saved, and the handle has it
has_saved : (machine saved : MachineState) (held : Option MachineState) → held ≡ Some machine →
    let loaded : Result MachineState Refusal = Ok machine in
    (loaded ≡ Err NoMemory) ⊎ (loaded ≡ Ok saved) → (0 ≡ no_memory) ⊎ ((0 ≡ ok) × (held ≡ Some saved))
has_saved machine saved held is loaded = grind (arith, nat_tests)

pub returns-in_default-new-clause-opening : goal.returns-in_default-new-clause-opening
returns-in_default-new-clause-opening c =
    let closed = is_closed _ c.args.handle.now.full c.take.result c.take.ensures.held c.in_default.is in
    let status = c.refusal_status-in_default-new.ensures in
    record {
      opened = λ done. absurd (status.refused done);
      done = λ done. absurd (status.refused done);
      twice = λ full. absurd (true≢false (sym full ∙ closed));
      held = λ full. absurd (true≢false (sym full ∙ closed));
      refused = λ _ _. (NoMemory, inl (inl refl), status.status);
      kept = λ _. c.take.ensures.after ∙ sym closed;
    }

pub returns-clause-opening : goal.returns-clause-opening
returns-clause-opening c =
    let closed = is_closed _ c.args.handle.now.full c.take.result c.take.ensures.held c.in_default.is in
    let has = c.put-2.ensures.held ∙ c.in-Ok-new.ensures.ok in
    let loaded = c.in-Ok.ensures.loaded in
    record {
      opened = λ _. c.put-2.ensures.full;
      done = λ _. rw has (c.in-Ok.ensures.sound, loaded.0, loaded.1);
      twice = λ full. absurd (true≢false (sym full ∙ closed));
      held = λ full. absurd (true≢false (sym full ∙ closed));
      refused = λ _ refused. absurd (refused refl);
      kept = λ refused. absurd (refused refl);
    }

pub returns-clause-exact : goal.returns-clause-exact
returns-clause-exact c saved closed is same many =
    has_saved c.in-Ok.machine _ _ (c.put-2.ensures.held ∙ c.in-Ok-new.ensures.ok) (c.in-Ok.ensures.exact saved is same many)

pub returns-clause-back : goal.returns-clause-back
returns-clause-back c left saved closed is same own =
    has_saved c.in-Ok.machine _ _ (c.put-2.ensures.held ∙ c.in-Ok-new.ensures.ok) (c.in-Ok.ensures.back left saved is same own)
