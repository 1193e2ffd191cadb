-- Callers of a board that was just opened.
use Rattle.std.proofs.Common.{◌≡◌, ℕ, zero, suc, ◌+◌, ◌<◌, Some, List, [], ◌∷◌, ◌++◌, length, get_or, map, refl, ap}
use Rattle.std.proofs.Common.{◌∙◌, arith, add-zero, Any, reverse}
use Rattle.board_prelude.proofs.{range_with_len, map-append, reverse-reverse, get_or_default}
use Rattle.bus_turn.specs.Passes.{opened_of as opened_by, part_of}
use Rattle.map_publish.specs.declared.viewer.Viewer.{Viewer}
use Rattle.map_publish.specs.Lists.{changes_of}
use Rattle.board_core.specs.declared.steps.Steps.{Ghosts}
use Rattle.board_live.specs.declared.cpu.Cpu.{Cpu}
use Rattle.board_live.specs.declared.live.Live.{Live}
use Rattle.board_live.specs.Passes.{SharedPass, IsViewerFor}
use Rattle.board_live.specs.Steps.{board_of, opened_with}
use Rattle.board_live.specs.Callers.{IsCallerOf, IsSameCaller, AreAllOf, IsNewOf}
use Rattle.board_live.specs.declared.shared.Shared.{Shared}
use Rattle.board_live.proofs.Histories.{oldest_whole}
use Rattle.std.proofs.lemmas.Bool.Decides.{nat_tests}

-- a pass that was opened with the same has the same viewers and the same callers
pub viewer_for : {T : Type 0} (one other : SharedPass T) (viewer : Viewer) → opened_by other ≡ opened_by one →
    part_of other ≡ part_of one → IsViewerFor one viewer → IsViewerFor other viewer
viewer_for one other viewer opened part has = grind (arith, nat_tests)

range_more : (a n : ℕ) → range_with_len a (suc n) ≡ range_with_len a n ++ (a + n) ∷ []
range_more a zero = simp add-zero
range_more a (suc n) = grind (arith, range_more (a + 1) n)

module _ {B : Type 0} {steps : Ghosts B} where
  pub new_of : (one other : SharedPass (Shared B steps)) (cpu : Cpu B steps) → opened_by other ≡ opened_by one →
      part_of other ≡ part_of one →
      IsNewOf other cpu → IsNewOf one cpu
  new_of one other cpu opened part new = grind (arith, opened, part, new)

  -- a caller more has the next number
  pub numbers_more : (cpus all : List (Cpu B steps)) (cpu : Cpu B steps) → all ≡ cpus ++ cpu ∷ [] →
      cpu.number ≡ length cpus + 1 →
      map (λ (c : Cpu B steps). c.number) cpus ≡ range_with_len 1 (length cpus) →
      map (λ (c : Cpu B steps). c.number) all ≡ range_with_len 1 (length cpus + 1)
  numbers_more cpus all cpu is number before =
      grind (arith, is, map-append (λ (c : Cpu B steps). c.number) cpus (cpu ∷ []), range_more 1 (length cpus))

  -- ---- what a board is opened with

  pub opened_viewer : (pass : SharedPass (Shared B steps)) (shared : Shared B steps) (viewer : Viewer) →
      part_of pass ≡ Some (opened_with shared) → opened_by pass ≡ reverse (board_of shared).entries →
      shared.opened ≡ length (board_of shared).entries →
      viewer.front ≡ shared.publisher.value.front → changes_of shared.publisher.value.front.seen.log ≡ [] →
      IsViewerFor pass viewer
  opened_viewer pass shared viewer part opened count front none =
      grind (arith, nat_tests, oldest_whole, reverse-reverse)

  pub any_numbered : (a : ℕ) (cpus : List (Cpu B steps)) →
      map (λ (c : Cpu B steps). c.number) cpus ≡ range_with_len a (length cpus) →
      (number : ℕ) → number < length cpus → Any (λ cpu. cpu.number ≡ a + number) cpus
  any_numbered a [] is number below = absurd (omega (arith, below))
  any_numbered a (cpu ∷ later) is zero below =
      let first : cpu.number ≡ a = cc (is) in
      (0, cpu, omega arith, refl, omega (arith, first))
  any_numbered a (cpu ∷ later) is (suc number) below =
      let rest : map (λ (c : Cpu B steps). c.number) later ≡ range_with_len (a + 1) (length later) = cc (is) in
      let (k, other, within, at', has) = any_numbered (a + 1) later rest number (omega (arith, below)) in
      (suc k, other, omega (arith, within), at', omega (arith, has))

  -- ---- callers on threads of their own

  -- all callers, after each has gone on
  pub all_again : (live : Live B steps) (old new : List (Cpu B steps)) → length new ≡ length old →
      ((i : ℕ) (d : Cpu B steps) → i < length old →
      IsCallerOf live (get_or new i d) × IsSameCaller (get_or old i d) (get_or new i d)) →
      AreAllOf live old → AreAllOf live new
  all_again live old new size went all = record {
    opened = all.opened;
    own = λ k d below. (went k d (omega (arith, below, size))).0;
    same = λ k d below. let within : k < length old = omega (arith, below, size) in
        (went k d within).1.part ∙ all.same k d within;
    count = size ∙ all.count;
    some = omega (arith, size, all.some);
    each = λ number below.
        let (k, x, within, at', is) = all.each number (omega (arith, below, size)) in
        let inside : k < length new = omega (arith, within, size) in (
          k,
          get_or new k x,
          inside,
          get_or_default new k (get_or new k x) x inside,
          (went k x within).1.number
              ∙ (ap (λ (cpu : Cpu B steps). cpu.number) at' ∙ is),
        );
  }
