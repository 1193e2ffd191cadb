-- The only caller is the same after its event.
use Rattle.std.proofs.Common.{◌≡◌, ◌<◌, List, length, get_or, set, map, sym, ◌∙◌, ap, arith}
use Rattle.board_prelude.proofs.{range_with_len, length-map, length-set, get_or_default, get_or-set_same}
use Rattle.board_core.specs.declared.steps.Steps.{Ghosts}
use Rattle.board_live.specs.declared.cpu.Cpu.{Cpu}
use Rattle.board_live.specs.declared.live.Live.{Live}
use Rattle.board_live.specs.Callers.{IsCallerOf, IsSameCaller, AreAllOf}
use Rattle.board_live.proofs.Opening.{all_again}
use Rattle.board_example.proofs.live.shared.Goals as goal

one_again : {B : Type 0} {steps : Ghosts B} (live : Live B steps) (cpus : List (Cpu B steps)) (before now : Cpu B steps) →
    map (λ (cpu : Cpu B steps). cpu.number) cpus ≡ range_with_len 0 1 → before ≡ get_or cpus 0 before →
    IsCallerOf live now → IsSameCaller before now → AreAllOf live cpus → AreAllOf live (set cpus 0 now)
one_again {B} {steps} live cpus before now one first own same all =
    let size : length cpus ≡ 1 = sym (length-map cpus (λ (cpu : Cpu B steps). cpu.number)) ∙ ap length one in
    let some : 0 < length cpus = omega (arith, size) in
    all_again live cpus (set cpus 0 now) (length-set cpus 0 now) (λ i d less.
    let here : i ≡ 0 = omega (arith, size, less) in
    rw (here, get_or-set_same cpus 0 now d some, get_or_default cpus 0 d before some, ← first) (own, same)) all

pub close-requires : goal.close-requires
close-requires g c =
    let opened = c.in_ok-live.ensures.opened in
    record {
      cpus = one_again c.in_ok-live.live c.in_ok-live.cpus.items c.index_mut.result.now c.bus-answered.new.self
          opened.numbers c.index_mut.ensures.value c.bus-answered.ensures.own c.bus-answered.ensures.same opened.all;
    }
