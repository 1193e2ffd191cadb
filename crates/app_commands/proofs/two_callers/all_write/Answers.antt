use Rattle.std.proofs.Common.{rules, subst}
use Rattle.board_live.specs.declared.cpu.Cpu.{Cpu}
use Rattle.board_live.specs.Callers.{IsCallerOf, IsSameCaller}
use Rattle.board_live.proofs.Opening.{all_again}
use Rattle.app_commands.proofs.two_callers.all_write.Goals as goal

pub returns : goal.returns
returns g c =
    record {
      all = all_again c.args.live.now c.args.cpus.now c.for_each_mut.new.s (search rules)
          (λ i d h.
          let at' = (c.for_each_mut.ensures i d h).1 in
          subst (λ (z : Cpu _ _ × Cpu _ _). IsCallerOf c.args.live.now z.1 × IsSameCaller z.0 z.1)
          (λ k. (at'.argument_is k, at'.left k)) at'.call)
          c.requires.all;
    }
