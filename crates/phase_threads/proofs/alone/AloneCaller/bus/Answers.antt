use Rattle.std.proofs.Common.{◌≡◌, ◌∷◌, ap, ◌∙◌}
use Rattle.board_prelude.proofs.{next_entry}
use Rattle.board_core.specs.Kept.{Standing}
use Rattle.phase_threads.proofs.OneActs.{gone_alone}
use Rattle.phase_threads.proofs.alone.AloneCaller.bus.Goals as goal

pub returns-clause-gone : goal.returns-clause-gone
returns-clause-gone g c =
    let board = c.args.self.now.board in let made = c.in_ok-reserve.ensures.ok in
    let done = c.step-reply.ensures.entry in
    let setup : c.step-reply.new.self.setup ≡ board.setup =
    ap (λ (b : Standing). b.setup) done ∙ ap (λ (b : Standing). b.setup) made in
    let added : c.step-reply.new.self.entries
    ≡ next_entry c.reserve.new.self.entries c.args.self.now.number c.args.event.now c.step-reply.result
    ∷ c.reserve.new.self.entries = ap (λ (b : Standing). b.entries) done in
    rw setup (gone_alone board.setup c.args.self.now.number board.entries c.step-reply.new.self.entries
    c.args.event.now c.step-reply.result (rw (ap (λ (b : Standing). b.entries) made) at added))
