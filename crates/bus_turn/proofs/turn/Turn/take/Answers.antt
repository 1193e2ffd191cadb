use Rattle.std.proofs.Common.{rules, ◌≡◌, ◌%◌, ◌^◌, ◌∷◌, Some, sym, ap, ◌∙◌}
use Rattle.atomic_table.specs.Table.{rest}
use Rattle.bus_turn.specs.declared.view.Stage.TheVariants.{Waits}
use Rattle.bus_turn.specs.Plays.{ticket_of}
use Rattle.bus_turn.proofs.Steps.{draws, calls}
use Rattle.bus_turn.proofs.turn.Turn.take.Goals as goal

pub fetch_add-ticket-requires : goal.fetch_add-ticket-requires
fetch_add-ticket-requires g c =
    (search rules, search rules, draws _ _ _ _ _ _ _ _ (search rules))

pub load-serving-requires : goal.load-serving-requires
load-serving-requires g c = let drew = c.fetch_add-ticket.ensures.2 in
    let is : c.loop.pass.me.0.stage ≡ Waits drew.0 = search rules in
    (search rules, search rules, calls _ _ _ _ _ _ _ _ drew.0 is)

pub exchange-requires : goal.exchange-requires
exchange-requires g c = let drew = c.fetch_add-ticket.ensures.2 in
    let is : c.loop.pass.me.0.stage ≡ Waits drew.0 = search rules in
    let hit : ticket_of c.loop.pass.me.0.stage % 2 ^ 64 ≡ c.load-serving.result = ap (λ st. ticket_of st % 2 ^ 64) is
    ∙ (drew.1 ∙ sym c.if-serving-ticket.true) in
    let took = c.load-serving.ensures.2.0 hit in let carried = ap (λ m. m.1) took.1 in
    (search rules, (Some took.0, carried ∙ ap (λ cs. (0, Some took.0) ∷ rest cs) (sym carried)))
