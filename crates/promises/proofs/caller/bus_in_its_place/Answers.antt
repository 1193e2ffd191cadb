use Rattle.promises.proofs.CallerPlaces.{placed, added_nothing, if_ok, on_err}
use Rattle.promises.proofs.caller.bus_in_its_place.Goals as goal

pub returns : goal.returns
returns g c = record {
  own = c.bus.ensures.own;
  place =
      if_ok c.bus.result _ _
      (λ answered. placed c.args.event.now answered c.args.cpu.now c.bus.new.self) c.bus.ensures.added;
  refused =
      on_err c.bus.result _ _
      (λ none. added_nothing c.args.cpu.now c.bus.new.self none c.bus.ensures.same.number) c.bus.ensures.refused;
}
