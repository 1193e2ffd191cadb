-- No line is held at first; then each pin adds its own.
use Rattle.std.proofs.Common.{◌≡◌, Bool, List, false, get_or, ◌||◌, ap, ◌∙◌, arith, add-one}
use Rattle.board_prelude.proofs.{get_or-replicate, drives, line_of_route, is_line_driven}
use Rattle.south_bridge.proofs.RouteLemmas.{drives_among, drives_among-all}
use Rattle.south_bridge.proofs.pirq.Pirq.route.Goals as goal

pub loop-pin-init : goal.loop-pin-init
unfolding drives_among
loop-pin-init c = λ line small.
    ap (λ (lines : List Bool). get_or lines line false) c.low-lines.ensures.low
    ∙ get_or-replicate 16 line false false small

pub loop-pin-preserved : goal.loop-pin-preserved
unfolding drives_among
loop-pin-preserved c = λ line small.
    let bytes = c.self.inside.bytes in
    let pin = c.loop-pin.pin in
    let pins = c.args.pins in
    rw (add-one pin) (c.joined-lines.ensures.lines line small
    ∙ ap (λ (on : Bool). on || drives (line_of_route (get_or bytes pin 0)) (get_or pins pin false) line)
    (c.loop-pin.invariant line small))

pub returns : goal.returns
returns c =
    let all : c.loop-pin.pin ≡ 4 = omega (arith, c.loop-pin-test.false, c.loop-pin.auto.pin-end) in
    record {
      lines = λ line small.
          c.loop-pin.invariant line small
          ∙ (ap (λ k. drives_among k c.self.inside.bytes c.args.pins line) all
          ∙ drives_among-all c.self.inside.bytes c.args.pins line
          ∙ ap (λ bytes. is_line_driven bytes c.args.pins line) c.self.view_is);
    }
