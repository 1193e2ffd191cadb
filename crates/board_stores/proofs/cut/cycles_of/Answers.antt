use Rattle.std.proofs.Common.{◌+◌, ◌-◌, [], ◌∷◌, arith}
use Rattle.board_prelude.proofs.{map-append, length-append}
use Rattle.board_stores.specs.declared.cut.Cycle.{Cycle}
use Rattle.board_stores.proofs.CutLemmas.{part_within, next_part, no_part, all_decoded}
use Rattle.board_stores.proofs.cut.cycles_of.Goals.{then-done-access, else-done-access}
use Rattle.board_stores.proofs.cut.cycles_of.Goals as goal

pub loop-preserved : goal.loop-preserved
loop-preserved c =
    let access = c.args.access.now in
    let cycles = c.loop.cycles.items in
    let so_far = c.loop.invariant in
    elim c.if-done-access.branch [
      | then-done-access w ↦
          let part_is = w.part_at-part.ensures.part in
          let cycle : Cycle = record { access = w.part_at-part.result; answer = w.decoded.result } in
          let fits = part_within (access.addr + c.loop.done) (access.bytes - c.loop.done) (omega arith) in
          rw (w.cycles-is, w.push.ensures.items, w.done-is, w.bytes.ensures.bytes) record {
            inside = rw part_is (omega arith);
            few = omega (arith, length-append cycles (cycle ∷ []), so_far.few);
            parts =
                rw (map-append (λ (cycle : Cycle). cycle.access) cycles (cycle ∷ []))
                (next_part _ _ _ _ _ c.loop-test.true w.if-done-access.true part_is so_far.parts);
            decoded = λ setup bytes stands image.
                all_decoded setup bytes cycles cycle (so_far.decoded setup bytes stands image)
                (w.decoded.ensures.decoded setup bytes stands image);
          }
      | else-done-access w ↦
          rw (w.cycles-is, w.done-is) record {
            inside = so_far.inside;
            few = omega (arith, so_far.few);
            parts = no_part _ _ _ _ w.if-done-access.false so_far.parts;
            decoded = so_far.decoded;
          }
    ]
