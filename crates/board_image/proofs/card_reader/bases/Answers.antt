use Rattle.std.proofs.Common.{◌≡◌, ◌+◌, ◌++◌, [], ◌∷◌, ap, ◌∙◌, arith, map}
use Rattle.board_prelude.proofs.{err_from_is_err_and, length_push, memory_size}
use Rattle.std.proofs.lemmas.List.{map_push}
use Rattle.std.proofs.lemmas.List.Sums.{sum_by_push}
use Rattle.pci_bars.specs.Bases.{base_of}
use Rattle.byte_fields.proofs.Loops.{goes_on, stops, is_done}
use Rattle.board_image.proofs.ImageLoops.{bases_loop}
use Rattle.board_image.proofs.card_reader.bases.Goals as goal

pub returns-in_err-base-clause-took : goal.returns-in_err-base-clause-took
returns-in_err-base-clause-took c =
    let p = err_from_is_err_and c.from_residual.result c.from_residual.ensures.1 in
    rw p.1 (stops _ _ _ (bases_loop c.args.outside) _ _ _ _ _ _ _ c.loop-test.true c.in_err-base.ensures.took c.loop.invariant.read)

pub push-requires : goal.push-requires
push-requires c = (omega arith, omega arith)

pub loop-preserved : goal.loop-preserved
loop-preserved c =
    let base = c.in_ok-base.field-0 in
    let pushed : map base_of c.push.new.self.items ≡ map base_of c.loop.bases.items ++ base_of base ∷ [] =
    rw c.push.ensures.items (map_push base_of c.loop.bases.items base) in
    record {
      read = rw (pushed, c.in_ok-base.ensures.room) (goes_on _ _ _ (bases_loop c.args.outside) _ _ _ _ _ _ (base_of base) _
          c.loop-test.true c.in_ok-base.ensures.took c.loop.invariant.read);
      room = rw (c.push.ensures.items, c.in_ok-base.ensures.room)
          (rw (
            c.loop.invariant.room,
            map_push base_of c.loop.bases.items base,
            sum_by_push memory_size
                (map base_of c.loop.bases.items) (base_of base),
          ) (omega arith));
      count = rw c.push.ensures.items (length_push c.loop.bases.items base ∙ ap (λ n. n + 1) c.loop.invariant.count);
    }

pub returns-clause-took : goal.returns-clause-took
returns-clause-took c = is_done _ _ _ (bases_loop c.args.outside) _ _ _ _ _ _ c.loop-test.false c.loop.invariant.read
