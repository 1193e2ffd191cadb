use Rattle.std.proofs.Common.{◌≡◌, ℕ, ◌+◌, reverse, length, get_or, sym, ◌∙◌, arith, refl}
use Rattle.board_prelude.proofs.{false≢true, length-reverse}
use Rattle.map_blame.proofs.KeptLemmas.{no_change, none_kept, kept_on, kept_pushed, kept_found, kept_is, change_is}
use Rattle.map_blame.proofs.KeptLemmas.{all_kept}
use Rattle.map_blame.proofs.keep.kept_changes.Goals as goal
use Rattle.map_blame.proofs.keep.kept_changes.Goals.{then-is_kept+in_ok-push, else-is_kept}

pub loop-index-init : goal.loop-index-init
loop-index-init c = rw c.new-keep.ensures.items (record {
  kept = λ setup bytes stands cards. none_kept setup (reverse c.args.changes.now);
})

pub loop-index-preserved : goal.loop-index-preserved
loop-index-preserved c =
    let index : ℕ = c.loop-index.index in
    let changes = reverse c.args.changes.now in
    record {
      kept = λ setup bytes stands cards.
          let so_far = c.loop-index.invariant.kept setup bytes stands cards in
          let tested = c.is_kept.ensures.kept setup bytes stands cards in
          elim c.if-is_kept.branch [
            | then-is_kept+in_ok-push w ↦
                rw (w.keep-is, w.in_ok-push.ensures.items)
                (kept_pushed setup changes index c.loop-index.keep.items
                (kept_found setup changes c.covers_of-covers.result cards c.covers_of-covers.ensures.covers (index + 1)
                (get_or c.args.changes.now index no_change) (sym tested ∙ w.if-is_kept.true)) so_far)
            | else-is_kept w ↦
                rw w.keep-is
                (kept_on setup changes index c.loop-index.keep.items
                (λ kept. false≢true (sym w.if-is_kept.false ∙ tested
                ∙ kept_is setup changes c.covers_of-covers.result cards c.covers_of-covers.ensures.covers (index + 1) _
                (change_is c.args.changes.now index _ _ c.loop-index-test.true refl) kept)) so_far)
          ];
    }

pub returns : goal.returns
returns c = record {
  keep = λ setup bytes stands cards.
      let all : c.loop-index.index ≡ length (reverse c.args.changes.now) =
      omega (arith, length-reverse c.args.changes.now) in
      all_kept _ _ _ (rw all at (c.loop-index.invariant.kept setup bytes stands cards));
}
