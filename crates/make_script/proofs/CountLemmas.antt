-- The counts of one entry more.
use Rattle.board_prelude.proofs.{nat_tests, All-head, All-tail, Entry}
use Rattle.std.proofs.Common.{ℕ, ◌≡◌, ◌+◌, ◌≤◌, ◌<◌, Bool, List, [], ◌∷◌, length, refl, arith}
use mir.Val.{bool_byte}
use Rattle.make_script.specs.Summary.{count_where}
use Rattle.make_script.specs.Laws.{IsCycleReply, KindsAddUp}
use Rattle.make_script.specs.Counts.{AreCounts, HasRoomForOne, most_counted}
use Rattle.make_script.specs.declared.counts.Counts.{Counts}

pub count-more : (test : Entry → Bool) (entry : Entry) (history : List Entry) (mark : Bool) (n more : ℕ) →
    mark ≡ test entry → n ≡ count_where test history → more ≡ bool_byte mark →
    n + more ≡ count_where test (entry ∷ history)
count-more test entry history mark n more marked before one = grind (arith, nat_tests)

count-below : (test : Entry → Bool) (history : List Entry) → count_where test history ≤ length history
count-below test [] = omega arith
count-below test (entry ∷ before) = grind (arith, nat_tests, count-below test before)

-- the counts of a history can take one more, where the history can
pub counts-room : (history : List Entry) (counts : Counts) → AreCounts history counts
    → length history < most_counted → HasRoomForOne counts
counts-room history counts are few = grind (arith, count-below)

pub kinds-add-up : KindsAddUp
kinds-add-up [] all = refl
kinds-add-up (entry ∷ before) all =
    let cycle = All-head (λ e. IsCycleReply e.reply) entry before all in
    let rest = kinds-add-up before (All-tail (λ e. IsCycleReply e.reply) entry before all) in
    grind (arith, nat_tests)
