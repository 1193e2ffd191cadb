-- How many entries a board of few callers has.
use Rattle.std.proofs.Common.{◌≡◌, cond, nat_lt, ℕ, zero, suc, ◌+◌, ◌*◌, ◌<◌, ◌≤◌, List, [], ◌∷◌, length, All, arith}
use Rattle.board_prelude.proofs.{nat_tests, All-cons, Entry, entries_by}
use Rattle.board_live.specs.Known.{AreFew, most_each}

-- the entries of the first so many callers
abbrev total : ℕ → List Entry → ℕ
total zero history = 0
total (suc n) history = total n history + length (entries_by n history)

total_step : (n : ℕ) (entry : Entry) (history : List Entry) →
    total n (entry ∷ history) ≡ total n history + cond (nat_lt entry.actor n) 1 0
total_step zero entry history = grind (arith, nat_tests)
total_step (suc n) entry history = grind (arith, nat_tests, total_step n entry history)

covered : (n : ℕ) (history : List Entry) → All (λ entry. entry.actor < n) history → length history ≤ total n history
covered n [] all = omega arith
covered n (entry ∷ history) all =
    let rest = covered n history (λ k d less. all (suc k) d (omega (arith, less))) in
    grind (arith, nat_tests, all 0 entry (omega arith), rest, total_step n entry history)

bounded : (n : ℕ) (history : List Entry) → ((actor : ℕ) → length (entries_by actor history) ≤ most_each) →
    total n history ≤ n * most_each
bounded zero history each = omega arith
bounded (suc n) history each = omega (arith, bounded n history each, each n)

pub few_entries : (callers : ℕ) (history : List Entry) → AreFew callers history → length history ≤ 2_000_000
few_entries callers history few =
    omega (arith, covered callers history few.actors, bounded callers history few.each, few.most)

pub few_added : (callers : ℕ) (entry : Entry) (history : List Entry) → AreFew callers history → entry.actor < callers →
    length (entries_by entry.actor history) < most_each → AreFew callers (entry ∷ history)
few_added callers entry history few below room = grind (arith, nat_tests, All-cons, few)
