-- A board that is fresh, and after a step.
use Rattle.std.proofs.Common.{◌≡◌, ℕ, ◌+◌, ◌<◌, List, ◌∷◌, length, refl, sym, ◌∙◌, ap, subst, arith, ◌↔◌, Result, Ok}
use Rattle.std.proofs.Common.{Err, slice_index, slice_set}
use Rattle.board_prelude.proofs.{nat_tests, Entry, Setup, IsSetup, IsLegal, version_of, IsAnswer, entry_limit}
use Rattle.std.proofs.lemmas.Grind.{elements}
use Rattle.board_chipset.specs.Chipset.{Running, IsLeftBy}
use Rattle.board_chipset.specs.Versions.{version_count}
use Rattle.board_chipset.proofs.Exact.{few_entries}
use Rattle.board_chipset.proofs.Lefts.{state_of}
use Rattle.board_core.specs.Kept.{Playing, HasPlayed}

-- ---- a new board

-- two values that were made meet no refusal
pub not_refused : {A B E : Type 0} {a : A} {b : B} {fault : E} {P : Type 0} →
    (◌≡◌ {A = Result A E} (Ok a) (Err fault)) ↔ P → (◌≡◌ {A = Result B E} (Ok b) (Err fault)) ↔ P
not_refused (to, from) = (λ is. absurd cc, λ holds. let no = from holds in absurd cc)

-- ---- what a board is fitted with

pub fitted : {replay : Playing} {history : List Entry} → HasPlayed replay history → IsSetup replay.chipset.setup
fitted played = (state_of refl played.left).fits

-- ---- a step

-- a board has had fewer changes of its map than entries
pub few_versions : {replay : Playing} {history : List Entry} → HasPlayed replay history →
    version_of replay.chipset.setup history < version_count
few_versions {replay} {history} played = few_entries replay.chipset.setup history (omega (arith, played.few))

pub stepped :
    {replay : Playing} {history : List Entry} {entry : Entry} {new : Running} →
    length replay.counts ≡ 256 → entry.actor < 256 → replay.count + 1 < entry_limit →
    entry.seq ≡ slice_index replay.counts entry.actor + 1 → HasPlayed replay history →
    new.setup ≡ replay.chipset.setup → IsAnswer replay.chipset.setup history entry.event entry.reply →
    IsLeftBy new (entry ∷ history) →
    HasPlayed (record {
      chipset = new;
      count = replay.count + 1;
      counts = slice_set replay.counts entry.actor entry.seq;
    })
    (entry ∷ history)
stepped {replay} {history} {entry} all below few number played same answer left =
    let is_number = number ∙ ap (λ (n : ℕ). n + 1) (played.counted entry.actor below) in
    record {
      few = omega (arith, few, played.count);
      legal = subst (λ (setup : Setup). IsLegal setup (entry ∷ history)) (sym same)
          (record { number = is_number; answer = answer }, played.legal);
      left = left;
      count = omega (arith, played.count);
      counted = λ who below'. let before = played.counted who below' in grind (arith, nat_tests, elements);
    }
