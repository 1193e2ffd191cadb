-- The cards one after another.
use Rattle.std.proofs.Common.{◌≡◌, ℕ, ◌+◌, ◌<◌, ◌==◌, if◌then◌else◌, List, length, drop, get_or, find, Some, refl}
use Rattle.board_prelude.proofs.{drop_more}
use Rattle.board_spec.specs.Setup.{FittedCard}

pub card_next : (cards : List FittedCard) (index dev : ℕ) (last : FittedCard) → index < length cards →
    find (λ card. card.dev == dev) (drop index cards)
    ≡ (if (get_or cards index last).dev == dev then Some (get_or cards index last)
    else find (λ card. card.dev == dev) (drop (index + 1) cards))
card_next cards index dev last within = rw (drop_more cards index last within) refl
