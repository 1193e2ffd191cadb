-- Cards and bases that are tested one after another.
use Rattle.std.proofs.Common.{◌≡◌, ℕ, ◌+◌, ◌<◌, ◌≤◌, List, [], ◌∷◌, length, get_or, drop, map, subst, arith, ◌↔◌, All}
use Rattle.board_prelude.proofs.{drop_more, get_or-map, length-map, All-nil, All-cons, All-head, All-tail, FittedCard}
use Rattle.board_prelude.proofs.{IsBase, IsCard, IsCardList, Rises}
use Rattle.pci_bars.specs.declared.spec.BaseSpec.{BaseSpec}
use Rattle.pci_bars.specs.Bases.{base_of}
use Rattle.board_chipset.specs.Setups.{RiseFrom}
use Rattle.std.proofs.lemmas.Bool.Decides.{nat_tests}

-- ---- cards

-- where what is left decides for all, the next card and those after it do
pub rise_at : (cards : List FittedCard) (above i : ℕ) (card : FittedCard) → i < length cards →
    card ≡ get_or cards i card → RiseFrom 1 cards ↔ RiseFrom above (drop i cards) →
    RiseFrom 1 cards ↔ ((above < card.dev) × IsCard card × RiseFrom card.dev (drop (i + 1) cards))
unfolding RiseFrom
rise_at cards above i card within is so_far = rw (← is) at (rw (drop_more cards i card within) at so_far)

rise_is : (above : ℕ) (cards : List FittedCard) →
    RiseFrom above cards ↔ (All (λ card. above < card.dev) cards × All IsCard cards × Rises cards)
unfolding RiseFrom
rise_is above [] = (λ is. (All-nil (λ (card : FittedCard). above < card.dev), All-nil IsCard, tt), λ all. tt)
rise_is above (card ∷ later) =
    let rest = rise_is card.dev later in (
      λ is.
          let told = rest.0 is.2 in (
            All-cons (λ (other : FittedCard). above < other.dev) card later is.0
                (λ k d lt. let e = told.0 k d lt in omega (arith, e, is.0)),
            All-cons IsCard card later is.1 told.1,
            (told.0, told.2),
          ),
      λ all. (
        All-head (λ (other : FittedCard). above < other.dev) card later all.0,
        All-head IsCard card later all.1,
        rest.1 (all.2.0, All-tail IsCard card later all.1, all.2.1),
      ),
    )

pub listed : (cards : List FittedCard) → length cards ≤ 8 → RiseFrom 1 cards ↔ IsCardList cards
listed cards few =
    let told = rise_is 1 cards in (
      λ is. record { count = few; each = (told.0 is).1; rises = (told.0 is).2 },
      λ is. told.1 (λ k d lt. let e = (is.each k d lt).first in omega (arith, e), is.each, is.rises),
    )

-- ---- bases

-- the same of bases
pub bases_at : (bases : List BaseSpec) (i : ℕ) (d : BaseSpec) → i < length bases →
    All IsBase (map base_of bases) ↔ All IsBase (map base_of (drop i bases)) →
    All IsBase (map base_of bases)
    ↔ (IsBase (base_of (get_or bases i d)) × All IsBase (map base_of (drop (i + 1) bases)))
bases_at bases i d within so_far =
    let here = rw (drop_more bases i d within) at so_far in
    let base = base_of (get_or bases i d) in
    let later = map base_of (drop (i + 1) bases) in (
      λ all. (All-head IsBase base later (here.0 all), All-tail IsBase base later (here.0 all)),
      λ rest. here.1 (All-cons IsBase base later rest.0 rest.1),
    )

pub base_at : (bases : List BaseSpec) (i : ℕ) (d : BaseSpec) → i < length bases → All IsBase (map base_of bases) →
    IsBase (base_of (get_or bases i d))
base_at bases i d within each =
    subst IsBase (get_or-map base_of bases i d (base_of d) within)
    (each i (base_of d) (omega (arith, within, length-map bases base_of)))

-- `rise` is proved by these
pub ruleset rise_rules = (rise_at, nat_tests)
