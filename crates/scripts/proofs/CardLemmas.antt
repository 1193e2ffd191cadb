-- Cards: how much memory their bases decode.
use Rattle.std.proofs.Common.{sym, ◌≡◌, ℕ, ◌+◌, ◌<◌, ◌≤◌, List, length, map, take, get_or, sum_by, All, subst, arith}
use Rattle.board_prelude.proofs.{nat_tests, All-get_or, get_or-map, length-map, pow-le-pow_right, Base, FittedCard}
use Rattle.board_prelude.proofs.{IsBase, IsCard, memory_size}
use Rattle.std.proofs.lemmas.List.Sums.{sum_by-le, sum_by-take-le, sum_by_more}
use Rattle.pci_bars.specs.declared.spec.BaseSpec.{BaseSpec}
use Rattle.pci_bars.specs.Bases.{base_of}

-- ---- memory

base_most : (base : Base) → IsBase base → memory_size base ≤ 0x100_0000
base_most base fits = grind (arith, nat_tests, pow-le-pow_right)

pub memory_most : (card : FittedCard) → IsCard card → sum_by memory_size card.bases ≤ 0x600_0000
memory_most card fits =
    omega (arith, fits.count, sum_by-le memory_size 0x100_0000 card.bases (λ k d lt. base_most _ (fits.each k d lt)))

-- the memory of the bases so far, where they are read as the card keeps them
pub total_most : (card : FittedCard) (i total : ℕ) → IsCard card → total ≡ sum_by memory_size (take i card.bases)
    → total ≤ 0x600_0000
total_most card i total fits is = omega (arith, memory_most card fits, sum_by-take-le memory_size card.bases i)

pub base_at : (card : FittedCard) (bases : List BaseSpec) (i : ℕ) (d : BaseSpec) → IsCard card
    → map base_of bases ≡ card.bases → i < length bases → IsBase (base_of (get_or bases i d))
base_at card bases i d fits view lt =
    let each : All IsBase (map base_of bases) = rw view fits.each in
    subst IsBase (get_or-map base_of bases i d (base_of d) lt)
    (All-get_or IsBase (map base_of bases) i (base_of d) (omega (arith, length-map bases base_of)) each)

pub next_base : (card : FittedCard) (bases : List BaseSpec) (i total size : ℕ) (d : BaseSpec) →
    map base_of bases ≡ card.bases → i < length bases → total ≡ sum_by memory_size (take i card.bases) →
    size ≡ memory_size (base_of (get_or bases i d)) → total + size ≡ sum_by memory_size (take (i + 1) card.bases)
next_base card bases i total size d view lt is here =
    rw (is, here, ← view, ← get_or-map base_of bases i d (base_of d) lt)
    (sym (sum_by_more memory_size (map base_of bases) i (base_of d) (omega (arith, length-map bases base_of))))
