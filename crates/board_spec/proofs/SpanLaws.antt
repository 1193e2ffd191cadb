-- Every address lies in exactly one span of a column.
use Rattle.std.proofs.Common.{◌≡◌, ◌≢◌, ℕ, zero, suc, ◌+◌, ◌-◌, ◌≤◌, ◌⊎◌, inl, inr, Bool, refl, sym, ◌∙◌, ap, arith}
use Rattle.std.proofs.lemmas.Bool.{cases_lt}
use Rattle.board_base.specs.declared.access.Kind.{Kind}
use Rattle.board_base.specs.declared.target.Area.{Area}
use Rattle.board_spec.specs.Setup.{Setup}
use Rattle.board_spec.specs.Decode.{Bytes, area_of}
use Rattle.board_spec.specs.FlatMap.{address_count, IsSpan}
use Rattle.board_spec.specs.Laws.{SomeSpan, OneSpan}

cases_area : (a b : Area) → (a ≡ b) ⊎ (a ≢ b)
cases_area a b = grind arith

-- ---- the interval round a place in which a function keeps its value

-- how far a function keeps its first value, of so many steps
record Run (f : ℕ → Area) (first : Area) (count : ℕ) : Type 0 where
  pub far : ℕ
  pub within : far ≤ count
  pub same : (k : ℕ) → k ≤ far → f k ≡ first
  pub ends : (far ≡ count) ⊎ (f (far + 1) ≢ first)

run : (f : ℕ → Area) (first : Area) (count : ℕ) → f 0 ≡ first → Run f first count
run f first zero is =
    record { far = 0; within = omega arith; same = λ k few. grind (arith, is); ends = inl refl }
run f first (suc count) is =
    let before = run f first count is in
    elim (cases_area (f (before.far + 1)) first) [
      | inr other ↦
          record { far = before.far; within = omega (arith, before.within); same = before.same; ends = inr other }
      | inl equal ↦
          let all : before.far ≡ count = grind (arith, before.ends) in
          record {
            far = before.far + 1;
            within = omega arith;
            same = λ k few. grind (arith, before.same k);
            ends = inl (omega arith);
          }
    ]

pub some_span : SomeSpan
some_span setup bytes addr kind smm within =
    let f : ℕ → Area = λ x. area_of setup bytes x kind smm in
    let move : (a b : ℕ) → a ≡ b → f a ≡ f b = λ a b is. ap f is in
    let low = run (λ k. f (addr - k)) (f addr) addr (move (addr - 0) addr (omega arith)) in
    let high = run (λ k. f (addr + k)) (f addr) (address_count - 1 - addr) (move (addr + 0) addr (omega arith)) in
    record {
      lo = addr - low.far;
      hi = addr + high.far;
      area = f addr;
      span = record {
        above = omega arith;
        below = omega arith;
        last = omega (arith, high.within);
        same = λ x h k.
            elim (cases_lt x addr) [
              | inl less ↦ move x (addr - (addr - x)) (omega arith) ∙ low.same (addr - x) (omega (arith, low.within))
              | inr not_less ↦ move x (addr + (x - addr)) (omega arith) ∙ high.same (x - addr) (omega arith)
            ];
        begins = elim low.ends [
          | inl all ↦ inl (omega (arith, all))
          | inr other ↦ inr (λ same. other (move (addr - (low.far + 1)) (addr - low.far - 1) (omega arith) ∙ same))
        ];
        ends = elim high.ends [
          | inl all ↦ inl (omega (arith, all))
          | inr other ↦ inr (λ same. other (move (addr + (high.far + 1)) (addr + high.far + 1) (omega arith) ∙ same))
        ];
      };
    }

-- ---- there is no other

no_wider : (setup : Setup) (bytes : Bytes) (addr : ℕ) (kind : Kind) (smm : Bool) (lo hi lo' hi' : ℕ)
    (area area' : Area) → IsSpan setup bytes addr kind smm lo hi area → IsSpan setup bytes addr kind smm lo' hi' area' →
    area ≡ area' → (lo' ≤ lo) × (hi ≤ hi')
no_wider setup bytes addr kind smm lo hi lo' hi' area area' s t e =
    (grind (arith, s.same (lo' - 1)), grind (arith, s.same (hi' + 1)))

pub one_span : OneSpan
one_span setup bytes addr kind smm lo hi lo' hi' area area' s t =
    let e : area ≡ area' = sym (s.same addr s.above s.below) ∙ t.same addr t.above t.below in
    let left = no_wider setup bytes addr kind smm lo hi lo' hi' area area' s t e in
    let right = no_wider setup bytes addr kind smm lo' hi' lo hi area' area t s (sym e) in
    (omega (arith, left.0, right.0), omega (arith, left.1, right.1), e)
