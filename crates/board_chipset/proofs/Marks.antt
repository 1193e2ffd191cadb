-- Fixed bytes, and that nothing follows.
use Rattle.std.proofs.Common.{◌≡◌, ℕ, ◌≤◌, inl, inr, List, length, Err, ap, ◌∙◌, arith, length-append}
use Rattle.board_prelude.proofs.{nat_tests}
use Rattle.byte_fields.specs.Fields.{AreBytes, Reading, then_read, gives, ended}
use Rattle.board_chipset.specs.Alone.{alone}
use Rattle.byte_fields.proofs.Formats.{IsFormat, then_err}
pub use Rattle.byte_fields.proofs.Exactly.{exactly_format}

-- a bad field begins within the bytes
pub alone_bad : {A : Type 0} {n : ℕ} {reads : Reading A} {spelled : A → List ℕ} {IsGood : A → Type 0} →
    IsFormat n reads spelled IsGood → (bytes : List ℕ) (left : ℕ) → AreBytes bytes → alone reads bytes ≡ Err left →
    left ≤ length bytes
unfolding alone
alone_bad {A} {reads = reads} {spelled = spelled} format bytes left are is =
    elim (then_err (reads bytes) (λ (got : A). λ left. then_read (ended left) (λ done. gives got)) left is) [
      | inl early ↦ (format.bad bytes left are early).0
      | inr late ↦
          let told = format.taken bytes late.0.0 late.0.1 are late.1 in
          let same : length late.0.1 ≡ left = let end = late.2 in grind (arith, nat_tests) in
          omega (arith, same, ap length told.0 ∙ length-append (spelled late.0.0) late.0.1)
    ]
