-- The bytes of a word.
use Rattle.std.proofs.lemmas.Bool.Decides.{nat_tests}
use Rattle.std.proofs.lemmas.List.{nil_from_length}
use Rattle.std.proofs.Common.{◌≡◌, ℕ, ◌+◌, ◌-◌, ◌*◌, ◌/◌, ◌%◌, ◌<◌, ◌≤◌, List, [], ◌∷◌, ◌++◌, length, take, drop, refl}
use Rattle.std.proofs.Common.{arith, length-drop, length-take}
use Rattle.std.proofs.lemmas.Slice.{take-put_mid}
use Rattle.byteorder.specs.Endian.{little_bytes}
use borrow.Rule.Slice.PartMut.{put_mid}

-- the two bytes of a word, the lower one first
pub two_bytes : (v : ℕ) → v < 65536 → little_bytes 2 v ≡ v % 256 ∷ v / 256 ∷ []
two_bytes v h = let e : v / 256 % 256 ≡ v / 256 = omega arith in rw e refl

-- a list once a word was written over two of its bytes
pub word_put : (xs ys : List ℕ) (w v : ℕ) → v < 65536 → 2 * w + 2 ≤ length xs
    → ys ≡ little_bytes 2 v ++ drop 2 (take (2 * w + 2 - 2 * w) (drop (2 * w) xs))
    → take (2 * w + 2) (put_mid (2 * w) (2 * w + 2 - 2 * w) xs ys) ≡ take (2 * w) xs ++ v % 256 ∷ v / 256 ∷ []
word_put xs ys w v h n e = grind (arith, nat_tests, nil_from_length, length-drop, length-take, two_bytes, take-put_mid)
