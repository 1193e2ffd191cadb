-- A sector that is written over the bytes of a disk.
use Rattle.std.proofs.Common.{◌≡◌, ℕ, ◌+◌, ◌-◌, ◌*◌, ◌≤◌, List, ◌++◌, length, take, drop, arith, length-append}
use Rattle.std.proofs.Common.{length-take-le, length-drop}
use Rattle.std.proofs.lemmas.List.{with_items_is, drop-drop}
use Rattle.std.specs.declared.vec.Vec.{Vec}
use Rattle.std.specs.Vec.{with_items}
use Rattle.std.proofs.lemmas.Bool.Decides.{nat_tests}
use borrow.Rule.Slice.PartMut.{put_mid}

pub length-store : (xs bytes : List ℕ) (s : ℕ) → 512 * s + 512 ≤ length xs → length bytes ≡ 512
    → length (take (512 * s) xs ++ (bytes ++ drop (512 * s + 512) xs)) ≡ length xs
length-store xs bytes s h e = grind (arith, nat_tests, length-append, length-take-le, length-drop)

-- the bytes of a `Vec` once a sector was copied into it
pub stored_items : {Z : Type 0} (v : Vec ℕ Z) (s : ℕ) (xs ys bytes : List ℕ) → xs ≡ v.items → ys ≡ bytes →
    512 * s + 512 ≤ length v.items → length bytes ≡ 512
    → (with_items v (put_mid (s * 512) (s * 512 + 512 - s * 512) xs ys)).items
    ≡ take (512 * s) v.items ++ (bytes ++ drop (512 * s + 512) v.items)
stored_items v s xs ys bytes e f h g = grind (arith, nat_tests, length-store, with_items_is, drop-drop)
