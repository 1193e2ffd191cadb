-- A sector that is stored, and the other ones.
use Rattle.std.proofs.Common.{refl, ◌≡◌, ◌≢◌, ℕ, ◌+◌, ◌*◌, ◌<◌, ◌≤◌, List, ◌++◌, length, take, drop, get_or, ap, sym}
use Rattle.std.proofs.Common.{◌∙◌, arith, length-set, length-take-le, get_or-take, get_or-drop}
use Rattle.std.proofs.lemmas.Bool.{cases_lt}
use Rattle.std.proofs.lemmas.List.{drop-drop, take_at, drop_at, drop-take}
use Rattle.device_spec.specs.Ata.State.{Medium, sectors_of, sector_bytes, stored, word_at}
use Rattle.std.proofs.lemmas.Bool.Decides.{nat_tests}
use Rattle.std.proofs.lemmas.Slice.{take-put_mid_below, drop-put_mid}
use borrow.Rule.Slice.PartMut.{put_mid}
use Rattle.ata_pio.specs.Ata.Laws.{IsWhole}
use Rattle.ata_pio.proofs.Stores.{length-store}

-- what is stored, as one write over a part
as_put : (xs ys : List ℕ) (s : ℕ) → take (512 * s) xs ++ (ys ++ drop (512 * s + 512) xs) ≡ put_mid (512 * s) 512 xs ys
as_put xs ys s = ap (λ zs. take (512 * s) xs ++ (ys ++ zs)) (sym (drop-drop 512 (512 * s) xs))

room : (m : Medium) (s : ℕ) → IsWhole m → s < sectors_of m → 512 * s + 512 ≤ length m.bytes
room m s w h = omega arith

pub stored-same : (m : Medium) (s : ℕ) (ys : List ℕ) → IsWhole m → s < sectors_of m → length ys ≡ 512 →
    sector_bytes (stored m s ys) s ≡ ys
stored-same m s ys w h e =
    let front : length (take (512 * s) m.bytes) ≡ 512 * s = length-take-le (512 * s) m.bytes (omega arith) in
    rw (drop_at (take (512 * s) m.bytes) _ (512 * s) front, take_at ys _ 512 e) refl

above : (m : Medium) (s t : ℕ) (ys : List ℕ) → 512 * s + 512 ≤ length m.bytes → length ys ≡ 512 → s < t →
    sector_bytes (stored m s ys) t ≡ sector_bytes m t
above m s t ys h e l =
    ap (λ xs. take 512 (drop (512 * t) xs)) (as_put m.bytes ys s)
    ∙ ap (take 512) (drop-put_mid (512 * s) 512 m.bytes ys (512 * t) (omega arith) (omega arith) e)

below : (m : Medium) (s t : ℕ) (ys : List ℕ) → 512 * s + 512 ≤ length m.bytes → t < s →
    sector_bytes (stored m s ys) t ≡ sector_bytes m t
below m s t ys h l =
    ap (λ xs. take 512 (drop (512 * t) xs)) (as_put m.bytes ys s)
    ∙ sym (drop-take (512 * t) 512 (put_mid (512 * s) 512 m.bytes ys))
    ∙ ap (drop (512 * t)) (take-put_mid_below (512 * s) 512 m.bytes ys (512 * t + 512) (omega arith) (omega arith))
    ∙ drop-take (512 * t) 512 m.bytes

pub stored-other : (m : Medium) (s t : ℕ) (ys : List ℕ) → IsWhole m → s < sectors_of m → length ys ≡ 512 → s ≢ t →
    sector_bytes (stored m s ys) t ≡ sector_bytes m t
stored-other m s t ys w h e ne = grind (arith, nat_tests, cases_lt, above, below, room)

pub stored-whole : (m : Medium) (s : ℕ) (ys : List ℕ) → IsWhole m → s < sectors_of m → length ys ≡ 512 →
    IsWhole (stored m s ys)
stored-whole m s ys w h e = grind (arith, nat_tests, length-store, length-set)

-- a byte of a sector
byte_of : (m : Medium) (s i : ℕ) → i < 512 → get_or m.bytes (512 * s + i) 0 ≡ get_or (sector_bytes m s) i 0
byte_of m s i h = sym (get_or-take 512 (drop (512 * s) m.bytes) i 0 h ∙ get_or-drop (512 * s) m.bytes i 0)

-- a word of a sector, by the sector's bytes
pub word_at-bytes : (m : Medium) (s w : ℕ) → w < 256 →
    word_at m s w ≡ get_or (sector_bytes m s) (2 * w) 0 + 256 * get_or (sector_bytes m s) (2 * w + 1) 0
word_at-bytes m s w h =
    let place : 512 * s + 2 * w + 1 ≡ 512 * s + (2 * w + 1) = omega arith in
    rw (place, byte_of m s (2 * w) (omega arith), byte_of m s (2 * w + 1) (omega arith))
