-- Fixed bytes, and that nothing follows.
use Rattle.std.proofs.Common.{◌≡◌, ℕ, List, [], length, Err, refl, arith, bytes_eq}
use Rattle.std.proofs.lemmas.Bool.Decides.{nat_tests}
use Rattle.std.proofs.lemmas.List.{length-take}
use Rattle.std.proofs.lemmas.Slice.Eq.{bytes_eq-Decides}
use Rattle.byte_fields.specs.Fields.{exactly, ended, where_true}
use Rattle.byte_fields.proofs.Formats.{IsFormat, read_as, cut_field, cut_format}
use Rattle.byte_fields.proofs.Numbers.{Any, where_ok}

-- too few bytes are not these
exactly_cut : (text bytes : List ℕ) →
    exactly text bytes ≡ cut_field (length text) (λ front. where_true (bytes_eq front text) tt) bytes
exactly_cut text bytes = grind (arith, nat_tests, bytes_eq, bytes_eq-Decides, length-take)

pub exactly_format : (text : List ℕ) → IsFormat (length text) (exactly text) (λ done. text) Any
exactly_format text =
    read_as (exactly_cut text)
    (cut_format {says = λ front. where_true (bytes_eq front text) tt} (λ done. text) Any
    (λ done any. (refl, rw ((bytes_eq-Decides text text).1 refl) refl))
    (λ front done long are is. ((bytes_eq-Decides front text).0 (where_ok (bytes_eq front text) tt done is).0, tt)))

pub not_ended : (bytes : List ℕ) (left : ℕ) → ended bytes ≡ Err left → bytes ≡ [] → ⊥
not_ended bytes left is none = let read : ended [] ≡ Err left = rw none at is in absurd cc
