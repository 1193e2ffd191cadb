-- What reads leave of known bytes, and what they give of a file.
use Rattle.std.proofs.Common.{◌≡◌, ℕ, zero, suc, ◌+◌, ◌-◌, ◌≤◌, List, [], ◌++◌, length, take, drop, Option, None, Some}
use Rattle.std.proofs.Common.{refl, sym, ap, ◌∙◌, arith}
use Rattle.std.proofs.lemmas.List.{drop-drop, drop_at, take_at, length-drop}
use Rattle.board_outside.specs.Outside.{OfFile}
use Rattle.std.specs.Io.KnownBytes.{Consumes, IsAtEnd}

some_is : (xs ys : List ℕ) → ◌≡◌ {A = Option (List ℕ)} (Some xs) (Some ys) → xs ≡ ys
some_is xs ys same = cc

-- ---- bytes of a file that were passed over

-- what is left after so many, and after the read of more
pub passed_more : (left new : Option (List ℕ)) (bytes taken : List ℕ) (from count : ℕ) → left ≡ Some (drop from bytes) →
    Consumes left new taken → length taken ≡ count → new ≡ Some (drop (from + count) bytes)
passed_more None new bytes taken from count is then size = absurd (cc)
passed_more (Some xs) None bytes taken from count is then size = absurd then
passed_more (Some xs) (Some ys) bytes taken from count is then size =
    let all : drop from bytes ≡ taken ++ ys = sym (some_is xs (drop from bytes) is) ∙ then in
    ap Some (sym (sym (drop-drop count from bytes) ∙ ap (drop count) all ∙ drop_at taken ys count size))

-- where nothing is left after so many, nothing is left after more
pub passed_all : (new : Option (List ℕ)) (bytes : List ℕ) (from count : ℕ) → from ≤ count →
    new ≡ Some (drop from bytes) → IsAtEnd new → new ≡ Some (drop count bytes)
passed_all None bytes from count below is end = absurd (cc)
passed_all (Some xs) bytes from count below is end =
    let none : drop from bytes ≡ [] = sym (some_is xs (drop from bytes) is) ∙ end in
    is ∙ ap Some
    (none ∙ sym (none_left (count - from)) ∙ ap (drop (count - from)) (sym none) ∙ drop-drop (count - from) from bytes
    ∙ ap (λ (n : ℕ). drop n bytes) (let within : from ≤ count = below in omega arith))
  where
    none_left : (n : ℕ) → ◌≡◌ {A = List ℕ} (drop n []) []
    none_left zero = refl
    none_left (suc n) = refl

-- ---- what a read gives of a file

-- the bytes that came are those of the file from this place on
pub came_from : (left new : Option (List ℕ)) (file taken : List ℕ) (at count : ℕ) → left ≡ Some (drop at file) →
    Consumes left new taken → length taken ≡ count → taken ≡ take count (drop at file)
came_from None new file taken at count is then size = absurd (cc)
came_from (Some xs) None file taken at count is then size = absurd then
came_from (Some xs) (Some ys) file taken at count is then size =
    let all : drop at file ≡ taken ++ ys = sym (some_is xs (drop at file) is) ∙ then in
    sym (ap (take count) all ∙ take_at taken ys count size)

-- where nothing came at the end, the file ends at this place or before
pub ends_by : (left new : Option (List ℕ)) (file taken : List ℕ) (at : ℕ) → left ≡ Some (drop at file) →
    Consumes left new taken → length taken ≡ 0 → IsAtEnd new → length file ≤ at
ends_by left new file taken at is then none end =
    let after : new ≡ Some (drop (at + 0) file) = passed_more left new file taken at 0 is then none in
    let size : length (drop (at + 0) file) ≡ length file - (at + 0) = length-drop (at + 0) file in
    let empty : length (drop (at + 0) file) ≡ 0 = at_end new (drop (at + 0) file) after end in
    omega (arith, size, empty)
  where
    at_end : (new : Option (List ℕ)) (bytes : List ℕ) → new ≡ Some bytes → IsAtEnd new → length bytes ≡ 0
    at_end None bytes is end = absurd (cc)
    at_end (Some xs) bytes is end =
        let same : xs ≡ bytes = cc in ap length (sym same ∙ end)

-- where a folder tells its files, a fact of each of them is a fact of the file of this name
pub of_file : (files : Option (List ℕ → List ℕ)) (name : List ℕ) (P : List ℕ → Type 0) →
    ((file_of : List ℕ → List ℕ) → files ≡ Some file_of → P (file_of name)) → OfFile files name P
of_file None name P each = tt
of_file (Some file_of) name P each = each file_of refl
