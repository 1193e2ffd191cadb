-- What a write to the front of a slice leaves of the rest.
use Rattle.std.proofs.Common.{◌≡◌, ◌≤◌, ℕ, List, length, take, drop, ◌++◌, ap, sym, ◌∙◌, min, arith, Result, Ok, Err}
use Rattle.std.proofs.Common.{IfOk, OnErr}
use Rattle.std.proofs.lemmas.List.{drop-append-le, take-append-drop, take-append-le, length-take}

-- a front that a call wrote in part, and the rest that it was not given
beyond_in_front : (k room : ℕ) (xs ys : List ℕ) → k ≤ length ys → length ys ≡ length (take room xs)
    → drop k ys ≡ drop k (take room xs) → drop k (ys ++ drop room xs) ≡ drop k xs
beyond_in_front k room xs ys fits long same =
    drop-append-le k ys (drop room xs) fits
    ∙ ap (λ rest. rest ++ drop room xs) same
    ∙ sym (drop-append-le k (take room xs) (drop room xs) (rw (sym long) fits))
    ∙ ap (drop k) (take-append-drop room xs)

-- ---- what a call that was given the front of a slice did to all of it

pub short_in_front : {E : Type 0} (result : Result ℕ E) (left room piece : ℕ) (xs : List ℕ) →
    room ≡ min piece (length xs) → IfOk result (λ k. k ≡ min left (length (take room xs))) →
    IfOk result (λ k. k ≤ piece)
short_in_front (Ok k) left room piece xs fits count =
    let size = length-take room xs in omega (arith, fits, count, size)
short_in_front (Err e) left room piece xs fits count = tt

pub count_in_front : {E : Type 0} (result : Result ℕ E) (left room piece : ℕ) (xs : List ℕ) →
    room ≡ min piece (length xs) → IfOk result (λ k. k ≡ min left (length (take room xs))) →
    IfOk result (λ k. k ≡ min left (length (take piece xs)))
count_in_front (Ok k) left room piece xs fits count =
    let size = length-take room xs in let all = length-take piece xs in omega (arith, fits, count, size, all)
count_in_front (Err e) left room piece xs fits count = tt

pub bytes_in_front : {E : Type 0} (result : Result ℕ E) (left room : ℕ) (xs ys rest : List ℕ) →
    length ys ≡ length (take room xs) → IfOk result (λ k. k ≡ min left (length (take room xs))) →
    IfOk result (λ k. take k ys ≡ take k rest) → IfOk result (λ k. take k (ys ++ drop room xs) ≡ take k rest)
bytes_in_front (Ok k) left room xs ys rest long count bytes =
    take-append-le k ys (drop room xs) (omega (arith, long, count)) ∙ bytes
bytes_in_front (Err e) left room xs ys rest long count bytes = tt

pub rest_in_front : {E : Type 0} (result : Result ℕ E) (left room : ℕ) (xs ys : List ℕ) →
    length ys ≡ length (take room xs) → IfOk result (λ k. k ≡ min left (length (take room xs))) →
    IfOk result (λ k. drop k ys ≡ drop k (take room xs)) → IfOk result (λ k. drop k (ys ++ drop room xs) ≡ drop k xs)
rest_in_front (Ok k) left room xs ys long count beyond =
    beyond_in_front k room xs ys (omega (arith, long, count)) long beyond
rest_in_front (Err e) left room xs ys long count beyond = tt

pub unread_in_front : {E : Type 0} (result : Result ℕ E) (room : ℕ) (xs ys : List ℕ) →
    OnErr result (ys ≡ take room xs) → OnErr result (ys ++ drop room xs ≡ xs)
unread_in_front (Ok k) room xs ys unread = tt
unread_in_front (Err e) room xs ys unread = ap (λ front. front ++ drop room xs) unread ∙ take-append-drop room xs
