use Rattle.std.proofs.Common.{◌≡◌, ℕ, ◌-◌, min, List, [], length, take, drop, Option, inl, inr, refl, sym, ◌∙◌, subst}
use Rattle.std.proofs.Common.{unwrap_or}
use Rattle.std.proofs.lemmas.Bool.{false≢true}
use Rattle.outside_doubles.proofs.memory_shelf.MemShelfShelf.fetch.Goals as goal

pub returns-in-None-clause-fails : goal.returns-in-None-clause-fails
returns-in-None-clause-fails c =
    let found = rw c.deref-2.ensures.value at c.in-None.ensures.found in
    (λ same. inr (sym found), λ why. refl)

pub returns-in-Some-clause-fails : goal.returns-in-Some-clause-fails
returns-in-Some-clause-fails c =
    let found = rw c.deref-2.ensures.value at c.in-Some.ensures.found in
    let counted = rw c.deref.ensures.value at c.count_call.ensures.listed in (
      λ same. absurd (false≢true same),
      λ why. elim why [
        | inl listed ↦ sym c.if-count_call.false ∙ counted.1 listed
        | inr none ↦ absurd cc
      ],
    )

pub returns-in-Some-clause-count : goal.returns-in-Some-clause-count
returns-in-Some-clause-count c =
    let found = rw c.deref-2.ensures.value at c.in-Some.ensures.found in
    subst
    (λ (file : Option (List ℕ)). c.copy_piece.result
    ≡ min (length (unwrap_or file []) - c.args.at) (length c.args.into.now))
    found c.copy_piece.ensures.count

pub returns-in-Some-clause-bytes : goal.returns-in-Some-clause-bytes
returns-in-Some-clause-bytes c =
    let found = rw c.deref-2.ensures.value at c.in-Some.ensures.found in
    subst
    (λ (file : Option (List ℕ)). take c.copy_piece.result c.copy_piece.new.into
    ≡ take c.copy_piece.result (drop c.args.at (unwrap_or file [])))
    found c.copy_piece.ensures.bytes
