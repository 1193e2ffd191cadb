use Rattle.std.proofs.Common.{◌≡◌, ℕ, List, Result, Ok, Err, sym, ap, ◌∙◌, arith}
use Rattle.board_prelude.proofs.{nat_tests}
use Rattle.machine.specs.Fitted.{version, version_field}
use Rattle.machine.proofs.fitted.is_other_version.Goals as goal

-- one number is read
own_number : (read : Result (ℕ × List ℕ) ℕ) (number other : ℕ) (rest more : List ℕ) → read ≡ Ok (number, rest) →
    read ≡ Ok (other, more) → number ≡ version → other ≡ version
own_number read number other rest more first second is = grind (arith, nat_tests)

-- none is
no_number : (read : Result (ℕ × List ℕ) ℕ) (left other : ℕ) (more : List ℕ) → read ≡ Err left → read ≡ Ok (other, more) → ⊥
no_number read left other more first second = grind (arith, nat_tests)

pub returns-in-Ok : goal.returns-in-Ok
returns-in-Ok c =
    let took = ap version_field (sym c.of-fields.ensures.all) ∙ c.in-Ok.ensures.took in
    record {
      other = λ is. record {
        number = c.in-Ok.number;
        rest = c.read_version.new.fields;
        read = took;
        other = λ same. let never = rw same at is in absurd cc;
      };
      no_other = λ is found. found.other (own_number _ _ _ _ _ took found.read (grind (arith, nat_tests, is)));
    }

pub returns-in-Err : goal.returns-in-Err
returns-in-Err c = record {
  other = λ is. absurd (cc is);
  no_other = λ is found.
      no_number _ _ _ _ (ap version_field (sym c.of-fields.ensures.all) ∙ c.in-Err.ensures.took) found.read;
}
