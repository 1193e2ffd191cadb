-- What two calls in a row append. In the second lemma the last call may still fail.
use Rattle.board_prelude.specs.{Entry, Wide, WideAccess, event_text, hex_long, is_write, kind_text, line_text}
use Rattle.board_prelude.specs.{reply_text, size_text, smm_text, space, written_text}
use Rattle.board_prelude.proofs.{nat_tests}
use Rattle.std.proofs.Common.{arith, refl, sym, ◌∙◌, [], ◌∷◌, ◌≡◌, ℕ, ◌++◌, List, Result, OnOk, append_assoc, codes, decimal, OnErr}
use Rattle.logs.specs.Adds.{IsFront}
use Rattle.logs.specs.Numbered.{tail_text}

pub appended_more : (old first middle new second : List ℕ) → middle ≡ old ++ first → new ≡ middle ++ second →
    new ≡ old ++ (first ++ second)
appended_more old first middle new second one two = rw (two, one) (simp append_assoc)

pub appended_twice : {T E : Type 0} (r : Result T E) (old first : List ℕ) (middle new second whole : List ℕ) →
    middle ≡ old ++ first → OnOk r (new ≡ middle ++ second) → whole ≡ first ++ second → OnOk r (new ≡ old ++ whole)
appended_twice r old first middle new second whole one two joined = grind (arith, nat_tests, append_assoc)

-- after a text that has grown a text that begins with it begins with the old one too
pub front_more : {T E : Type 0} (r : Result T E) (old first middle new : List ℕ) → middle ≡ old ++ first →
    OnErr r (IsFront middle new) → OnErr r (IsFront old new)
front_more r old first middle new one front = grind (arith, nat_tests, append_assoc)

-- a number is put before three words at the front of an end of a line
pub number_put : (number version : ℕ) (x y z old middle new : List ℕ) → number ≡ version → middle ≡ x ++ y ++ z ++ old →
    new ≡ decimal number ++ middle → new ≡ decimal version ++ x ++ y ++ z ++ old
number_put number version x y z old middle new same below above = rw (above, below, same) (simp append_assoc)

parts_joined : (h k z a w s e r : List ℕ) →
    h ++ (k ++ z ++ a ++ w ++ s) ++ e ++ r ≡ h ++ k ++ z ++ a ++ (w ++ s) ++ (e ++ r)
parts_joined h k z a w s e r = simp append_assoc

cons_append : (x : ℕ) (xs ys : List ℕ) → (x ∷ xs) ++ ys ≡ x ∷ (xs ++ ys)
cons_append x xs ys = refl

pub lines_are_numbered : (n : ℕ) (entry : Entry) → line_text n entry ≡ decimal n ++ space ∷ tail_text entry
unfolding line_text tail_text
lines_are_numbered n entry = simp (append_assoc, cons_append)

-- a number and a space are put before a line without them
pub number_before : (n : ℕ) (entry : Entry) (old tail spaced new : List ℕ) → tail ≡ tail_text entry ++ old →
    spaced ≡ (space ∷ []) ++ tail → new ≡ decimal n ++ spaced → new ≡ line_text n entry ++ old
number_before n entry old tail spaced new one two three =
    rw (three, two, one, lines_are_numbered n entry) (sym (append_assoc (decimal n) (space ∷ tail_text entry) old))

pub numbered_tail : (n : ℕ) (entry : Entry) → line_text n entry ≡ (decimal n ++ space ∷ []) ++ tail_text entry
numbered_tail n entry = lines_are_numbered n entry ∙ sym (append_assoc (decimal n) (space ∷ []) (tail_text entry))

-- the line of a wide access without its number: up to its address, its value and its mark, and its reply
pub tail_text-wide :
    (entry : Entry) (access : WideAccess) (bytes : ℕ) → entry.event ≡ Wide access → bytes ≡ access.bytes
    → tail_text entry
    ≡ decimal entry.actor ++ codes "." ++ decimal entry.seq ++ space ∷ kind_text access.kind
    ++ space ∷ size_text access.bytes ++ space ∷ hex_long access.addr
    ++ (written_text (is_write access.kind) access.bytes access.value ++ smm_text access.smm)
    ++ (codes " = " ++ reply_text bytes entry.reply)
unfolding tail_text event_text
tail_text-wide entry access bytes same sized =
    rw (same, sized)
    (parts_joined (decimal entry.actor ++ codes "." ++ decimal entry.seq)
    (space ∷ kind_text access.kind) (space ∷ size_text access.bytes) (space ∷ hex_long access.addr)
    (written_text (is_write access.kind) access.bytes access.value) (smm_text access.smm) (codes " = ")
    (reply_text access.bytes entry.reply))

-- what is appended piece by piece
pub ruleset joined_rules = (appended_more, appended_twice, front_more)
