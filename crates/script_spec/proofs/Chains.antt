-- Parts of a chain that said something, and fields that spell words.
use Rattle.board_prelude.proofs.{nat_tests, option_and_then, AllZip, join_with_byte, bytes_eq-Decides, space}
use Rattle.std.proofs.Common.{arith, ◌≡◌, Bool, true, cond, Option, Some, None, List, [], ◌∷◌, get_or, ap, ℕ, IfSome}
use Rattle.std.proofs.Common.{◌++◌, inl, refl, subst, bytes_eq}
use Rattle.script_spec.specs.Grammar.{StandsFor}

pub some_is : {A : Type 0} (x y : A) → ◌≡◌ {A = Option A} (Some x) (Some y) → x ≡ y
some_is x y e = cc

pub guarded : {A : Type 0} (b : Bool) (x : Option A) (y : A) → cond b x None ≡ Some y → (b ≡ true) × (x ≡ Some y)
guarded b x y e = grind (arith, nat_tests)

pub then_said : {A B : Type 0} (said : Option A) (f : A → Option B) (y : B) → option_and_then f said ≡ Some y
    → (x : A) × (said ≡ Some x) × (f x ≡ Some y)
then_said said f y e = grind (arith, nat_tests)

-- what is found holds something
pub if_some : {A : Type 0} (found : Option A) (P : A → Type 0) → ((x : A) → found ≡ Some x → P x) → IfSome found P
if_some None P each = tt
if_some (Some x) P each = each x refl

-- a field that says something, where more is said after it
pub then_read : {A B : Type 0} {P : A → Type 0} (said : Option A) (f : A → Option B) (y : B) →
    ((x : A) → said ≡ Some x → P x) → option_and_then f said ≡ Some y → (x : A) × P x × (f x ≡ Some y)
then_read said f y read e = let s = then_said said f y e in (s.0, read s.0 s.1, s.2)

pub same_head : {X : Type 0} (x y : X) (xs ys : List X) → x ∷ xs ≡ y ∷ ys → x ≡ y
same_head x y xs ys e = ap (λ l. get_or l 0 x) e

-- ---- fields that spell words

abbrev pub Spells : List ℕ → List ℕ → Type 0
Spells field text = AllZip StandsFor field text

abbrev pub Reads : List (List ℕ) → List (List ℕ) → Type 0
Reads fields texts = AllZip Spells fields texts

pub same : (text : List ℕ) → Spells text text
same [] = tt
same (c ∷ cs) = (inl refl, same cs)

pub same_as : (field text : List ℕ) → field ≡ text → Spells field text
same_as field text is = subst (λ (t : List ℕ). Spells field t) is (same field)

pub zipped : (xs ys us vs : List ℕ) → Spells xs ys → Spells us vs → Spells (xs ++ us) (ys ++ vs)
zipped [] [] us vs one two = two
zipped (x ∷ xs) (y ∷ ys) us vs one two = (one.0, zipped xs ys us vs one.1 two)
zipped _ _ us vs one two = grind arith

pub joined : (fields texts : List (List ℕ)) → Reads fields texts
    → Spells (join_with_byte space fields) (join_with_byte space texts)
joined [] [] reads = tt
joined (f ∷ []) (t ∷ []) reads = reads.0
joined (f ∷ g ∷ fields) (t ∷ u ∷ texts) reads =
    zipped f t _ _ reads.0 (inl refl, joined (g ∷ fields) (u ∷ texts) reads.1)
joined _ _ reads = grind arith

pub word_is : (field word : List ℕ) → bytes_eq field word ≡ true → field ≡ word
word_is field word e = (bytes_eq-Decides field word).0 e

-- what was found by a word, or else by others
pub by_word : {A : Type 0} (P : List ℕ → Type 0) (field word : List ℕ) (one other : Option A) (found : A)
    → (one ≡ Some found → P word) → (other ≡ Some found → P field)
    → cond (bytes_eq field word) one other ≡ Some found → P field
by_word P field word one other found here there e = grind (arith, nat_tests, word_is)

pub by_word_if : {A : Type 0} (P : List ℕ → A → Type 0) (field word : List ℕ) (one other : Option A) →
    IfSome one (P word) → IfSome other (P field) → IfSome (cond (bytes_eq field word) one other) (P field)
by_word_if P field word one other here there = grind (arith, nat_tests, word_is)
