-- Every event has one answer, and every list of statements one replay.
use Rattle.std.proofs.Common.{◌≡◌, ℕ, Bool, List, [], ◌∷◌, ◌++◌, refl, sym, ◌∙◌, ap, length, append_assoc, ◌≤◌, map}
use Rattle.std.proofs.Common.{reverse, arith}
use Rattle.std.proofs.lemmas.List.{length-map, append-nil, reverse-append}
use Rattle.std.proofs.lemmas.List.Elements.{recursion_from_All}
use Rattle.std.specs.List.{AllByRecursion}
use Rattle.board_base.specs.declared.access.Kind.{Kind}
use Rattle.board_base.specs.declared.access.WideAccess.{WideAccess}
use Rattle.board_spec.specs.Setup.{Setup}
use Rattle.board_spec.specs.Registers.{byte_of}
use Rattle.board_spec.specs.MapWrites.{version_of}
use Rattle.board_spec.specs.WideParts.{parts_of, parts_list}
use Rattle.board_spec.specs.InRange.{IsWideAccess}
use Rattle.board_spec.specs.Answer.{part_answer, wide_value, IsLookAnswer}
use Rattle.board_spec.specs.Legal.{next_entry, IsNext, IsLegal}
use Rattle.board_spec.specs.Orders.{statement_of, statements_of}
use Rattle.board_spec.specs.Laws.{IsAddressed, SomeAnswer, OneAnswer, SomeReplay, OneReplay}
use Rattle.board_spec.specs.declared.event.Event.TheVariants.{Wide, Look as LookAt}
use Rattle.board_spec.specs.declared.event.Look.{Look}
use Rattle.board_spec.specs.declared.event.Part.{Part}
use Rattle.board_spec.specs.declared.event.Parts.{Parts}
use Rattle.board_spec.specs.declared.event.Parts.TheVariants.{Two as TwoParts, Three as ThreeParts, Four as FourParts}
use Rattle.board_spec.specs.declared.event.Reply.TheVariants.{Parts as InParts, Saw}
use Rattle.board_spec.specs.declared.event.Entry.{Entry}
use Rattle.board_spec.specs.declared.event.Statement.{Statement}
use Rattle.board_spec.proofs.SpanLaws.{some_span, one_span}
use Rattle.board_spec.proofs.PartLawProofs.{is_cut, length-made}
use Rattle.board_spec.proofs.OrderLawProofs.{statements-newest}

-- ---- the parts of a wide access

-- two to four parts as the board gives them
record AsParts (list : List Part) : Type 0 where
  pub parts : Parts
  pub same : parts_list parts ≡ list

some_parts : (list : List Part) → (2 ≤ length list) × (length list ≤ 4) → AsParts list
some_parts (a ∷ b ∷ []) count = record { parts = TwoParts a b; same = refl }
some_parts (a ∷ b ∷ c ∷ []) count = record { parts = ThreeParts a b c; same = refl }
some_parts (a ∷ b ∷ c ∷ d ∷ []) count = record { parts = FourParts a b c d; same = refl }
some_parts _ count = absurd (omega (arith, count.0, count.1))

parts_counted :
    (setup : Setup) (before : List Entry) (access : WideAccess) → IsWideAccess access →
    (2 ≤ length (map (part_answer setup before) (parts_of access)))
    × (length (map (part_answer setup before) (parts_of access)) ≤ 4)
parts_counted setup before access wide =
    let cut = is_cut access wide in
    rw (
      length-map (parts_of access) (part_answer setup before),
      cut.parts,
      length-made access access.addr cut.widths,
    ) (cut.least, cut.most)

-- ---- answers

pub some_answer : SomeAnswer
some_answer setup before (Wide access) addressed =
    let some = some_parts _ (parts_counted setup before _ addressed) in
    record {
      reply = InParts some.parts (wide_value setup before access);
      answer = record { value_is = refl; each = some.same };
    }
some_answer setup before (LookAt kind addr smm) addressed =
    let span = some_span setup (byte_of setup before) addr kind smm addressed in
    record {
      reply = Saw (record { version = version_of setup before; lo = span.lo; hi = span.hi; area = span.area });
      answer = record { version = refl; span = span.span };
    }
some_answer setup before _ addressed = record { reply = _; answer = refl }

one_look : (setup : Setup) (before : List Entry) (kind : Kind) (addr : ℕ) (smm : Bool) (left right : Look) →
    IsLookAnswer setup before kind addr smm left → IsLookAnswer setup before kind addr smm right → Saw left ≡ Saw right
one_look setup before kind addr smm left right l r =
    grind (arith, one_span setup (byte_of setup before) addr kind smm left.lo left.hi right.lo right.hi)

pub one_answer : OneAnswer
one_answer setup before (Wide access) (InParts parts value) (InParts parts' value') l r =
    grind (arith, l.value_is ∙ sym r.value_is, l.each ∙ sym r.each)
one_answer setup before (Wide access) (InParts parts value) _ l r = absurd r
one_answer setup before (Wide access) _ right l r = absurd l
one_answer setup before (LookAt kind addr smm) (Saw left) (Saw right) l r = one_look _ _ _ _ _ _ _ l r
one_answer setup before (LookAt kind addr smm) (Saw left) _ l r = absurd r
one_answer setup before (LookAt kind addr smm) _ right l r = absurd l
one_answer setup before _ left right l r = l ∙ sym r

-- ---- replays

pub legal_before : (setup : Setup) (more before : List Entry) → IsLegal setup (more ++ before) → IsLegal setup before
legal_before setup [] before legal = legal
legal_before setup (entry ∷ more) before legal = legal_before setup more before legal.1

record Extended (setup : Setup) (before : List Entry) (statements : List Statement) : Type 0 where
  pub history : List Entry
  pub legal : IsLegal setup history
  pub same : statements_of history ≡ statements_of before ++ statements

extended : (setup : Setup) (before : List Entry) (statements : List Statement) → IsLegal setup before →
    AllByRecursion (λ statement. IsAddressed statement.event) statements → Extended setup before statements
extended setup before [] legal addressed = record {
  history = before;
  legal = legal;
  same = sym (append-nil (statements_of before));
}
extended setup before (statement ∷ later) legal addressed =
    let answered = some_answer setup before statement.event addressed.0 in
    let entry = next_entry before statement.actor statement.event answered.reply in
    let next : IsNext setup before entry = record { number = refl; answer = answered.answer } in
    let more = extended setup (entry ∷ before) later (next, legal) addressed.1 in
    record {
      history = more.history;
      legal = more.legal;
      same =
          more.same
          ∙ ap (λ (said : List Statement). said ++ later) (statements-newest entry before)
          ∙ append_assoc (statements_of before) (statement ∷ []) later;
    }

pub some_replay : SomeReplay
some_replay setup statements addressed =
    let more = extended setup [] statements tt (recursion_from_All (λ statement. IsAddressed statement.event)
    statements addressed) in
    record { history = more.history; replay = record { legal = more.legal; same = more.same } }

newest : (entry : Entry) (before : List Entry) →
    reverse (statements_of (entry ∷ before)) ≡ statement_of entry ∷ reverse (statements_of before)
newest entry before =
    ap reverse (statements-newest entry before) ∙ reverse-append (statements_of before) (statement_of entry ∷ [])

same_history : (setup : Setup) (left right : List Entry) → IsLegal setup left → IsLegal setup right →
    reverse (statements_of left) ≡ reverse (statements_of right) → left ≡ right
same_history setup [] [] l r same = refl
same_history setup [] (entry ∷ right) l r same = let first = newest entry right in cc
same_history setup (entry ∷ left) [] l r same = let first = newest entry left in cc
same_history setup (entry ∷ left) (entry' ∷ right) l r same =
    let of_left = newest entry left in
    let of_right = newest entry' right in
    let head : statement_of entry ≡ statement_of entry' = cc in
    let rest : reverse (statements_of left) ≡ reverse (statements_of right) = cc in
    let tail : left ≡ right = same_history setup left right l.1 r.1 rest in
    let next : IsNext setup left entry' = rw tail r.0 in
    let first : entry ≡ entry' = grind (arith, one_answer, l.0) in
    cc

pub one_replay : OneReplay
one_replay setup statements left right l r =
    same_history _ _ _ l.legal r.legal (ap reverse (l.same ∙ sym r.same))
