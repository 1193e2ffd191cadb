-- The histories of a script: the lines of its log say which one it is.
use Rattle.std.proofs.Common.{ℕ, ◌≡◌, ◌+◌, ◌<◌, List, [], ◌∷◌, ◌++◌, length, reverse, All, refl, sym, ap, ◌∙◌}
use Rattle.std.proofs.Common.{append-nil, length-append, arith, decimal}
use Rattle.std.proofs.lemmas.List.{same_from_push}
use Rattle.board_prelude.proofs.{common_steps, nat_tests, nil_from_length, reverse-append, Entry, Setup, IsLegal}
use Rattle.board_prelude.proofs.{IsBegunFor, in_file_order, IsAddressed, OneReplay, space, line_feed, line_text}
use Rattle.board_prelude.proofs.{statement_of, statements_of, statements-newest, front_is_begun, digits_value}
use Rattle.board_prelude.specs.{Statement}
use Rattle.script_spec.proofs.Digits.{value_of_decimal, front, back, front-field, back-field}
use Rattle.script_spec.proofs.PlainText.{lacks-word, decimal_word}
use Rattle.script_spec.proofs.LogLaws.{log_lines}
use Rattle.log_check.specs.Phases.{IsTyped}
use Rattle.log_check.specs.Walks.{GoesOnWithNone}
use Rattle.log_check.proofs.TextCuts.{named, lacks_stop}
use Rattle.log_check.proofs.NextStatements.{one_next}
use Rattle.log_check.proofs.LogLines.{lines_count}

-- ---- the processor of a line

abbrev actor_of : List ℕ → ℕ
actor_of line = digits_value 10 (front 0x2E (back space line))

actor_read : (n : ℕ) (entry : Entry) → entry.actor < 256 → actor_of (line_text n entry) ≡ entry.actor
actor_read n entry small =
    let parts = named n entry [] in
    rw (
      simp append-nil at parts.1,
      back-field space (decimal n) _ (lacks-word space (decimal n) refl (decimal_word n)),
      front-field 0x2E (decimal entry.actor) parts.0 (lacks_stop entry.actor small),
    ) (value_of_decimal entry.actor (omega (arith, small)))

-- ---- one entry more

-- what is known of a script
pub record Known (setup : Setup) (phases : List (List Statement)) : Type 0 where
  pub one : OneReplay
  pub typed : All IsTyped (in_file_order phases)
  pub addressed : All (λ statement. IsAddressed statement.event) (in_file_order phases)

-- entries of one statement that may come next are one
pub one_entry : OneReplay → (setup : Setup) (history : List Entry) (left right : Entry) →
    IsLegal setup (left ∷ history) → IsLegal setup (right ∷ history) → left.actor ≡ right.actor →
    left.event ≡ right.event → left ≡ right
one_entry one setup history left right l r actor event =
    let lists : statements_of (right ∷ history) ≡ statements_of (left ∷ history) =
    statements-newest right history ∙ rw (← actor, ← event) (sym (statements-newest left history)) in
    let whole = one setup (statements_of (left ∷ history)) (left ∷ history) (right ∷ history)
    (record { legal = l; same = refl }) (record { legal = r; same = lists }) in
    cc

-- a history is legal and begun
abbrev pub Runs : Setup → List (List Statement) → List Entry → Type 0
Runs setup phases history = IsLegal setup history × IsBegunFor phases history

module _ {setup : Setup} {phases : List (List Statement)} (known : Known setup phases) where
  runs_before : (entry : Entry) (history : List Entry) → Runs setup phases (entry ∷ history) →
      Runs setup phases history
  runs_before entry history runs = (runs.0.1, front_is_begun phases entry history runs.1)

  -- after the same history they are one where their lines are
  same_entry : (n : ℕ) (history : List Entry) (left right : Entry) → Runs setup phases (left ∷ history) →
      Runs setup phases (right ∷ history) → line_text n left ≡ line_text n right → left ≡ right
  same_entry n history left right l r same =
      let next = one_next phases (statements_of history) (statement_of left) (statement_of right) known.typed
      (rw (statements-newest left history) at l.1) (rw (statements-newest right history) at r.1) in
      let actor : left.actor ≡ right.actor =
      sym (actor_read n left next.0) ∙ ap actor_of same ∙ actor_read n right next.1 in
      one_entry known.one setup history left right l.0 r.0 actor (next.2 actor)

  -- histories with the same lines are one
  pub same_history : (left right : List Entry) → Runs setup phases left → Runs setup phases right →
      log_lines left ≡ log_lines right → left ≡ right
  same_history [] right l r same = grind (arith, nat_tests, nil_from_length, lines_count right)
  same_history (entry ∷ left) [] l r same = absurd (omega (arith, ap length same, lines_count (entry ∷ left)))
  same_history (entry ∷ left) (other ∷ right) l r same =
      let cut = same_from_push (log_lines left) (log_lines right) _ _ same in
      let before : left ≡ right =
      same_history left right (runs_before entry left l) (runs_before other right r) cut.0 in
      let last : entry ≡ other =
      same_entry (length right + 1) right entry other (rw before at l) r (rw before at cut.1) in
      cc

  -- where the rest goes on with none of the entries that may come next, no history has a longer log
  pub no_longer : (history whole : List Entry) (rest this after : List ℕ) (later : List (List ℕ)) →
      GoesOnWithNone setup phases history rest → rest ≡ this ++ line_feed ∷ after → Runs setup phases history →
      Runs setup phases whole → log_lines whole ≡ log_lines history ++ this ∷ reverse later → ⊥
  no_longer history [] rest this after later none text runs all same =
      absurd (omega (arith, ap length same, length-append (log_lines history) (this ∷ reverse later)))
  no_longer history (entry ∷ before) rest this after [] none text runs all same =
      let cut = same_from_push (log_lines before) (log_lines history) _ this same in
      let is = same_history before history (runs_before entry before all) runs cut.0 in
      let next = rw is at all in
      none entry after next.0.0 next.1 (text ∙ rw (← cut.1, is) refl)
  no_longer history (entry ∷ before) rest this after (last ∷ later) none text runs all same =
      let moved = reverse-append (last ∷ []) later in
      let cut = same_from_push (log_lines before) (log_lines history ++ this ∷ reverse later)
      (line_text (length before + 1) entry) last (grind (arith, nat_tests, common_steps, same, moved)) in
      no_longer history before rest this after later none text runs (runs_before entry before all) cut.0
