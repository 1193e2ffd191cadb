-- A caller's pass, before and after a turn.
use Rattle.std.proofs.Common.{◌≡◌, ℕ, ◌==◌, Option, Some, List, [], ◌∷◌, ◌++◌, length, drop, sym, ap, ◌∙◌, append_assoc}
use Rattle.std.proofs.Common.{eq-eqb, refl, reverse, take, length-append, arith, All, Any}
use Rattle.board_prelude.proofs.{reverse-reverse, filter-append, Entry, entries_by, map_writes_of, take-append-drop}
use Rattle.board_prelude.proofs.{get_or_append_left, take-append_seam, get_or-append_seam}
use mathlib.Core.List.{IsPrefix}
use Rattle.bus_turn.specs.Passes.{IsSameCaller as IsSamePass, number_of, opened_of as opened_by, part_of}
use Rattle.bus_turn.specs.Passes.{seen_of as seen_in, mine_of as mine_in, joined_of}
use Rattle.bus_turn.specs.Views.{own_by}
use Rattle.bus_turn.proofs.Rows.{drop_front}
use Rattle.map_publish.specs.declared.mark.Mark.{Mark}
use Rattle.board_core.specs.declared.steps.Steps.{Ghosts}
use Rattle.board_live.specs.declared.cpu.Cpu.{Cpu}
use Rattle.board_live.specs.declared.shared.Shared.{Shared}
use Rattle.board_live.specs.declared.shared.Origin.{Origin}
use Rattle.board_live.specs.Known.{Extends, oldest, known_after}
use Rattle.board_live.specs.Origins.{origin_in}
use Rattle.board_live.specs.Steps.{board_of, opened_with}
use Rattle.board_live.specs.Passes.{SharedPass, setup_in, opened_in}
use Rattle.board_live.specs.Callers.{setup_of, seen_of, mine_of, known_of, IsSameCaller, ClosesBoard}
use Rattle.board_live.specs.Bus.{AddsNone}
use Rattle.board_live.specs.Joins.{HasOwn, IsJoined}
use Rattle.board_live.proofs.Histories.{extends_prefix, entries_reversed, known_extend, extends_trans, writes_extend}
use Rattle.std.proofs.lemmas.Bool.Decides.{nat_tests}

abbrev pub by_actor : Entry → ℕ
by_actor entry = entry.actor

-- ---- a caller's own entries

pub own_in : (number : ℕ) (opened list mine : List Entry) → IsPrefix opened list →
    own_by by_actor number (drop (length opened) list) ≡ mine →
    own_by by_actor number list ≡ own_by by_actor number opened ++ mine
own_in number opened list mine (rest, is) own =
    grind (arith, drop_front opened rest, filter-append (λ (e : Entry). e.actor == number) opened rest)

pub own_first : (number : ℕ) (entry : Entry) (history : List Entry) → entry.actor ≡ number →
    entries_by number (entry ∷ history) ≡ entry ∷ entries_by number history
own_first number entry history own = rw (eq-eqb entry.actor number own) refl

pub own_same : (number : ℕ) (one other : List Entry) → own_by by_actor number one ≡ own_by by_actor number other →
    entries_by number (reverse one) ≡ entries_by number (reverse other)
own_same number one other same = grind (arith, entries_reversed number)

-- ---- what a caller finds

module _ {B : Type 0} {steps : Ghosts B} where
  -- the shared board as a caller finds it
  pub record Finds (cpu : Cpu B steps) (held : Shared B steps) : Type 0 where
    pub setup : setup_of cpu ≡ (board_of held).setup
    pub opened : opened_in cpu.pass ≡ oldest held.opened (board_of held).entries
    pub begins : Extends (seen_of cpu) (board_of held).entries
    pub own : entries_by cpu.number (board_of held).entries ≡ mine_of cpu
    pub listed : own_by by_actor cpu.number (reverse (board_of held).entries)
        ≡ own_by by_actor cpu.number (opened_by cpu.pass) ++ mine_in cpu.pass
    pub meets : Extends (known_of cpu) (map_writes_of (setup_of cpu) (board_of held).entries)

  -- what is known of the published list is all map writes of the history
  known_all : (pass : SharedPass (Shared B steps)) (held : Shared B steps) → setup_in pass ≡ (board_of held).setup →
      opened_in pass ≡ oldest held.opened (board_of held).entries → known_after (setup_in pass)
      (opened_in pass) held.publisher.value.front.seen.log ≡ map_writes_of (setup_in pass) (board_of held).entries
  known_all pass held setup opened = let published = held.published in grind (arith, published)

  pub finds : (cpu : Cpu B steps) (held : Shared B steps) →
      IsPrefix (seen_in cpu.pass) (reverse (board_of held).entries) →
      IsPrefix (opened_by cpu.pass) (reverse (board_of held).entries) → own_by by_actor (number_of cpu.pass)
      (drop (length (opened_by cpu.pass)) (reverse (board_of held).entries)) ≡ mine_in cpu.pass →
      part_of cpu.pass ≡ Some (opened_with held) →
      IsPrefix cpu.viewer.front.seen.log held.publisher.value.front.seen.log → Finds cpu held
  finds cpu held begins opens own part meets =
      let history = (board_of held).entries in let passed = cpu.passed in
      let listed = own_in cpu.number (opened_by cpu.pass) (reverse history) (mine_in cpu.pass) opens in
      let known = known_extend (setup_in cpu.pass) (opened_in cpu.pass) cpu.viewer.front.seen.log
      held.publisher.value.front.seen.log meets in
      let goes_on = extends_prefix (seen_in cpu.pass) (reverse history) begins in
      grind (arith, nat_tests, passed, listed, known, goes_on, known_all, own_same, reverse-reverse)

  -- and the same of the caller's pass after it has learnt that list
  pub known_left : (before now : SharedPass (Shared B steps)) (held : Shared B steps) (log : List Mark) →
      IsSamePass before now →
      log ≡ held.publisher.value.front.seen.log → setup_in before ≡ (board_of held).setup →
      opened_in before ≡ oldest held.opened (board_of held).entries → known_after (setup_in now)
      (opened_in now) log ≡ map_writes_of (setup_in before) (board_of held).entries
  known_left before now held log same learnt setup opened =
      (λ k. known_after (origin_in (same.2 k)).setup (reverse (same.1 k)) (learnt k))
      ∙ known_all before held setup opened

  -- ---- a turn in which a caller adds nothing

  -- after it the caller has seen all, and has added nothing
  pub has_learnt : {cpu : Cpu B steps} {held : Shared B steps} {now : Cpu B steps} → Finds cpu held →
      now.number ≡ cpu.number →
      IsSamePass cpu.pass now.pass → now.viewer.front.seen.log ≡ held.publisher.value.front.seen.log →
      seen_in now.pass ≡ reverse (board_of held).entries → AddsNone cpu now
  has_learnt finds same own seen log = grind (arith, nat_tests, reverse-reverse, known_left)

-- ---- passes that are joined into another, one after another

module _ {X : Type 0} where
  -- the last of a list's first elements is taken away
  pub popped : (whole items rest : List X) (x : X) → items ≡ take (length items) whole → items ≡ rest ++ x ∷ [] →
      (rest ≡ take (length rest) whole) × (drop (length rest) whole ≡ x ∷ drop (length items) whole)
  popped whole items rest x front is =
      let joined = append_assoc rest (x ∷ []) in
      grind (arith, take-append-drop (length items) whole, joined, take-append_seam rest, drop_front rest)

  any_left : (P : X → Type 0) (xs ys : List X) → Any P xs → Any P (xs ++ ys)
  any_left P xs ys (k, x, below, at', holds) =
      grind (arith, length-append xs ys, get_or_append_left xs ys x k below)

  any_seam : (P : X → Type 0) (xs ys : List X) (x : X) → P x → Any P (xs ++ x ∷ ys)
  any_seam P xs ys x holds = grind (arith, length-append xs (x ∷ ys), get_or-append_seam xs x ys x)

-- ---- joined passes

own_back : (number : ℕ) (one other : List Entry) → entries_by number (reverse one) ≡ entries_by number (reverse other) →
    own_by by_actor number one ≡ own_by by_actor number other
own_back number one other same =
    let turned = λ (entries : List Entry). reverse-reverse (own_by by_actor number entries) in
    grind (arith, entries_reversed number, turned one, turned other)

module _ {B : Type 0} {steps : Ghosts B} where
  -- what a pass has of a caller stays, when another is joined into it
  pub joined_more : (before now : SharedPass (Shared B steps)) (more : List (ℕ × List Entry)) (cpu : Cpu B steps) →
      IsPrefix (seen_in before) (seen_in now) → joined_of now ≡ joined_of before ++ more → IsJoined before cpu →
      IsJoined now cpu
  joined_more before now more cpu later joined has =
      let grown = extends_prefix (seen_in before) (seen_in now) later in
      let begins = extends_trans _ _ _ has.begins grown in
      let meets = extends_trans _ _ _ has.meets (writes_extend (setup_of cpu) _ _ grown) in
      let own = any_left (HasOwn cpu) (joined_of before) more has.own in grind (arith, begins, meets, own, joined)

  -- what a pass has of a caller that knew all that was published, where it has seen as much
  pub caught_up : (pass : SharedPass (Shared B steps)) (cpu now : Cpu B steps) → IsSameCaller cpu now →
      AddsNone cpu now → IsPrefix (seen_in now.pass) (seen_in pass) →
      Extends (seen_of cpu) (reverse (seen_in pass)) × Extends (known_of cpu)
      (map_writes_of (setup_of cpu) (reverse (seen_in pass))) × HasOwn cpu (number_of now.pass, mine_in now.pass)
  caught_up pass cpu now same none later =
      let grown = extends_prefix (seen_in now.pass) (seen_in pass) later in
      let writes : Extends (known_of now) (map_writes_of (setup_of cpu) (reverse (seen_in pass))) =
      rw none.known (writes_extend (setup_of cpu) (seen_of now) (reverse (seen_in pass)) grown) in
      let begins = extends_trans _ _ _ none.begins grown in let meets = extends_trans _ _ _ none.meets writes in
      let passed = now.passed in let back = own_back cpu.number (seen_in now.pass) (seen_in cpu.pass) in
      grind (arith, same, none, begins, meets, passed, back)

  -- the caller whose pass was joined, after it knew all that was published
  pub joined_new : (before pass : SharedPass (Shared B steps)) {cpu now : Cpu B steps} → IsSameCaller cpu now →
      AddsNone cpu now →
      IsPrefix (seen_in now.pass) (seen_in pass) →
      joined_of pass ≡ joined_of before ++ (number_of now.pass, mine_in now.pass) ∷ joined_of now.pass →
      IsJoined pass cpu
  joined_new before pass {cpu} {now} same none later joined =
      let has = caught_up pass cpu now same none later in
      let own =
      any_seam (HasOwn cpu) (joined_of before) (joined_of now.pass) (number_of now.pass, mine_in now.pass) has.2 in
      grind (arith, has, own, joined)

  -- ---- the board that was closed

  -- passes with one fixed part were opened with one history
  pub opened_same : (cpu other : Cpu B steps) → part_of cpu.pass ≡ part_of other.pass →
      opened_by cpu.pass ≡ opened_by other.pass
  opened_same cpu other same =
      let turned =
      ap (λ (o : Option Origin). (origin_in o).entries) (sym cpu.passed.part ∙ (same ∙ other.passed.part)) in
      grind (arith, turned, reverse-reverse (opened_by cpu.pass), reverse-reverse (opened_by other.pass))

  module _ (pass : SharedPass (Shared B steps)) (done : Shared B steps) (cpu : Cpu B steps)
      (later : IsPrefix (seen_in pass) (reverse (board_of done).entries))
      (opens : IsPrefix (opened_by pass) (reverse (board_of done).entries)) (same : opened_by cpu.pass ≡ opened_by pass)
      (part : part_of cpu.pass ≡ Some (opened_with done)) where
    pub closes : (own : ℕ × List Entry) → Extends (seen_of cpu) (reverse (seen_in pass))
        → Extends (known_of cpu) (map_writes_of (setup_of cpu) (reverse (seen_in pass))) → HasOwn cpu own
        → own_by by_actor own.0 (drop (length (opened_by pass)) (reverse (board_of done).entries)) ≡ own.1
        → ClosesBoard (board_of done) cpu
    closes own begins meets has is =
        let history = (board_of done).entries in
        let grown = extends_prefix (seen_in pass) (reverse history) later in
        let mine = own_in cpu.number (opened_by pass) (reverse history) own.1 opens in
        let goes_on = extends_trans _ _ _ begins grown in
        let known = extends_trans _ _ _ meets (writes_extend (setup_of cpu) _ _ grown) in
        let all = own_same cpu.number (reverse history) (seen_in cpu.pass) in
        grind (arith, part, same, has, is, mine, goes_on, known, all, reverse-reverse history)

    -- and of a caller whose pass was joined
    pub closes_joined : IsJoined pass cpu
        → All (λ other. own_by by_actor other.0 (drop (length (opened_by pass)) (reverse (board_of done).entries))
        ≡ other.1) (joined_of pass) → ClosesBoard (board_of done) cpu
    closes_joined joined each =
        let (k, own, below, at', has) = joined.own in
        closes own joined.begins joined.meets has (rw at' at (each k own below))
