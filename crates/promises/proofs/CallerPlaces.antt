-- The place of a caller's entry, and what its looks say.
use Rattle.std.proofs.Common.{◌≡◌, ◌==◌, ◌++◌, [], ℕ, Bool, List, Result, Ok, Err, IfOk, OnErr, refl, ap, sym, ◌∙◌}
use Rattle.std.proofs.Common.{subst}
use Rattle.std.proofs.lemmas.List.{append_cancel_right}
use Rattle.std.proofs.lemmas.List.Elements.{filter-append}
use Rattle.board_prelude.specs.{Entry, Event, Look, Kind, entries_by}
use Rattle.map_publish.specs.Laws.{IsLookAfter}
use Rattle.board_core.specs.declared.steps.Steps.{Ghosts}
use Rattle.board_live.specs.declared.shared.Answered.{Answered}
use Rattle.board_live.specs.Known.{Extends}
use Rattle.board_live.specs.Passes.{setup_in}
use Rattle.board_live.specs.declared.cpu.Cpu.{Cpu}
use Rattle.board_live.specs.Bus.{AddsByBus, AddsNone}
use Rattle.board_live.specs.Callers.{setup_of, seen_of, mine_of, known_of}
use Rattle.promises.specs.Caller.{HasPlace, AddsNothing, IsLookOf}

-- what came since has no entry of the caller's
not_mine : (number : ℕ) (more seen list : List Entry) → list ≡ more ++ seen →
    entries_by number list ≡ entries_by number seen → entries_by number more ≡ []
not_mine number more seen list is same =
    append_cancel_right (entries_by number more) [] (entries_by number seen)
    (sym (filter-append (λ entry. entry.actor == number) more seen) ∙ (ap (entries_by number) (sym is) ∙ same))

module _ {B : Type 0} {steps : Ghosts B} where
  pub placed : (event : Event) (answered : Answered) (before now : Cpu B steps) → AddsByBus event answered before now →
      HasPlace (setup_of before) before.number event answered.reply answered.place
      (record { seen = seen_of before; known = known_of before }) (record { seen = seen_of now; known = known_of now })
  placed event answered before now is =
      let others = is.begins.0 in
      let list = is.begins.1 in
      record {
        others = others;
        not_mine = not_mine before.number others (seen_of before) is.list list is.own;
        place_is = rw list at is.place;
        answer = rw list at is.answer;
        entry = rw list at is.seen;
        known = is.known;
        meets = rw list at is.meets;
      }

  pub added_nothing : (before now : Cpu B steps) → AddsNone before now → now.number ≡ before.number →
      AddsNothing before.number
      (record { seen = seen_of before; known = known_of before }) (record { seen = seen_of now; known = known_of now })
  added_nothing before now is number =
      let others = is.begins.0 in
      let mine : entries_by before.number (seen_of now) ≡ mine_of before =
      ap (λ n. entries_by n (seen_of now)) (sym number) ∙ is.mine in
      record {
        others = others;
        seen = is.begins.1;
        not_mine = not_mine before.number others (seen_of before) (seen_of now) is.begins.1 mine;
        meets = is.meets;
      }

  -- the same pass has seen the same, of the same board
  seen_by : (before now : Cpu B steps) → now.pass ≡ before.pass → seen_of now ≡ seen_of before
  seen_by before now same = rw same refl

  pub looked : (kind : Kind) (addr : ℕ) (smm : Bool) (look : Look) (before now : Cpu B steps) →
      (now.number ≡ before.number) × (now.pass ≡ before.pass) → Extends (known_of before) (known_of now) →
      IsLookAfter (setup_of now) (known_of now) addr kind smm look →
      IsLookOf (setup_of before) kind addr smm look
      (record { seen = seen_of before; known = known_of before }) (record { seen = seen_of now; known = known_of now })
  looked kind addr smm look before now same later is =
      let of_board : IsLookAfter (setup_of before) (known_of now) addr kind smm look =
      subst (λ setup. IsLookAfter setup (known_of now) addr kind smm look) (ap setup_in same.1) is in
      record { seen = seen_by before now same.1; goes_on = later; version = of_board.version; span = of_board.span }

-- ---- where a call was done, and where it was refused

pub if_ok : {T E : Type 0} (result : Result T E) (P Q : T → Type 0) → ((value : T) → P value → Q value) →
    IfOk result P → IfOk result Q
if_ok (Ok value) P Q turn is = turn value is
if_ok (Err fault) P Q turn is = tt

pub on_err : {T E : Type 0} (result : Result T E) (P Q : Type 0) → (P → Q) → OnErr result P → OnErr result Q
on_err (Ok value) P Q turn is = tt
on_err (Err fault) P Q turn is = turn is
