-- Each look of a script is at an address, since its line has eight digits of one.
use Rattle.std.proofs.Common.{◌<◌, ℕ, List, [], ◌∷◌, ◌++◌, All, filter, map, not, reverse, arith}
use Rattle.std.proofs.lemmas.List.Elements.{All-filter}
use Rattle.std.proofs.lemmas.List.Sorted.{IsPermutation-reverse}
use Rattle.board_prelude.proofs.{All-nil, All-cons, All-head, All-tail, All-append, All-permutation}
use Rattle.board_spec.specs.declared.event.Event.{Event}
use Rattle.board_spec.specs.declared.event.Event.TheVariants.{Look as LookAt}
use Rattle.board_spec.specs.declared.event.Statement.{Statement}
use Rattle.board_spec.specs.FlatMap.{address_count}
use Rattle.board_spec.specs.OrderLaws.{in_file_order}
use Rattle.script_spec.specs.Grammar.{Item, BeginPhase, Ask, IsEventForm}
use Rattle.script_spec.specs.Reasons.{is_setup}
use Rattle.script_spec.specs.ScriptText.{phase_items, Script, IsScriptText}
use Rattle.script_spec.proofs.GoodItems.{AreGood, read_good}

abbrev pub LooksAtAddress : Event → Type 0
LooksAtAddress (LookAt kind addr smm) = addr < address_count
LooksAtAddress _ = Unit {0}

abbrev IsAt : Item → Type 0
IsAt (Ask statement) = LooksAtAddress statement.event
IsAt _ = Unit {0}

of_form : (version : ℕ) (event : Event) → IsEventForm version event → LooksAtAddress event
of_form version (LookAt kind addr smm) form = omega (arith, form)
of_form version _ form = tt

all_at : (version : ℕ) (items : List Item) → AreGood version items → All IsAt items
all_at version [] good = All-nil IsAt
all_at version (Ask statement ∷ before) good =
    All-cons IsAt (Ask statement) before (of_form version statement.event good.0.1) (all_at version before good.2)
all_at version (item ∷ before) good = All-cons IsAt item before tt (all_at version before good.2)

abbrev LookAt32 : Statement → Type 0
LookAt32 statement = LooksAtAddress statement.event

phase_at : (phase : List Statement) (later : List Item) → All IsAt (map Ask phase ++ later) →
    All LookAt32 phase × All IsAt later
phase_at [] later all = (All-nil LookAt32, all)
phase_at (statement ∷ phase) later all =
    let rest = phase_at phase later (All-tail IsAt (Ask statement) (map Ask phase ++ later) all) in
    (All-cons LookAt32 statement phase (All-head IsAt (Ask statement) (map Ask phase ++ later) all) rest.0, rest.1)

phases_at : (phases : List (List Statement)) → All IsAt (phase_items phases) → All LookAt32 (in_file_order phases)
phases_at [] all = All-nil LookAt32
phases_at (phase ∷ later) all =
    let both =
    phase_at phase (phase_items later) (All-tail IsAt BeginPhase (map Ask phase ++ phase_items later) all) in
    All-append LookAt32 phase (in_file_order later) both.0 (phases_at later both.1)

pub looks_at_addresses : (bytes : List ℕ) (script : Script) → IsScriptText bytes script →
    All (λ statement. LooksAtAddress statement.event) (in_file_order script.phases)
looks_at_addresses bytes script text =
    let kept = filter (λ item. not (is_setup item)) text.items in
    let all = all_at script.version text.items (read_good script.version text.later [] text.items text.read tt) in
    let turned : All IsAt (reverse kept) =
    All-permutation IsAt kept (reverse kept) (IsPermutation-reverse kept)
    (All-filter (λ item. not (is_setup item)) IsAt text.items all) in
    phases_at script.phases (rw text.said.phases at turned)
