-- The numbers of a report are those of changes.
use Rattle.std.proofs.lemmas.Bool.Decides.{nat_tests}
use Rattle.std.proofs.Common.{◌≡◌, ℕ, ◌-◌, ◌≤◌, true, List, length, get_or, subst, arith, refl, All, ◌==◌, ◌++◌}
use Rattle.std.proofs.Common.{flat_map, Result, IfOk}
use Rattle.board_prelude.proofs.{eq-eqb, length-map, list_any_at, MapChange, Setup, Entry, IsReplayOf, map_writes_of}
use Rattle.board_prelude.proofs.{registers_after, IsRight}
use Rattle.std.proofs.Math.ListN.{get_or-map}
use Rattle.map_blame.specs.declared.blamed.Blamed.{Blamed}
use Rattle.map_blame.specs.Keep.{is_among, IsKeep}
use Rattle.map_blame.specs.Report.{map_range_of, AreBlamed, IsBlame}
use Rattle.script_spec.specs.ScriptText.{Script as Said}
use Rattle.script_spec.specs.ScriptRange.{statements_in}
use Rattle.command_texts.specs.Blame.{blamed_text, keep_text, IsBlameText}
use Rattle.map_blame.proofs.KeptLemmas.{kept_number}

pub all_since : (setup : Setup) (changes : List MapChange) (ranges : List Blamed) (count : ℕ) → length changes ≡ count →
    AreBlamed setup changes ranges → All (λ blamed. blamed.since ≤ count) ranges
all_since setup changes ranges count all are = λ k d below.
    let right : IsRight setup (registers_after setup changes) (map_range_of (get_or ranges k d)) =
    subst (IsRight setup (registers_after setup changes)) (get_or-map map_range_of ranges k d)
    (are.map.right k (map_range_of d) (omega (arith, below, length-map ranges map_range_of))) in
    let most = (are.since k d below).least (length changes)
    (λ since low high. let none : length changes - since ≡ 0 = omega (arith, low, high) in rw none right) in
    omega (arith, most, all)

pub all_kept : (setup : Setup) (changes : List MapChange) (keep : List ℕ) (count : ℕ) → length changes ≡ count →
    IsKeep setup changes keep → All (λ version. version ≤ count) keep
all_kept setup changes keep count all is = λ k d below.
    let number : ℕ = get_or keep k d in
    let among : is_among number keep ≡ true =
    list_any_at (λ other. other == number) keep k d below (eq-eqb number number refl) in
    omega (arith, (kept_number setup changes number (is.only number among)).most, all)

pub blame_text : {E : Type 0} (result : Result (List ℕ) E) (old new : Setup) (script : Said) (history : List Entry)
    (changes : List MapChange) (ranges : List Blamed) (keep : List ℕ) → new ≡ old →
    changes ≡ map_writes_of new history → IsReplayOf old (statements_in script) history →
    IsBlame new changes ranges keep →
    IfOk result (λ text. text ≡ flat_map (blamed_text new history) ranges ++ flat_map (keep_text new history) keep) →
    IfOk result (λ text. IsBlameText old script text)
blame_text result old new script history changes ranges keep same writes replay is lines = grind (arith, nat_tests)
