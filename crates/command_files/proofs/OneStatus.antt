-- The words and the files ask for at most one status: what was read before a file is determined, and so is what is said
-- of it.
use Rattle.std.proofs.Common.{◌≡◌, ℕ, ◌<◌, ◌≤◌, ◌++◌, ◌⊎◌, inl, inr, List, [], ◌∷◌, length, reverse, Option, Some, None}
use Rattle.std.proofs.Common.{arith, refl, ap, sym, ◌∙◌, subst, append_assoc, append-nil}
use Rattle.board_prelude.proofs.{nat_tests, reverse-append, reverse-reverse}
use Rattle.script_spec.specs.ScriptText.{IsScriptBad}
use Rattle.script_spec.proofs.Chains.{some_is as same_some}
use Rattle.script_spec.proofs.ReadingLaws.{not_both, one_refusal}
use Rattle.script_spec.proofs.ScriptLaws.{one_script}
use Rattle.script_spec.proofs.CheckLaws.{one_difference}
use Rattle.board_image.specs.ImageBytes.{Saved}
use Rattle.board_image.specs.Laws.{OneSpelling}
use Rattle.command_words.specs.Words.{Command, Check, Resume}
use Rattle.command_files.specs.declared.status.Which.{Which}
use Rattle.command_files.specs.declared.status.Which.TheVariants.{Script, Rom, Disk, Image}
use Rattle.command_files.specs.declared.status.Status.{Status}
use Rattle.command_files.specs.declared.status.Status.TheVariants.{Done, TooLong, BadScript, BadImage, Differs}
use Rattle.command_files.specs.declared.status.Status.TheVariants.{OtherBoard}
use Rattle.command_files.specs.Table.{files_of, limit_of}
use Rattle.command_files.specs.Known.{Files, Known, nothing_known, file_name, Learns, Passes, AreReadAs, ComesTo}
use Rattle.command_files.specs.Known.{board_of}
use Rattle.command_files.specs.Asked.{IsNoImage, LogIsLegal, LogDiffers, BoardsAgree, BoardsDiffer, EndsWith, AsksFor}
use Rattle.command_files.specs.Laws.{OneStatus}

-- at most one status holds
abbrev IsOne : (Status → Type 0) → Type 0
IsOne P = (status other : Status) → P status → P other → status ≡ other

-- ---- one file

-- a file within its limit is refused with this status
abbrev IsRefusedAs : Which → (bytes : List ℕ) → Status → Type 0
IsRefusedAs Script bytes status = (line : ℕ) × (why : ℕ) × IsScriptBad bytes line why × (status ≡ BadScript line why)
IsRefusedAs which bytes status = IsNoImage which bytes × (status ≡ BadImage which)

no_image_refused : (which : Which) (bytes : List ℕ) → IsNoImage which bytes → IsRefusedAs which bytes (BadImage which)
no_image_refused Script bytes none = absurd none
no_image_refused _ bytes none = (none, refl)

one_refused : (which : Which) (bytes : List ℕ) → IsOne (IsRefusedAs which bytes)
one_refused Script bytes status other one two =
    let same : (one.0 ≡ two.0) × (one.1 ≡ two.1) = one_refusal bytes one.0 one.1 two.0 two.1 one.2 two.2 in
    cc (one.3, two.3, same.0, same.1)
one_refused _ bytes status other one two = one.1 ∙ sym two.1

-- a file is not both good and refused
apart : (known : Known) (which : Which) (bytes : List ℕ) (status : Status) (now : Known) →
    IsRefusedAs which bytes status → Learns known which bytes now → ⊥
apart known Script bytes status now refused good = not_both bytes good.0 refused.0 refused.1 good.1 refused.2
apart known Rom bytes status now refused good = refused.0 good.0
apart known Disk bytes status now refused good = refused.0 good.0
apart known Image bytes status now refused good =
    refused.0 (record { setup = good.0.setup; steps = good.0.steps; image = good.1; spelled = good.2 })
apart known _ bytes status now refused good = absurd refused.0

same_image : (image other : Saved) → image.setup ≡ other.setup → image.steps ≡ other.steps → image ≡ other
same_image image other setup steps = λ k. record { setup = setup k; steps = steps k }

-- what a file says is determined
one_learned : OneSpelling → (known : Known) (which : Which) (bytes : List ℕ) (now other : Known) →
    Learns known which bytes now → Learns known which bytes other → now ≡ other
one_learned spelling known Script bytes now other one two =
    one.2 ∙ rw (one_script bytes one.0 two.0 one.1 two.1) (sym two.2)
one_learned spelling known Rom bytes now other one two = one.1 ∙ sym two.1
one_learned spelling known Disk bytes now other one two = one.1 ∙ sym two.1
one_learned spelling known Image bytes now other one two =
    let same =
    spelling one.0.setup two.0.setup one.0.steps two.0.steps one.1 two.1 (sym one.2 ∙ two.2) in
    one.3 ∙ rw (same_image one.0 two.0 same.0 same.1) (sym two.3)
one_learned spelling known _ bytes now other one two = one ∙ sym two

-- ---- once all files were read

-- only `check` compares logs, and only `resume` boards
log_apart : (known : Known) (line : ℕ) → LogDiffers known line → LogIsLegal known → ⊥
log_apart known line differs legal = grind (arith, nat_tests)

boards_apart : (known : Known) → BoardsDiffer known → BoardsAgree known → ⊥
boards_apart known differ agree = grind (arith, nat_tests)

one_with : (command : Command) (known : Known) → IsOne (EndsWith command known)
one_with (Check script log) known Done (Differs line) one two = absurd (log_apart known line two one)
one_with (Check script log) known (Differs line) Done one two = absurd (log_apart known line one two)
one_with (Check script log) known (Differs line) (Differs place) one two =
    ap Differs (one_difference (board_of known one.0) one.0.version one.0.phases known.log line place one.2
    (rw (same_some two.0 one.0 (sym two.1 ∙ one.1)) at two.2))
one_with (Check script log) known (Differs line) _ one two = absurd two
one_with (Resume image script) known Done OtherBoard one two = absurd (boards_apart known two one)
one_with (Resume image script) known OtherBoard Done one two = absurd (boards_apart known one two)
one_with (Resume image script) known OtherBoard OtherBoard one two = refl
one_with (Resume image script) known OtherBoard _ one two = absurd two
one_with command known Done Done one two = refl
one_with command known Done _ one two = absurd two
one_with command known _ other one two = absurd one

-- ---- one file after another

-- a command ends at a file that is too long or refused, or goes on past it
abbrev Stage : Files → Known → Which → (name : Option (List ℕ)) → (Later : Known → Status → Type 0) → Status → Type 0
Stage files known which None Later status = Later known status
Stage files known which (Some name) Later status =
    ((limit_of which < length (files name)) × (status ≡ TooLong which))
    ⊎ ((length (files name) ≤ limit_of which) × IsRefusedAs which (files name) status)
    ⊎ ((length (files name) ≤ limit_of which)
    × ((now : Known) × Learns known which (files name) now × Later now status))

-- the first of these files that is too long or refused gives the status
abbrev EndsAt : Command → Files → Known → List Which → Status → Type 0
EndsAt command files known [] status = EndsWith command known status
EndsAt command files known (which ∷ later) status =
    Stage files known which (file_name command known which) (λ now status'. EndsAt command files now later status')
    status

module _ (spelling : OneSpelling) (files : Files) (known : Known) (which : Which) (name : List ℕ)
    (Later : Known → Status → Type 0) (later : (now : Known) → IsOne (Later now)) where
  one_named : IsOne (Stage files known which (Some name) Later)
  one_named status other one two =
      let learned = one_learned spelling in
      grind (arith, nat_tests, one_refused, apart, learned, later)

one_stage : OneSpelling → (files : Files) (known : Known) (which : Which) (name : Option (List ℕ))
    (Later : Known → Status → Type 0) → ((now : Known) → IsOne (Later now)) → IsOne (Stage files known which name Later)
one_stage spelling files known which None Later later = later known
one_stage spelling files known which (Some name) Later later = one_named spelling files known which name Later later

one_end : OneSpelling → (command : Command) (files : Files) (known : Known) (later : List Which) →
    IsOne (EndsAt command files known later)
one_end spelling command files known [] = one_with command known
one_end spelling command files known (which ∷ later) =
    one_stage spelling files known which (file_name command known which)
    (λ now status. EndsAt command files now later status) (λ now. one_end spelling command files now later)

-- ---- from what was read before a file to all files

passed : (files : Files) (before now : Known) (which : Which) (name : Option (List ℕ)) (Later : Known → Status → Type 0)
    (status : Status) → Passes files before which name now → Later now status →
    Stage files before which name Later status
passed files before now which name Later status passes ends = grind (arith, nat_tests)

reverse_on : (before later : List Which) (which : Which)
    → reverse before ++ which ∷ later ≡ reverse (which ∷ before) ++ later
reverse_on before later which =
    rw (reverse-append (which ∷ []) before) (sym (append_assoc (reverse before) (which ∷ []) later))

-- where these files were read first, and the later ones end so, all end so
from_start : (command : Command) (files : Files) (before later : List Which) (known : Known) (status : Status) →
    AreReadAs command files before known → EndsAt command files known later status →
    EndsAt command files nothing_known (reverse before ++ later) status
from_start command files [] later known status read ends = rw read at ends
from_start command files (which ∷ before) later known status read ends =
    rw (← reverse_on before later which)
    (from_start command files before (which ∷ later) read.0 status read.1
    (passed _ _ _ _ _ (λ now status'. EndsAt command files now later status') _ read.2 ends))

-- a command that comes to a file, where it ends so
at_file : (command : Command) (files : Files) (which : Which) (known : Known) (name : List ℕ) (status : Status)
    (comes : ComesTo command files which known name) → Stage files known which (Some name)
    (λ now status'. EndsAt command files now comes.later status') status →
    EndsAt command files nothing_known (files_of command) status
at_file command files which known name status comes ends =
    rw comes.place (from_start _ _ _ _ _ _ comes.read (rw comes.named ends))

at_some : (command : Command) (files : Files) (status : Status) → AsksFor command files status →
    EndsAt command files nothing_known (files_of command) status
at_some command files (TooLong which) asks = at_file _ _ _ _ _ _ asks.comes (inl (asks.holds, refl))
at_some command files (BadScript line why) asks =
    at_file _ _ _ _ _ _ asks.comes (inr (inl (asks.holds.fits, (line, why, asks.holds.holds, refl))))
at_some command files (BadImage which) asks =
    at_file _ _ _ _ _ _ asks.comes (inr (inl (asks.holds.fits, no_image_refused _ _ asks.holds.holds)))
at_some command files status asks =
    subst (λ (whiches : List Which). EndsAt command files nothing_known whiches status) (append-nil
    (reverse (reverse (files_of command))) ∙ reverse-reverse (files_of command)) (from_start _ _ _ [] _ _ asks.1 asks.2)

pub one_status : OneSpelling → OneStatus
one_status spelling = λ command files status other one two.
    one_end spelling command files nothing_known (files_of command) status other
    (at_some command files status one) (at_some command files other two)
