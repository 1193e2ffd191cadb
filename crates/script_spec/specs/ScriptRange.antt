-- What can be relied on in a script that a text says.
use Rattle.std.specs.Prelude.{ℕ, ◌≡◌, ◌≤◌, List, length, All, flat_map, sum_by, Option, Some, None}
use Rattle.board_prelude.specs.{Statement, most_statements, most_phases, most_pulses, most_card_memory, Setup}
use Rattle.board_prelude.specs.{IsCardList, memory_of_cards, IsScripted}
use Rattle.script_spec.specs.Grammar.{IsName}
use Rattle.script_spec.specs.Reasons.{largest_cpus, largest_mib, pulses_of_event}
use Rattle.script_spec.specs.ScriptText.{Script, IsVersion}

abbrev pub IsDiskName : Option (List ℕ) → Type 0
IsDiskName None = Unit {0}
IsDiskName (Some name) = IsName name

-- the statements of all phases in the order of the file
abbrev pub statements_in : Script → List Statement
statements_in script = flat_map (λ phase. phase) script.phases

-- the numbers, statements and totals of a script are in range
pub record IsInRangeScript (script : Script) : Type 0 where
  pub version : IsVersion script.version
  pub some_cpus : 1 ≤ script.cpus
  pub most_cpus : script.cpus ≤ largest_cpus
  pub some_memory : 1 ≤ script.mib
  pub most_memory : script.mib ≤ largest_mib
  pub rom : IsName script.rom
  pub disk : IsDiskName script.disk
  pub cards : IsCardList script.cards
  pub windows : memory_of_cards script.cards ≤ most_card_memory
  pub each :
      (setup : Setup) → setup.cards ≡ script.cards →
      All (IsScripted setup script.version script.cpus) (statements_in script)
  pub statements : length (statements_in script) ≤ most_statements
  pub phases : length script.phases ≤ most_phases
  pub pulses : sum_by (λ statement. pulses_of_event statement.event) (statements_in script) ≤ most_pulses
