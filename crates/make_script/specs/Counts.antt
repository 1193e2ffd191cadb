-- What the parts of a reply count as, and how many entries of each kind a history has.
use Rattle.std.specs.Prelude.{ℕ, ◌≡◌, ◌<◌, ◌^◌, ◌-◌, Bool, List, is_some}
use Rattle.board_prelude.specs.{list_any, Target, Part, Entry}
use Rattle.make_script.specs.Summary.{is_dram, is_shadow, is_smram, is_rom, is_card, is_config, is_device, is_abort}
use Rattle.make_script.specs.Summary.{answers, is_denied, is_look, count_where}
use Rattle.make_script.specs.declared.counts.Marks.{Marks}
use Rattle.make_script.specs.declared.counts.Counts.{Counts}

abbrev pub any_target : (Target → Bool) → List Part → Bool
any_target is_kind parts = list_any (λ part. is_kind part.target) parts

-- the marks of some parts
pub record AreMarks (parts : List Part) (marks : Marks) : Type 0 where
  pub dram : marks.dram ≡ any_target is_dram parts
  pub shadow : marks.shadow ≡ any_target is_shadow parts
  pub smram : marks.smram ≡ any_target is_smram parts
  pub rom : marks.rom ≡ any_target is_rom parts
  pub card : marks.card ≡ any_target is_card parts
  pub config : marks.config ≡ any_target is_config parts
  pub device : marks.device ≡ any_target is_device parts
  pub abort : marks.abort ≡ any_target is_abort parts
  pub denied : marks.denied ≡ list_any (λ part. is_some part.denial) parts

-- the counts of a history
pub record AreCounts (history : List Entry) (counts : Counts) : Type 0 where
  pub dram : counts.dram ≡ count_where (answers is_dram) history
  pub shadow : counts.shadow ≡ count_where (answers is_shadow) history
  pub smram : counts.smram ≡ count_where (answers is_smram) history
  pub rom : counts.rom ≡ count_where (answers is_rom) history
  pub card : counts.card ≡ count_where (answers is_card) history
  pub config : counts.config ≡ count_where (answers is_config) history
  pub device : counts.device ≡ count_where (answers is_device) history
  pub abort : counts.abort ≡ count_where (answers is_abort) history
  pub denied : counts.denied ≡ count_where is_denied history
  pub looks : counts.looks ≡ count_where is_look history

-- a count below this can take one more
abbrev pub most_counted : ℕ
most_counted = 2 ^ 64 - 1

-- each count can take one more
pub record HasRoomForOne (counts : Counts) : Type 0 where
  pub dram : counts.dram < most_counted
  pub shadow : counts.shadow < most_counted
  pub smram : counts.smram < most_counted
  pub rom : counts.rom < most_counted
  pub card : counts.card < most_counted
  pub config : counts.config < most_counted
  pub device : counts.device < most_counted
  pub abort : counts.abort < most_counted
  pub denied : counts.denied < most_counted
  pub looks : counts.looks < most_counted
