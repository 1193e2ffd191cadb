-- What a bus master reaches, as a record: never SMRAM, nor memory in its range.
use Rattle.std.proofs.Common.{◌≡◌, ◌≢◌, ℕ, ◌≤◌, ◌⊎◌, false, Option, sym, ◌∙◌, arith}
use Rattle.board_prelude.proofs.{nat_tests, Target, Smram, Denial, is_smram_range}
use Rattle.board_chipset.specs.Masters.{IsOutsideSmram}
use Rattle.machine_records.specs.Numbers.{dram_target, shadow_target, smram_target}
use Rattle.machine_records.specs.Replies.{part_said, target_said}

pub said_target : (target : Target) (denial : Option Denial) →
    (part_said target denial).target ≡ (target_said target).target
unfolding part_said
said_target target denial = grind (arith, nat_tests)

no_smram_target : (target : Target) → target ≢ Smram → (target_said target).target ≢ smram_target
no_smram_target target other is = grind (arith, nat_tests)

pub no_smram_said : (target : Target) (denial : Option Denial) → target ≢ Smram →
    (part_said target denial).target ≢ smram_target
no_smram_said target denial other = λ is. no_smram_target target other (sym (said_target target denial) ∙ is)

abbrev pub IsMemory : ℕ → Type 0
IsMemory target = (target ≡ dram_target) ⊎ (target ≡ shadow_target)

pub no_memory : (target : ℕ) → 3 ≤ target → IsMemory target → ⊥
no_memory target past is = grind arith

pub outside_said : (target : Target) (denial : Option Denial) (addr : ℕ) → IsOutsideSmram target addr →
    IsMemory (part_said target denial).target → is_smram_range addr ≡ false
outside_said target denial addr outside is = grind (arith, nat_tests, said_target)
