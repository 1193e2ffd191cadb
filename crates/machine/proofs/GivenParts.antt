-- A machine that was loaded, with the bytes that are given.
use Rattle.std.proofs.Common.{arith, ◌≡◌, ℕ, ◌⊎◌, List, [], Result, Ok, Err, IfOk, IfErr}
use Rattle.board_prelude.proofs.{nat_tests}
use Rattle.machine.specs.declared.refusal.Refusal.{Refusal}
use Rattle.machine.specs.declared.refusal.Refusal.TheVariants.{BadLength, NoMemory}
use Rattle.machine.specs.Given.{AreAsMany, Given, IsGivenBoard, IsGivenRefusal, on_board, with_given}
use Rattle.machine.specs.Images.{IsSavedState, image_bytes}
use Rattle.machine.specs.Machines.{MachineState, Saved, without_roms}
use Rattle.machine.proofs.LeftSteps.{sound_with}

-- what a call says that puts them in
abbrev pub Puts : Given → MachineState → Result MachineState Refusal → Type 0
Puts given loaded result =
    IfOk result (λ it. (it ≡ record loaded { saved = on_board (with_given given) loaded.saved })
    × AreAsMany given loaded.saved.serial.board.setup)
    × IfErr result (λ why. (why ≡ BadLength) × ¬ AreAsMany given loaded.saved.serial.board.setup)

pub given_loaded : (result : Result MachineState Refusal) (given : Given) (loaded : MachineState) (bytes : List ℕ) →
    Puts given loaded result → IsSavedState loaded.saved → bytes ≡ image_bytes loaded.saved → loaded.roms ≡ [] →
    IfOk result (λ it. (it.roms ≡ []) × IsGivenBoard bytes given it.saved)
given_loaded result given loaded bytes puts sound image none = grind (arith, nat_tests)

-- and steps can go on from it
pub given_sound : (result : Result MachineState Refusal) (given : Given) (loaded : MachineState) →
    Puts given loaded result → IsSavedState loaded.saved → IfOk result (λ it. IsSavedState it.saved)
given_sound result given loaded puts sound = grind (arith, nat_tests, sound_with given loaded.saved)

pub given_refused : (result : Result MachineState Refusal) (given : Given) (loaded : MachineState) (bytes : List ℕ) →
    Puts given loaded result → IsSavedState loaded.saved → bytes ≡ image_bytes loaded.saved →
    IfErr result (IsGivenRefusal bytes given)
given_refused result given loaded bytes puts sound image = grind (arith, nat_tests)

pub given_exact :
    (result : Result MachineState Refusal) (given : Given) (loaded : MachineState) (saved : Saved) →
    Puts given loaded result →
    let read : Result MachineState Refusal = Ok loaded in
    (read ≡ Err NoMemory) ⊎ (read ≡ Ok (without_roms saved)) → AreAsMany given saved.serial.board.setup →
    (result ≡ Err NoMemory) ⊎ (result ≡ Ok (without_roms (on_board (with_given given) saved)))
given_exact result given loaded saved puts read as_many = grind (arith, nat_tests)
