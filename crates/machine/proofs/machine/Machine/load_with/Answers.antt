use Rattle.std.proofs.Common.{◌≡◌, ◌⊎◌, Result, Err, Ok, arith}
use Rattle.board_prelude.proofs.{nat_tests}
use Rattle.machine.specs.declared.refusal.Refusal.{Refusal}
use Rattle.machine.specs.declared.refusal.Refusal.TheVariants.{NoMemory}
use Rattle.machine.specs.Given.{AreAsMany, Given, on_board, with_given}
use Rattle.machine.specs.Images.{IsSavedState, image_bytes}
use Rattle.machine.specs.Machines.{MachineState, Saved, without_roms}
use Rattle.machine.proofs.GivenParts.{Puts, given_exact, given_loaded, given_refused, given_sound}
use Rattle.machine.proofs.LeftSteps.{loaded_back}
use Rattle.machine.proofs.machine.Machine.load_with.Goals as goal

pub returns-in-Ok : goal.returns-in-Ok
returns-in-Ok c =
    let given : Given = c.args.given.now in
    let result : Result MachineState Refusal = c.with_given.result in
    let loaded : MachineState = c.in-Ok.machine in
    let puts : Puts given loaded result = (c.with_given.ensures.given, c.with_given.ensures.refused) in
    let exact : (any : Saved) → IsSavedState any → c.args.from.now ≡ image_bytes any →
    AreAsMany given any.serial.board.setup →
    (result ≡ Err NoMemory) ⊎ (result ≡ Ok (without_roms (on_board (with_given given) any))) =
    λ any is same fits. given_exact result given loaded any puts (c.in-Ok.ensures.exact any is same) fits in
    let read = c.in-Ok.ensures.loaded in
    record {
      loaded = given_loaded result given loaded c.args.from.now puts read.0 read.1 read.2;
      sound = given_sound result given loaded puts read.0;
      exact = exact;
      back = λ left saved is same own. loaded_back result c.args.from.now given left saved exact is same own;
      refused = given_refused result given loaded c.args.from.now puts read.0 read.1;
    }

pub returns-in-Err-clause-back : goal.returns-in-Err-clause-back
returns-in-Err-clause-back c left saved is same own =
    loaded_back (Err c.in-Err.why) c.args.from.now c.args.given.now left saved
    (λ any sound image fits. grind (arith, nat_tests, c.in-Err.ensures.exact any sound image)) is same own
