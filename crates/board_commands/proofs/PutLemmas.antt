-- The puts that were made, one part of a text after another.
use Rattle.std.proofs.Common.{arith, append_assoc, ℕ, List, [], ◌∷◌, ◌++◌, Option, Some, Result, IsErr}
use Rattle.std.proofs.lemmas.Bool.Decides.{nat_tests}
use Rattle.board_prelude.proofs.{result_ok}
use Rattle.board_outside.specs.Outside.{Put, Made}
use Rattle.board_outside.specs.declared.fault.PutFault.{PutFault}
use Rattle.command_words.specs.Words.{Command}
use Rattle.command_files.specs.declared.status.Status.{Status}
use Rattle.command_files.specs.Statuses.{status_of_put_fault}
use Rattle.command_files.specs.Outcomes.{ShelfCall, IsRefused}
use Rattle.command_files.specs.Calls.{OfCalls}
use Rattle.command_files.proofs.CallLemmas.{calls_hold, call_more, calls_both}
use Rattle.board_commands.specs.Puts.{AllTook, LatestRefused, ArePutsOf, PutsBy}
use Rattle.board_commands.proofs.SentLemmas.{then_sent}

module _ (before between now : Option (List Put)) (so_far : OfCalls before between AllTook) where
  pub took_more :
      (count : ℕ) → Made between now (record { took = Some count }) → OfCalls before now AllTook
  took_more count made = grind (arith, nat_tests, call_more)

  pub then_refused :
      {E : Type 0} (result : Result ℕ E) → IsErr result → Made between now (record { took = result_ok result }) →
      OfCalls before now LatestRefused
  then_refused result is made = grind (arith, nat_tests, call_more)

pub puts_failed : {T E : Type 0} (before now : Option (List Put)) (result : Result T E) → IsErr result →
    OfCalls before now LatestRefused → OfCalls before now (PutsBy result)
puts_failed before now result is refused = grind (arith, nat_tests)

all_took : (later before : List Put) → AllTook later → AllTook before → AllTook (later ++ before)
all_took [] before one two = two
all_took (latest ∷ later) before one two = (one.0, all_took later before one.1 two)

-- the puts of a piece, after those of the pieces before it
pub piece_put : (before between now : Option (List Put)) → OfCalls before between AllTook →
    OfCalls between now AllTook → OfCalls before now AllTook
piece_put before between now so_far made = grind (arith, nat_tests, all_took, append_assoc)

pub piece_not_put : (before between now : Option (List Put)) → OfCalls before between AllTook →
    OfCalls between now LatestRefused → OfCalls before now LatestRefused
piece_not_put before between now so_far made = grind (arith, nat_tests, calls_hold, calls_both, all_took)

pub nothing_put : (command : Command) (shelf : ShelfCall) (status : Status) → IsRefused command shelf status
    → ArePutsOf status []
nothing_put command shelf status refused = grind (arith, nat_tests)

pub put_refused : (fault : PutFault) (made : List Put) → LatestRefused made → ArePutsOf (status_of_put_fault fault) made
put_refused fault made is = grind (arith, nat_tests)

-- `put_piece` is proved by these
pub ruleset put_piece_rules = (then_sent, took_more, then_refused, puts_failed)
