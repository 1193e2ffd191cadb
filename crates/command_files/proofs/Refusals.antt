-- What holds where the shelf tells its files, and of a result that is an error.
use Rattle.std.proofs.Common.{◌≡◌, ℕ, List, Option, Some, Result, Err, IfErr, arith}
use Rattle.board_prelude.proofs.{nat_tests}
use Rattle.board_outside.specs.Outside.{OfFile}
use Rattle.command_files.specs.Known.{Files}
use Rattle.command_files.specs.Outcomes.{OfFiles}

pub of_files : (told : Option Files) (P : Files → Type 0) → ((files : Files) → told ≡ Some files → P files)
    → OfFiles told P
of_files told P each = grind (arith, nat_tests)

pub at_files : (told : Option Files) (files : Files) (P : Files → Type 0) → told ≡ Some files → OfFiles told P → P files
at_files told files P is holds = rw is at holds

pub at_file : (told : Option Files) (files : Files) (name : List ℕ) (P : List ℕ → Type 0) → told ≡ Some files →
    OfFile told name P → P (files name)
at_file told files name P is holds = rw is at holds

pub any_file : (told : Option Files) (name : List ℕ) (P : Type 0) → P → OfFile told name (λ file. P)
any_file told name P holds = grind (arith, nat_tests)

-- this holds of a result that is this error, where it holds of the error
pub holds_of_error :
    {T E : Type 0} (P : E → Type 0) (result : Result T E) (error : E) → result ≡ Err error → P error → IfErr result P
holds_of_error P result error is holds = rw is holds
