use Rattle.std.proofs.Common.{◌≡◌, ℕ, ◌+◌, List, ◌++◌, Option, Some, None, take, drop, length, rules}
use Rattle.std.proofs.Math.Seq.{take-add}
use Rattle.board_outside.specs.Outside.{OfFile}
use Rattle.command_files.specs.Files.{IsLongerFront}
use Rattle.command_files.proofs.files.read_on.Goals as goal

-- a front of a file that grows by the file's next piece is a front again
longer_front : (files : Option (List ℕ → List ℕ)) (name before now into : List ℕ) (k at : ℕ) → at ≡ length before →
    OfFile files name (λ file. take k into ≡ take k (drop at file)) → now ≡ before ++ take k into →
    length now ≡ length before + k → OfFile files name (IsLongerFront before now)
longer_front None name before now into k at place piece more long = tt
longer_front (Some file_of) name before now into k at place piece more long = λ front.
    cc (more, piece, place, front, take-add (length before) k (file_of name), long)

pub returns-clause-front : goal.returns-clause-front
returns-clause-front g c =
    longer_front _ _ _ _ _
    _ _ (search rules) c.in_ok-taken.ensures.bytes (search rules) (search rules)
