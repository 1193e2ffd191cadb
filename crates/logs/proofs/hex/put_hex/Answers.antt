use Rattle.std.proofs.Common.{arith}
use Rattle.std.proofs.lemmas.Bool.Decides.{nat_tests}
use Rattle.board_prelude.proofs.{hex_number}
use Rattle.logs.proofs.Digits.{low_long}
use Rattle.logs.proofs.hex.put_hex.Goals as goal

pub returns-in-4-clause-words : goal.returns-in-4-clause-words
returns-in-4-clause-words c = grind (arith, nat_tests, hex_number, low_long)
