use Rattle.std.proofs.lemmas.Bool.Decides.{nat_tests}
use Rattle.std.proofs.Common.{ℕ, ◌≡◌, ◌+◌, ◌-◌, ◌∷◌, List, drop, get_or, length, ap, arith, sym, zero, suc, ◌<◌, []}
use Rattle.std.proofs.Common.{◌++◌}
use Rattle.board_prelude.proofs.{length-append, length-drop, drop_more}
use Rattle.std.specs.Str.{IsAscii}
use Rattle.logs.proofs.tail.Tail.put.Goals as goal

ascii_one : (x : ℕ) → x < 128 → IsAscii (x ∷ [])
ascii_one x small zero = small
ascii_one x small (suc i) = omega arith

-- the words that were put last, one character further to the front
one_more :
    (xs old : List ℕ) (i left : ℕ) → i + 1 ≡ left → i < length xs
    → get_or xs i 0 ∷ (drop left xs ++ old) ≡ drop i xs ++ old
one_more xs old i left same within = rw (← same) (ap (λ (t : List ℕ). t ++ old) (sym (drop_more xs i 0 within)))

pub put_one-requires-clause-ascii : goal.put_one-requires-clause-ascii
put_one-requires-clause-ascii c = ascii_one _ (c.requires.ascii (c.loop-left.left - 1))

pub put_one-requires-clause-room : goal.put_one-requires-clause-room
put_one-requires-clause-room c = grind (arith, nat_tests, length-append, length-drop)

pub loop-left-preserved : goal.loop-left-preserved
loop-left-preserved c = grind (arith, nat_tests, length-append, length-drop, drop_more, ascii_one, one_more)
