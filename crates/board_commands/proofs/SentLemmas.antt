-- What a sink took of a text, piece after piece.
use Rattle.std.proofs.Common.{arith, ◌≡◌, ℕ, ◌+◌, ◌<◌, List, [], ◌++◌, Option, length, get_or, take, drop, refl}
use Rattle.std.proofs.Common.{append_assoc, append-nil, Vec, Result, OnErr}
use Rattle.std.proofs.lemmas.Bool.Decides.{nat_tests}
use Rattle.board_prelude.proofs.{Global, take-append-drop, flat_map-cons, Appends}
use Rattle.std.proofs.lemmas.List.{at_drop_more}
use Rattle.logs.specs.Text.{bytes_in, joined}
use Rattle.board_commands.specs.Output.{Sent, AppendsFront}

pub more_taken : (before now later : Option (List ℕ)) (front piece : List ℕ) → Appends before now front →
    Appends now later piece → Appends before later (front ++ piece)
more_taken before now later front piece sent more = grind (arith, nat_tests, append_assoc)

-- so it is with what is left after the piece
pub then_sent : (before now later : Option (List ℕ)) (text rest left : List ℕ) (k : ℕ) → left ≡ drop k rest →
    Sent before now text rest → Appends now later (take k rest) → Sent before later text left
then_sent before now later text rest left k is sent more =
    grind (arith, nat_tests, append_assoc, more_taken, take-append-drop)

nothing_taken : (known : Option (List ℕ)) → Appends known known []
nothing_taken known = grind (arith, nat_tests, append-nil)

pub nothing_sent : (known : Option (List ℕ)) (text : List ℕ) → Sent known known text text
nothing_sent known text = record { front = []; whole = refl; taken = nothing_taken known }

-- the pieces from one on, whose next has these bytes
module _ (before now later : Option (List ℕ)) (text : List ℕ) (pieces : List (Vec ℕ Global)) (i : ℕ)
    (piece : Vec ℕ Global) (bytes : List ℕ) (inside : i < length pieces)
    (is : piece ≡ get_or pieces i piece) (same : bytes ≡ piece.items)
    (sent : Sent before now text (joined (drop i pieces))) where
  abbrev more : List ℕ
  more = joined (drop (i + 1) pieces)

  next_piece : joined (drop i pieces) ≡ bytes ++ more
  next_piece =
      rw (
        at_drop_more joined pieces i piece inside,
        flat_map-cons bytes_in (get_or pieces i piece) (drop (i + 1) pieces),
        ← is,
        same,
      ) refl

  pub then_piece_sent : Appends now later bytes → Sent before later text more
  then_piece_sent taken = grind (arith, nat_tests, next_piece, append_assoc, more_taken)

  pub then_piece_refused : {T E : Type 0} (result : Result T E) → AppendsFront now later bytes
      → OnErr result (AppendsFront before later text)
  then_piece_refused result taken = grind (arith, nat_tests, next_piece, append_assoc, more_taken)
