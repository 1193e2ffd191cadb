-- The lines of the ranges so far.
use Rattle.std.proofs.Common.{◌≡◌, ◌++◌, take, List, string_bytes, flat_map}
use Rattle.board_prelude.proofs.{Entry, Setup}
use Rattle.command_texts.specs.Blame.{blamed_text}
use Rattle.command_texts.specs.Writes.{AreWritesOf}
use Rattle.command_texts.proofs.blame.push_ranges.Given as goal

abbrev pub invariant-loop-blamed : goal.invariant-loop-blamed
invariant-loop-blamed l =
    (setup : Setup) (history : List Entry) → AreWritesOf setup history l.writes →
    string_bytes l.text ≡ string_bytes l.fn.text ++ flat_map (blamed_text setup history) (take l.blamed-index l.ranges)
