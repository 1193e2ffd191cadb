-- The lines of the map writes so far.
use Rattle.std.proofs.Common.{◌≡◌, ◌++◌, take, List, string_bytes, flat_map}
use Rattle.board_prelude.proofs.{Entry, Setup}
use Rattle.command_texts.specs.Blame.{keep_text}
use Rattle.command_texts.specs.Writes.{AreWritesOf}
use Rattle.command_texts.proofs.blame.push_keeps.Given as goal

abbrev pub invariant-loop-version : goal.invariant-loop-version
invariant-loop-version l =
    (setup : Setup) (history : List Entry) → AreWritesOf setup history l.writes →
    string_bytes l.text ≡ string_bytes l.fn.text ++ flat_map (keep_text setup history) (take l.version-index l.keep)
