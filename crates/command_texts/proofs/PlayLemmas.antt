-- One statement more of a replay that keeps no history.
use Rattle.std.proofs.Common.{ℕ, ◌≡◌, ◌+◌, ◌<◌, List, [], ◌∷◌, ◌++◌, length, take, get_or, append_assoc}
use Rattle.board_prelude.proofs.{take_more, Entry, statements-newest, Setup, IsReplayOf}
use Rattle.board_prelude.specs.{Statement, byte_of, IsFlatMapOf, MapRange, map_text}
use Rattle.board_spec.specs.declared.event.Reply.{Reply}
use Rattle.board_core.specs.Kept.{Playing, HasPlayed, entry_of}
use Rattle.script_spec.specs.ScriptText.{Script as Said}
use Rattle.script_spec.specs.ScriptRange.{statements_in}
use Rattle.command_texts.specs.Plays.{HasDone}
use Rattle.command_texts.specs.Replays.{IsMapText}

pub done_answered :
    (now new : Playing) (said phase : List Statement) (i : ℕ) (d : Statement) (reply : Reply) → i < length phase →
    ((history : List Entry) → HasPlayed now history →
    HasPlayed new (entry_of new (get_or phase i d).actor (get_or phase i d).event reply ∷ history)) →
    HasDone now (said ++ take i phase) → HasDone new (said ++ take (i + 1) phase)
done_answered now new said phase i d reply within played so_far =
    let here : Statement = get_or phase i d in
    let entry : Entry = entry_of new here.actor here.event reply in
    record {
      history = entry ∷ so_far.history;
      played = played so_far.history so_far.played;
      same =
          rw (statements-newest entry so_far.history, so_far.same, take_more phase i d within)
          (append_assoc said (take i phase) (here ∷ []));
    }

-- the map of the board that is left is the one after the replay of the script
pub map_played : (setup : Setup) (script : Said) (replay : Playing) (ranges : List MapRange) (text : List ℕ) →
    replay.chipset.setup ≡ setup → HasDone replay (statements_in script) →
    ((history : List Entry) → HasPlayed replay history →
    IsFlatMapOf replay.chipset.setup (byte_of replay.chipset.setup history) ranges) →
    text ≡ map_text ranges → IsMapText setup script text
map_played setup script replay ranges text is done flat lines = record {
  history = done.history;
  ranges = ranges;
  replay = record { legal = rw (← is) done.played.legal; same = done.same };
  map = rw (← is) (flat done.history done.played);
  lines = lines;
}
