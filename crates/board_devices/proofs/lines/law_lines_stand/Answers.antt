use Rattle.board_devices.proofs.StandingLines.{access_leaves_lines, still_leaves_lines, acknowledge_leaves_lines}
use Rattle.board_devices.proofs.lines.law_lines_stand.Goals as goal

pub returns : goal.returns
returns c = record { access = access_leaves_lines; still = still_leaves_lines; acknowledge = acknowledge_leaves_lines }
