use Rattle.std.proofs.Common.{rules}
use Rattle.command_files.proofs.CallLemmas.{read_end, read_piece}
use Rattle.command_files.proofs.files.read_file.Goals as goal

pub returns-then-taken-eq0-clause-fetches : goal.returns-then-taken-eq0-clause-fetches
returns-then-taken-eq0-clause-fetches g c =
    read_end _ _ _ _ _ _ (search rules) c.loop-shelf.invariant.fetches _ c.if-taken-eq0.true c.in_ok-taken.ensures.once

pub loop-shelf-preserved : goal.loop-shelf-preserved
loop-shelf-preserved g c =
    record {
      front = search rules;
      room = search rules;
      no_fault = search rules;
      same = search rules;
      fetches =
          rw c.in_ok-taken.ensures.grows (read_piece _ _ _ _ _ _ (search rules) c.loop-shelf.invariant.fetches _
          c.if-taken-eq0.false c.in_ok-taken.ensures.once);
    }
