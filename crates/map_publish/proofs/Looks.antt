-- Looks, by the map writes from reset on.
use Rattle.std.proofs.Common.{arith, length-append}
use Rattle.board_prelude.proofs.{registers_after}
use Rattle.map_publish.specs.Lists.{changes_of}
use Rattle.map_publish.specs.Laws.{LooksGoOn}
use Rattle.map_publish.proofs.Changes.{registers_after_more}

pub looks_go_on : LooksGoOn
looks_go_on setup earlier log addr kind smm look opened seen = record {
  version = omega (arith, seen.version, opened.version, length-append (changes_of log) earlier);
  span = rw (registers_after_more setup (changes_of log) earlier)
      at (seen.span setup (registers_after setup earlier) opened.stands);
}
