use Rattle.std.proofs.Common.{refl}
use Rattle.board_prelude.proofs.{next_entry}
use Rattle.phase_threads.proofs.cpu.CpuUnrecordedBoardCaller.bus.Goals as goal

pub returns-clause-gone : goal.returns-clause-gone
returns-clause-gone g c =
    let added = c.in_ok-answered.ensures.added in
    record {
      gone = record {
        list = added.list;
        entry = next_entry added.list c.args.self.now.number c.args.event.now c.in_ok-answered.answered.reply;
        begins = added.begins;
        mine = added.own;
        meets = added.meets;
        own = refl;
        said = refl;
        now_is = added.seen;
        known_is = added.known;
      };
      reply_is = refl;
    }
