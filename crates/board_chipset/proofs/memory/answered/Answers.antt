use Rattle.std.proofs.Common.{refl}
use Rattle.board_chipset.proofs.StateSteps.{state_put, state_stays, writes_none}
use Rattle.board_chipset.proofs.MemorySteps.{writes_when, ready_in}
use Rattle.board_chipset.proofs.memory.answered.Goals as goal

pub write-requires-clause-ready : goal.write-requires-clause-ready
write-requires-clause-ready c = (c.args.rom.now, ready_in c.requires.kept c.requires.bus c.requires.decoded)

pub returns-then-is_write-clause-board : goal.returns-then-is_write-clause-board
returns-then-is_write-clause-board c = λ setup history entry kept image event replied.
    state_put kept (writes_none setup history entry.event (λ port is. cc)) (rw event tt)
    (λ cell. rw (event, replied) refl) c.write.ensures.put

pub returns-clause-board : goal.returns-clause-board
returns-clause-board c = λ setup history entry kept image event replied.
    let reads = writes_when c.is_write.ensures.write c.if-is_write.false in
    state_stays kept (writes_none setup history entry.event (λ port is. cc)) (rw event tt)
    (λ cell. rw (event, replied, reads) refl)
