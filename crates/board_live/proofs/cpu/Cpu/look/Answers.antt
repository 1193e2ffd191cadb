use Rattle.map_publish.specs.Lists.{opened_of}
use Rattle.board_live.specs.Known.{IsMapOpened}
use Rattle.board_live.specs.Passes.{setup_in, opened_in}
use Rattle.board_live.proofs.Histories.{known_extend}
use Rattle.board_spec.specs.MapWrites.{map_writes_of}
use Rattle.map_publish.proofs.Looks.{looks_go_on}
use Rattle.board_live.proofs.cpu.Cpu.look.Goals as goal

pub returns-clause-later : goal.returns-clause-later
returns-clause-later g c =
    let pass = c.args.self.now.pass in
    known_extend (setup_in pass) (opened_in pass) c.args.self.now.viewer.front.seen.log c.look.new.self.front.seen.log
    c.look.ensures.later

pub returns-clause-look : goal.returns-clause-look
returns-clause-look g c =
    let pass = c.args.self.now.pass in let log = c.look.new.self.front.seen.log in
    let opens : IsMapOpened (setup_in pass) (opened_in pass) (opened_of log) =
    rw c.look.ensures.opened c.args.self.now.opens in
    looks_go_on (setup_in pass) (map_writes_of (setup_in pass) (opened_in pass)) log c.args.addr c.args.kind c.args.smm
    c.look.result opens c.look.ensures.look
