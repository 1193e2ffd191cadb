use Rattle.promises.proofs.CallerPlaces.{looked}
use Rattle.promises.proofs.caller.look_never_back.Goals as goal

pub returns : goal.returns
returns c = record {
  same = c.look.ensures.pass.0;
  look =
      looked c.args.kind c.args.addr c.args.smm c.look.result c.args.cpu.now c.look.new.self c.look.ensures.pass
      c.look.ensures.later c.look.ensures.look;
}
