use Rattle.std.proofs.Common.{rules, ◌≡◌, ◌+◌, [], ◌∷◌, ◌++◌, length, drop, ap, ◌∙◌, arith, length-append}
use Rattle.std.proofs.lemmas.List.Elements.{All-cons, All-weaker}
use Rattle.bus_turn.specs.Passes.{number_of, mine_of as mine_in, joined_of}
use Rattle.bus_turn.proofs.Rows.{prefix_trans}
use Rattle.board_live.specs.Joins.{IsJoined}
use Rattle.board_live.proofs.CallerTurns.{popped, joined_more, joined_new}
use Rattle.board_live.proofs.live.Live.join.Goals as goal

pub loop-cpu-preserved : goal.loop-cpu-preserved
loop-cpu-preserved g c =
    let i = c.loop-cpu.invariant in let whole = c.args.cpus.items in let items = c.loop-cpu.cpus.items in
    let rest = c.pop.new.self.items in let cpu = c.in-Some.cpu in let now = c.catch_up.new.self in
    let pass = c.join.new.pass in
    let is : items ≡ rest ++ cpu ∷ [] = search rules in
    let both = popped whole items rest cpu i.left is in
    let added = c.join.ensures.joined in
    let more = (number_of now.pass, mine_in now.pass) ∷ joined_of now.pass in
    let long = ap length added ∙ length-append (joined_of c.loop-cpu.pass) more in
    let fewer : length items ≡ length rest + 1 = ap length is ∙ length-append rest (cpu ∷ []) in
    let before =
    All-weaker (IsJoined c.loop-cpu.pass) (IsJoined pass)
    (λ other. joined_more c.loop-cpu.pass pass more other c.join.ensures.seen.0 added)
    (drop (length items) whole) i.joined in
    let this =
    joined_new c.loop-cpu.pass pass c.catch_up.ensures.same c.catch_up.ensures.seen c.join.ensures.seen.1 added in
    record {
      own = c.join.ensures.own;
      idle = c.join.ensures.idle;
      same = search rules;
      left = both.0;
      count = omega (arith, i.count, long, ap length now.passed.joined, fewer);
      seen = prefix_trans _ _ _ i.seen c.join.ensures.seen.0;
      joined = rw both.1 (All-cons (IsJoined pass) cpu (drop (length items) whole) this before);
    }

pub returns-clause-joined : goal.returns-clause-joined
returns-clause-joined g c =
    let none : length c.loop-cpu.cpus.items ≡ 0 = search rules in
    rw none at c.loop-cpu.invariant.joined
