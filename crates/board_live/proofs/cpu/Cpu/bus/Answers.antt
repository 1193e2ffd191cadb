use Rattle.std.proofs.Common.{append_assoc, rules, ◌≡◌, ◌∷◌, [], reverse, sym, ap, ◌∙◌, refl, arith}
use Rattle.board_prelude.proofs.{reverse-append, reverse-reverse, Entry, next_entry, map_writes_of}
use Rattle.bus_turn.specs.Passes.{opened_of as opened_by, seen_of as seen_in, mine_of as mine_in}
use Rattle.bus_turn.specs.Passes.{IsSameCaller as IsSamePass}
use Rattle.bus_turn.specs.Views.{own_by}
use Rattle.bus_turn.proofs.Rows.{prefix_trans, own_more, drop_front}
use Rattle.board_live.specs.Steps.{IsSameBoard, board_of}
use Rattle.board_live.specs.Passes.{setup_in}
use Rattle.board_live.proofs.CallerTurns.{by_actor, Finds, finds, known_left, own_first, has_learnt}
use Rattle.board_live.proofs.cpu.Cpu.bus.Given.{Over}
use Rattle.board_live.proofs.cpu.Cpu.bus.Goals.{After-enter-held}
use Rattle.std.proofs.lemmas.Bool.Decides.{nat_tests}
use Rattle.board_live.proofs.cpu.Cpu.bus.Goals as goal

-- the shared board as the caller finds it
found : (g : Over) (c : After-enter-held g) → Finds c.args.self.now c.enter-held.result.value
found g c =
    let e = c.enter-held.ensures in
    finds c.args.self.now c.enter-held.result.value e.begins e.opened e.mine e.part e.meets

pub step-requires-clause-few : goal.step-requires-clause-few
step-requires-clause-few g c = rw (found g (goal.at.step-requires-clause-few g c).After-enter-held).own c.requires.room

pub commit-requires-clause-adds : goal.commit-requires-clause-adds
commit-requires-clause-adds g c =
    let cpu = c.args.self.now in let held = c.enter-held.result.value in
    let entry : Entry = next_entry (board_of held).entries cpu.number c.args.event.now c.in-Ok.answered.reply in
    let turned = reverse-append (entry ∷ []) (board_of held).entries in
    (entry, grind (arith, turned, c.step.ensures, c.enter-held.ensures), search rules)

pub leave-requires-clause-begins : goal.leave-requires-clause-begins
leave-requires-clause-begins g c =
    let trans = prefix_trans c.args.self.now.viewer.front.seen.log
    c.enter-held.result.value.publisher.value.front.seen.log c.step.new.self.publisher.value.front.seen.log
    c.enter-held.ensures.meets c.step.ensures.later in
    grind (arith, trans, c.enter-held.ensures, c.commit.ensures)

pub invariant_of-self : goal.invariant_of-self
invariant_of-self g c =
    let cpu = c.args.self.now in let held = c.enter-held.result.value in
    let found = found g (goal.at.invariant_of-self g c).After-enter-held in
    let same : IsSamePass cpu.pass c.leave.new.pass = search rules in
    let entry : Entry = next_entry (board_of held).entries cpu.number c.args.event.now c.in-Ok.answered.reply in
    let entries : (board_of c.step.new.self).entries ≡ entry ∷ (board_of held).entries = search rules in
    let list = reverse (board_of held).entries in let turned = reverse-append (entry ∷ []) (board_of held).entries in
    let own = own_more by_actor cpu.number list entry refl in let passed = cpu.passed in let opens = cpu.opens in
    let last = drop_front list (entry ∷ []) in let left = c.leave.ensures in let entered = c.enter-held.ensures in
    let told = c.commit.ensures in
    let joined = append_assoc (own_by by_actor cpu.number (opened_by cpu.pass)) (mine_in cpu.pass) (entry ∷ []) in
    grind (arith, nat_tests, found, same, entries, turned, own, passed, opens, last, joined, left, told, entered)

pub invariant_of-self-in-Err : goal.invariant_of-self-in-Err
invariant_of-self-in-Err g c =
    let found = found g (goal.at.invariant_of-self-in-Err g c).After-enter-held in
    let passed = c.args.self.now.passed in let opens = c.args.self.now.opens in
    grind (arith, nat_tests, found, passed, opens, c.leave-in-Err.ensures, c.enter-held.ensures)

pub returns-in-Ok-clause-added : goal.returns-in-Ok-clause-added
returns-in-Ok-clause-added g c =
    let cpu = c.args.self.now in let held = c.enter-held.result.value in
    let pass = cpu.pass in
    let now = c.leave.new.pass in
    let found = found g (goal.at.returns-in-Ok-clause-added g c).After-enter-held in
    let same : IsSamePass pass now = search rules in
    let stepped : IsSameBoard held c.step.new.self = c.step.ensures.same in
    let entry : Entry = next_entry (board_of held).entries cpu.number c.args.event.now c.in-Ok.answered.reply in
    let entries : (board_of c.step.new.self).entries ≡ entry ∷ (board_of held).entries = search rules in
    let listed : seen_in now ≡ reverse (board_of c.step.new.self).entries = search rules in
    let seen : reverse (seen_in now) ≡ entry ∷ (board_of held).entries =
    ap reverse listed ∙ (reverse-reverse (board_of c.step.new.self).entries ∙ entries) in
    let known = known_left pass now c.step.new.self c.leave.new.viewer.front.seen.log same (search rules)
    (found.setup ∙ sym stepped.setup) (found.opened ∙ sym stepped.opened) in
    record {
      list = (board_of held).entries;
      begins = found.begins;
      own = found.own;
      meets = found.meets;
      place = search rules;
      answer = rw found.setup (search rules);
      seen = seen;
      mine = rw (seen, own_first cpu.number entry (board_of held).entries refl, found.own) refl;
      known = known ∙ ap (map_writes_of (setup_in pass)) (entries ∙ sym seen);
    }

pub returns-in-Err-clause-refused : goal.returns-in-Err-clause-refused
returns-in-Err-clause-refused g c =
    has_learnt (found g (goal.at.returns-in-Err-clause-refused g c).After-enter-held) refl (search rules)
    (search rules) (search rules)
