use Rattle.std.proofs.Common.{rules, ◌≡◌, ◌+◌, Some, [], ◌∷◌, ◌++◌, length, ap, ◌∙◌, arith, length-append}
use Rattle.board_prelude.proofs.{All-nil, All-push}
use Rattle.std.proofs.lemmas.List.Elements.{All-pop}
use Rattle.board_live.specs.Passes.{IsViewerFor}
use Rattle.board_live.specs.Callers.{IsCallerOf, IsNewOf}
use Rattle.board_live.proofs.Opening.{viewer_for, new_of, numbers_more}
use Rattle.board_live.proofs.live.Live.callers.Goals as goal

pub loop-viewer-init : goal.loop-viewer-init
loop-viewer-init g c =
    let pass = c.args.pass in
    let is : c.args.viewers.items ≡ c.pop.new.self.items ++ c.unwrap-first.result ∷ [] = search rules in
    let viewers = All-pop (IsViewerFor pass) c.args.viewers.items c.pop.new.self.items
    (Some c.unwrap-first.result) is c.requires.viewers in
    let none = c.requires.room.0 in
    let no_cpus : length c.args.cpus.items ≡ 0 = ap length none in
    let long = simp length-append at (ap length is) in
    let callers = All-nil (IsCallerOf c.args.self.now) in let new = All-nil (IsNewOf pass) in
    grind (arith, c.requires, viewers, none, no_cpus, long, callers, new)

pub new-requires-clause-viewer : goal.new-requires-clause-viewer
new-requires-clause-viewer g c =
    let i = c.loop-viewer.invariant in
    let viewers = All-pop (IsViewerFor c.args.pass) c.loop-viewer.viewers.items c.pop-in-loop-viewer.new.self.items
    (Some c.in-Some.viewer) (search rules) i.viewers in
    grind (arith, i, viewers, c.split-further.ensures, viewer_for)

pub loop-viewer-preserved : goal.loop-viewer-preserved
loop-viewer-preserved g c =
    let i = c.loop-viewer.invariant in let cpus = c.loop-viewer.cpus.items in
    let all = c.push.new.self.items in let cpu = c.new.result in
    let is : c.loop-viewer.viewers.items ≡ c.pop-in-loop-viewer.new.self.items ++ c.in-Some.viewer ∷ [] =
    search rules in
    let viewers = All-pop (IsViewerFor c.args.pass) c.loop-viewer.viewers.items c.pop-in-loop-viewer.new.self.items
    (Some c.in-Some.viewer) is i.viewers in
    let added : all ≡ cpus ++ cpu ∷ [] = search rules in
    let long : length all ≡ length cpus + 1 = ap length added ∙ length-append cpus (cpu ∷ []) in
    let fewer = simp length-append at (ap length is) in
    let further = c.split-further.ensures.further in let same = c.split-further.ensures.same in
    let new = new_of c.args.pass c.split-further.result cpu (further.opened ∙ (same.1 ∙ i.same.1))
    (further.part ∙ (same.2 ∙ i.same.2)) c.new.ensures.new in
    let its : IsCallerOf c.args.self.now cpu = search rules in
    let callers = All-push (IsCallerOf c.args.self.now) cpus cpu i.callers its in
    let others = All-push (IsNewOf c.args.pass) cpus cpu i.new new in
    let number : cpu.number ≡ length cpus + 1 = search rules in
    let numbers = numbers_more cpus all cpu added number i.numbers in
    let split = c.split-further.ensures in
    grind (arith, split, c.push.ensures, i, viewers, long, fewer, added, same, callers, others, numbers)

pub new-requires-2-clause-viewer : goal.new-requires-2-clause-viewer
new-requires-2-clause-viewer g c =
    let i = c.loop-viewer.invariant in
    let viewers = All-pop (IsViewerFor c.args.pass) c.args.viewers.items c.pop.new.self.items
    (Some c.unwrap-first.result) (search rules) c.requires.viewers in
    viewer_for c.args.pass c.loop-viewer.pass c.unwrap-first.result i.same.1 i.same.2 viewers.1
