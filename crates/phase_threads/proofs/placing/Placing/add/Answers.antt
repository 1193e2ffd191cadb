use Rattle.std.proofs.Common.{rules, ℕ, ◌≡◌, ◌≤◌, List, map, length, take, drop, reverse, None, Some, sym, ◌∙◌, ap}
use Rattle.std.proofs.Common.{arith}
use Rattle.std.proofs.lemmas.List.{take-map}
use Rattle.board_prelude.proofs.{reverse-reverse, length-map, length-take-le, Entry}
use Rattle.run_order.specs.declared.done.Done.{Done}
use Rattle.run_order.specs.Room.{Order, all_looks_in}
use Rattle.run_order.specs.Over.{over}
use Rattle.run_order.specs.Placing.{placed}
use Rattle.run_order.proofs.Settled.{unlooked}
use Rattle.phase_threads.proofs.Phases.{cut_is, legal_front, on_ok, taken_in}
use Rattle.phase_threads.proofs.placing.Placing.add.Goals as goal

pub returns-in-Some-clause-placed : goal.returns-in-Some-clause-placed
returns-in-Some-clause-placed c =
    let lists : List (List Done) = map (λ done. done.now) c.args.works.items in
    let some : c.args.self.now.order ≡ Some c.in-Some.order = search rules in
    on_ok c.place.result (λ placed setup bus are legal.
    let fits : c.args.opened ≤ length bus =
    omega (arith, c.requires.gained, ap length are, length-map bus (λ (entry : Entry). entry.actor)) in
    rw some (taken_in bus c.args.opened c.args.version lists c.in-Some.order c.place.new.self fits
    (rw some at c.requires.up_to) c.place.ensures.within (placed bus are))) c.place.ensures.placed

pub returns-then-not-has_looks-clause-placed : goal.returns-then-not-has_looks-clause-placed
returns-then-not-has_looks-clause-placed c = λ setup bus are legal.
    let lists : List (List Done) = map (λ done. done.now) c.args.works.items in
    let none : c.args.self.now.order ≡ None = search rules in
    let looks : all_looks_in lists ≡ 0 = c.if-not-has_looks.ensures.none (search rules) in
    let cut = cut_is c.args.opened bus in
    rw none (cut ∙ sym (unlooked setup c.args.version (drop c.args.opened bus) lists (reverse (take c.args.opened bus))
    looks (rw cut at legal)))

pub returns-clause-placed : goal.returns-clause-placed
returns-clause-placed c = λ setup bus are legal.
    let opened = c.args.opened in let actor : Entry → ℕ = λ entry. entry.actor in
    let lists : List (List Done) = map (λ done. done.now) c.args.works.items in
    let none : c.args.self.now.order ≡ None = search rules in let begun : Order = c.in_ok-order.order in
    let front : List Entry = take opened bus in
    let fits : opened ≤ length bus = omega (arith, c.requires.gained, ap length are, length-map bus actor) in
    let size : begun.bus ≡ opened =
    c.in_ok-order.ensures.bus ∙ length-take-le opened c.args.actors.now c.requires.gained
    in
    let is : over front begun.entries ≡ reverse front =
    c.in_ok-order.ensures.same setup front (rw are (take-map actor opened bus)) (legal_front setup opened bus legal) in
    let taken = taken_in bus opened c.args.version lists begun c.place-2.new.self fits size c.place-2.ensures.within
    (c.in_ok-place.ensures.placed bus are) in
    rw none (taken ∙ ap (placed c.args.version (drop opened bus) lists) (rw (reverse-reverse front) is))
