use Rattle.std.proofs.Common.{rules, ◌≡◌, ◌<◌, ◌∷◌, length, drop, get_or, remove, reverse, All, Some, sym, ◌∙◌}
use Rattle.board_prelude.proofs.{Any, All-cons, All-get_or, IsPermutation-sym, All-permutation, Entry}
use Rattle.std.proofs.lemmas.List.Sorted.{IsPermutation-remove}
use Rattle.bus_turn.specs.Passes.{IsSameCaller as IsSamePass, number_of, opened_of as opened_by, part_of}
use Rattle.bus_turn.specs.Passes.{mine_of as mine_in}
use Rattle.bus_turn.specs.Views.{own_by}
use Rattle.board_live.specs.declared.cpu.Cpu.{Cpu}
use Rattle.board_live.specs.Steps.{board_of, opened_with}
use Rattle.board_live.specs.Callers.{ClosesBoard}
use Rattle.board_live.proofs.CallerTurns.{caught_up, closes, closes_joined, opened_same}
use Rattle.board_live.proofs.live.Live.close.Goals as goal

pub place_of_first-place-requires : goal.place_of_first-place-requires
place_of_first-place-requires g c =
    let some : Any (λ (cpu : Cpu _ g.B.Steps). cpu.number ≡ 0) c.args.cpus.items =
    c.requires.cpus.each 0 c.requires.cpus.some in
    record { first = rw c.deref.ensures.value some }

pub returns-clause-cpus : goal.returns-clause-cpus
returns-clause-cpus g c =
    let items = c.args.cpus.items in let place = c.place_of_first-place.result in
    let first = c.remove-first.result in let rest = c.remove-first.new.self.items in
    let now = c.catch_up.new.self in let pass = c.join.new.pass in let done = c.close.result in
    let opened = c.requires.cpus.opened in
    let below : place < length items = search rules in
    let is : first ≡ get_or items place first = search rules in
    let left : rest ≡ remove items place = search rules in
    let first_part : part_of first.pass ≡ Some opened =
    rw (← is) at
    (All-get_or (λ (cpu : Cpu _ g.B.Steps). part_of cpu.pass ≡ Some opened) items place first below
    c.requires.cpus.same) in
    let rest_part : All (λ (cpu : Cpu _ g.B.Steps). part_of cpu.pass ≡ Some opened) rest = search rules in
    let same : IsSamePass now.pass pass = search rules in
    let pass_part : part_of pass ≡ part_of first.pass = search rules in
    let part : Some opened ≡ Some (opened_with done) = sym first_part ∙ (sym pass_part ∙ c.close.ensures.part) in
    let opened_first : opened_by first.pass ≡ opened_by pass = search rules in
    let has = caught_up pass first now c.catch_up.ensures.same c.catch_up.ensures.seen c.join.ensures.seen in
    let mines : mine_in pass ≡ mine_in now.pass = search rules in
    let own : own_by (λ (entry : Entry). entry.actor) (number_of now.pass)
    (drop (length (opened_by pass)) (reverse (board_of done).entries)) ≡ mine_in now.pass =
    rw (same.0, mines) at c.close.ensures.mine in
    let firstly = closes pass done first c.close.ensures.begins c.close.ensures.opened opened_first (first_part ∙ part)
    (number_of now.pass, mine_in now.pass) has.0 has.1 has.2 own in
    let others : All (ClosesBoard (board_of done)) rest =
    λ k d within.
    let cpu = get_or rest k d in
    let its_part : part_of cpu.pass ≡ Some opened = rest_part k d within in
    closes_joined pass done cpu c.close.ensures.begins c.close.ensures.opened
    (opened_same cpu first (its_part ∙ sym first_part) ∙ opened_first) (its_part ∙ part)
    (c.join.ensures.joined k d within) c.close.ensures.joined in
    rw c.unshared.ensures.board
    (All-permutation (ClosesBoard (board_of done)) (first ∷ remove items place) items
    (IsPermutation-sym items (first ∷ remove items place) (IsPermutation-remove items place first below is))
    (All-cons (ClosesBoard (board_of done)) first (remove items place) firstly (rw left at others)))
