use Rattle.std.proofs.Common.{rules, ◌≡◌, ℕ, List, [], ◌∷◌, length, ap, ◌∙◌, arith}
use Rattle.bus_turn.specs.Passes.{mine_of, opened_of, joined_of}
use Rattle.bus_turn.proofs.example.mark_by_two.Goals as goal

pub returns-clause-second : goal.returns-clause-second
returns-clause-second g c =
    let other = c.join-pass.result.1.0 in let none : opened_of c.join.new.pass ≡ [] = search rules in
    let is : joined_of c.join.new.pass ≡ (1, mine_of other) ∷ [] = search rules in
    let own = rw (none, is) at c.close.ensures.joined in
    ap (λ (ms : List ℕ). length ms) (own 0 (1, mine_of other) (omega arith)) ∙ search rules
