use Rattle.std.proofs.Common.{◌≡◌, sym, ◌∙◌, rules, tests}
use Rattle.board_prelude.proofs.{YieldsList-from_slice, position_from_yields_List}
use Rattle.script_spec.specs.Fields.{fields_of}
use Rattle.scripts.proofs.FieldLemmas.{is_space, cut_at, uncut}
use Rattle.scripts.proofs.fields.Fields.next.Goals as goal

pub returns-in-Some : goal.returns-in-Some
returns-in-Some c =
    let left : c.args.self ≡ fields_of c.in_ok-rest.rest.now = search rules in
    let found = position_from_yields_List is_space _ _ c.position.result c.position.ensures.ran
    (YieldsList-from_slice c.in_ok-rest.rest.now c.iter.ensures.rest) (λ x b q k. search (rules, tests)) in
    record { next = left ∙ rw c.of.ensures.all (cut_at c.in_ok-rest.rest.now c.in-Some.end (sym found ∙ c.in-Some.is)) }

pub returns-in-None : goal.returns-in-None
returns-in-None c =
    let left : c.args.self ≡ fields_of c.in_ok-rest.rest.now = search rules in
    let found = position_from_yields_List is_space _ _ c.position.result c.position.ensures.ran
    (YieldsList-from_slice c.in_ok-rest.rest.now c.iter.ensures.rest) (λ x b q k. search (rules, tests)) in
    record { next = left ∙ uncut c.in_ok-rest.rest.now (sym found ∙ c.in-None.is) }
