use Rattle.std.proofs.Common.{rules, ◌≡◌, List, [], ◌∷◌, ◌++◌, reverse, ap, ◌∙◌}
use Rattle.board_prelude.proofs.{reverse-append, Entry}
use Rattle.bus_turn.specs.Passes.{seen_of}
use Rattle.board_tests.proofs.turns.add.Goals as goal

pub commit-requires-clause-adds : goal.commit-requires-clause-adds
commit-requires-clause-adds g c =
    let entry : Entry = record {
      actor = c.args.actor;
      seq = c.args.seq;
      event = c.acknowledged.result.event;
      reply = c.acknowledged.result.reply;
    } in
    let seen : reverse c.take-held.result.value.entries ≡ seen_of c.take-held.new.pass = search rules in (
      entry,
      ap (λ past. reverse past.entries) c.push.ensures.pushed
          ∙ reverse-append (entry ∷ []) c.take-held.result.value.entries
          ∙ ap (λ (entries : List Entry). entries ++ entry ∷ []) seen,
      search rules,
    )
