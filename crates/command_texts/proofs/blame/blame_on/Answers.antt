use Rattle.std.proofs.lemmas.Bool.Decides.{nat_tests}
use Rattle.std.proofs.Common.{length, reverse, sym, ap, ◌∙◌, arith}
use Rattle.std.proofs.lemmas.List.{length-reverse}
use Rattle.command_texts.proofs.Done.{length_of_replay}
use Rattle.command_texts.proofs.MapWrites.{version_is}
use Rattle.command_texts.proofs.BlameLemmas.{all_since, all_kept, blame_text}
use Rattle.command_texts.proofs.blame.blame_on.Goals as goal
use Rattle.board_chipset.proofs.MapVersions.{few_writes}
use Rattle.board_prelude.proofs.{Setup}

pub blame-requires-clause-cards : goal.blame-requires-clause-cards
blame-requires-clause-cards c = rw c.deref.ensures.value c.requires.fresh.in_range.cards

pub blame-requires-clause-count : goal.blame-requires-clause-count
blame-requires-clause-count c =
    grind (arith, nat_tests, length-reverse, length_of_replay, version_is, all_since, all_kept, blame_text, few_writes)

pub report_text-requires : goal.report_text-requires
report_text-requires c =
    let board = c.replay_noting.new.board in
    let cards = ap (λ (setup : Setup). setup.cards) c.in_ok-writes.ensures.setup ∙ c.requires.fresh.cards
    ∙ sym c.deref.ensures.value in
    let blame = c.in_ok-report.ensures.blame board.setup cards in
    let count =
    length-reverse c.deref-2.result.now ∙ ap length c.deref-2.ensures.value ∙ sym c.in_ok-writes.ensures.writes.count in
    record {
      ranges = all_since board.setup _ c.in_ok-report.report.ranges.items _ count blame.ranges;
      keep = all_kept board.setup _ c.in_ok-report.report.keep.items _ count blame.keep;
    }

pub returns : goal.returns
returns c =
    let board = c.replay_noting.new.board in
    let cards = ap (λ (setup : Setup). setup.cards) c.in_ok-writes.ensures.setup ∙ c.requires.fresh.cards
    ∙ sym c.deref.ensures.value in
    record {
      text =
          blame_text _ _ _ _ _ _ _ _ c.in_ok-writes.ensures.setup
          (ap reverse c.deref-2.ensures.value ∙ c.in_ok-writes.ensures.writes.changes) c.in_ok-writes.ensures.replay
          (c.in_ok-report.ensures.blame board.setup cards)
          (c.report_text.ensures.text board.setup board.entries c.in_ok-writes.ensures.writes);
    }
