use Rattle.std.proofs.Common.{[], reverse}
use Rattle.board_prelude.proofs.{IsCardList, reset_byte, registers_after}
use Rattle.map_blame.specs.Watch.{IsAfter}
use Rattle.map_blame.proofs.KeepLaws.{kept_suffice}
use Rattle.map_blame.proofs.report.blame.Goals as goal

pub returns-clause-blame : goal.returns-clause-blame
unfolding registers_after
returns-clause-blame c = λ setup same.
    let cards : IsCardList setup.cards = rw same c.requires.cards in
    let at_reset = c.reset_of.ensures.stands setup same in
    let first : IsAfter setup [] c.from_scratch-map.result = rw c.from_scratch-map.ensures.regs at_reset in
    record {
      ranges = c.in_ok-ranges.ensures.ranges setup cards first;
      keep = c.in_ok-keep.ensures.keep setup (reset_byte setup)
          (rw (c.regs.ensures.regs, c.from_scratch-map.ensures.regs) at_reset) cards;
    }

pub returns-clause-suffice : goal.returns-clause-suffice
returns-clause-suffice c = λ setup same.
    kept_suffice setup (reverse c.args.changes.now) c.in_ok-keep.keep.items (returns-clause-blame c setup same).keep
