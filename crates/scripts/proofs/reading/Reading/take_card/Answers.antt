use Rattle.std.proofs.Common.{◌≡◌, ap, arith}
use Rattle.script_spec.proofs.ReadingExists.{put}
use Rattle.scripts.proofs.TakenSetup.{card_taken}
use Rattle.board_prelude.proofs.{nat_tests}
use Rattle.scripts.proofs.reading.Reading.take_card.Goals as goal

pub returns : goal.returns
returns c =
    let device : c.card.inside.dev ≡ c.args.card.dev = ap (λ card. card.dev) c.card.view_is in
    let place : c.insert.new.self.items ≡ put c.args.card c.args.self.now.cards.items =
    let read = c.deref.ensures.value in
    grind (arith, nat_tests, c.index_for_card-place.ensures.place, c.in_ok-insert.ensures.items) in
    record {
      taken = card_taken c.args.self.now _ c.insert.new.self _ place c.memory_of_card.ensures.memory;
    }
