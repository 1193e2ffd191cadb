use Rattle.board_spec.proofs.SpanLaws.{some_span, one_span}
use Rattle.board_laws.proofs.law_one_span.Goals as goal

pub returns : goal.returns
returns c = record { some = some_span; one = one_span }
