use Rattle.map_blame.proofs.OneReport.{one_report}
use Rattle.map_blame.proofs.laws.law_one_report.Goals as goal

pub returns : goal.returns
returns c = record { one = one_report c.law_one_flat_map.ensures.one }
