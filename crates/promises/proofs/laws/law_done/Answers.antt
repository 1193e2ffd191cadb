use Rattle.promises.proofs.DoneLaws.{good_files_are_done}
use Rattle.promises.proofs.laws.law_done.Goals as goal

pub returns : goal.returns
returns c = record { good = good_files_are_done c.law_one_script.ensures.one }
