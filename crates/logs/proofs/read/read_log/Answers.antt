use Rattle.script_spec.specs.Checks.{IsBadLog}
use Rattle.logs.specs.Reading.{NamesBad}
use Rattle.logs.proofs.ReadLogs.{names_bad, passed_on}
use Rattle.logs.proofs.read.read_log.Goals as goal

pub returns-in_err-entries-clause-bad : goal.returns-in_err-entries-clause-bad
returns-in_err-entries-clause-bad c =
    passed_on c.from_residual.result _ (NamesBad (IsBadLog c.args.bytes.now)) c.from_residual.ensures.1
    (names_bad _ _ _ _ c.in-Some.ensures.parts c.in-Some-parse_heading.ensures.version _ c.in_err-entries.ensures.bad)
