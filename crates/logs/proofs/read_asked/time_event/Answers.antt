use Rattle.logs.proofs.AskedReading.{moment_is}
use Rattle.logs.proofs.read_asked.time_event.Goals as goal

pub returns-in_err-moment : goal.returns-in_err-moment
returns-in_err-moment c = record {
  event = rw c.from_residual.ensures (λ event is.
      let moment = moment_is c.args.moment event is in c.in_err-moment.ensures.exact (moment.date, moment.time));
}
