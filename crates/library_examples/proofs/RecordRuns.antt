-- The examples are computed from the definitions.
use Rattle.std.proofs.Common.{rules}
use Rattle.board_prelude.proofs.{weekday_of, days_since_1980, days_of_years, days_of_months}
use Rattle.machine_records.specs.Events.{kind_said, direction_said, width_said, cycle_said, access_said, port_said}
use Rattle.machine_records.specs.Events.{moment_said, digits_said, stimulus_said, asked_by, event_said, byte_said}
use Rattle.machine_records.specs.Events.{asked_said}
use Rattle.library_examples.specs.Records.{MemorySaid, OthersSaid, RecordBorders, TimeSaid}

pub records : MemorySaid × OthersSaid × TimeSaid × RecordBorders
unfolding kind_said direction_said width_said cycle_said access_said port_said moment_said digits_said stimulus_said
    asked_by event_said byte_said asked_said weekday_of days_since_1980 days_of_years days_of_months
records = search rules
