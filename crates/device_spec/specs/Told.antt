-- What a `Moment` stands for.
use Rattle.board_base.specs.declared.moment.Moment.{Moment}
use Rattle.device_spec.specs.Clock.{CivilTime}

-- the moment, as the clock is told it
abbrev pub civil_time : Moment → CivilTime
civil_time m =
    record {
      year = m.year;
      month = m.month;
      day = m.day;
      weekday = m.weekday;
      hour = m.hour;
      minute = m.minute;
      second = m.second;
    }
