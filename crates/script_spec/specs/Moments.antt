-- What the field of a moment says: the reader's way through the form.
use Rattle.std.specs.Prelude.{ℕ, ◌+◌, ◌*◌, List, [], ◌∷◌, Option, Some, None}
use Rattle.board_prelude.specs.{Moment, moment_of}
use Rattle.script_spec.specs.Numbers.{parse_two_digits, after_mark, ◌>>=◌}

-- two digits after a mark, and what follows
unfoldable pub parse_moment_part : (mark : ℕ) → List ℕ → Option (ℕ × List ℕ)
parse_moment_part mark text = do
  digits ← after_mark mark text
  parse_two_digits digits

-- four digits, and what follows
unfoldable pub parse_year : List ℕ → Option (ℕ × List ℕ)
parse_year text = do
  century ← parse_two_digits text
  year ← parse_two_digits century.1
  Some (century.0 * 100 + year.0, year.1)

pub record Three : Type 0 where
  pub first : ℕ
  pub second : ℕ
  pub third : ℕ
  pub rest : List ℕ

unfoldable pub parse_date : List ℕ → Option Three
parse_date text = do
  year ← parse_year text
  month ← parse_moment_part 0x2D year.1
  day ← parse_moment_part 0x2D month.1
  Some (record { first = year.0; second = month.0; third = day.0; rest = day.1 })

unfoldable pub parse_time : List ℕ → Option Three
parse_time text = do
  hour ← parse_moment_part 0x54 text
  minute ← parse_moment_part 0x3A hour.1
  second ← parse_moment_part 0x3A minute.1
  Some (record { first = hour.0; second = minute.0; third = second.0; rest = second.1 })

unfoldable pub whole_moment : Three → Three → List ℕ → Option Moment
whole_moment date time [] = Some (moment_of date.first date.second date.third time.first time.second time.third)
whole_moment date time (_ ∷ _) = None

unfoldable pub parse_moment : List ℕ → Option Moment
parse_moment text = do
  date ← parse_date text
  time ← parse_time date.rest
  whole_moment date time time.rest
