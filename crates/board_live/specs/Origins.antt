-- What was opened: the fixed part of a shared board, as each pass knows it.
use Rattle.std.specs.Prelude.{ℕ, List, [], Option, Some, None}
use Rattle.logbook.specs.Pages.{Book}
use Rattle.board_prelude.specs.{Entry, Setup}
use Rattle.board_live.specs.declared.shared.Origin.{Origin}

abbrev pub origin : Setup → ℕ → List Entry → Book → Origin
origin setup callers entries book = record {
  setup = setup;
  callers = callers;
  entries = entries;
  number = book.number;
  log_name = book.log_name;
  cells_name = book.cells_name;
}

-- what stands for the fixed part of a pass that knows none
abbrev pub no_origin : Origin
no_origin = record {
  setup = record { mib = 0; cards = []; rom = []; disk = None };
  callers = 0;
  entries = [];
  number = 0;
  log_name = 0;
  cells_name = 0;
}

abbrev pub origin_in : Option Origin → Origin
origin_in None = no_origin
origin_in (Some fixed) = fixed
