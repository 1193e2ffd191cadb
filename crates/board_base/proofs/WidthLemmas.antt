-- How many bytes an access can move.
use Rattle.std.proofs.Common.{◌≤◌, ◌<◌, arith}
use Rattle.board_base.specs.Access.{bytes_of}
use Rattle.board_base.specs.declared.access.Width.{Width}

pub some_bytes : (width : Width) → 0 < bytes_of width
some_bytes width = grind arith

pub bytes_few : (width : Width) → bytes_of width ≤ 4
bytes_few width = grind arith
