-- What an access to memory reaches: by the register bytes after a history it is the answer to the part.
use Rattle.std.proofs.Common.{◌≡◌, List, map}
use Rattle.board_prelude.proofs.{Entry, Part, Setup, byte_of, part_answer}
use Rattle.board_base.specs.declared.access.Access.{Access}
use Rattle.board_stores.specs.Targets.{part_in}

pub part_answered : (setup : Setup) (history : List Entry) (access : Access) (answer : Part) →
    answer ≡ part_in setup (byte_of setup history) access → answer ≡ part_answer setup history access
unfolding part_answer
part_answered setup history access answer is = is

pub parts_answered : (setup : Setup) (history : List Entry) (parts : List Access) (answers : List Part) →
    answers ≡ map (part_in setup (byte_of setup history)) parts → answers ≡ map (part_answer setup history) parts
unfolding part_answer
parts_answered setup history parts answers is = is
