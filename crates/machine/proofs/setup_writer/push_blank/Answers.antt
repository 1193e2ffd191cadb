use Rattle.std.proofs.Common.{◌≡◌, ℕ, ◌++◌, List, length, Result, Ok, Err, OnOk, append_assoc}
use Rattle.board_prelude.specs.{w32, to_le_bytes}
use Rattle.byte_fields.specs.Pages.{memory_page, pages_bytes}
use Rattle.machine.specs.Setups.{counted_bytes}
use Rattle.board_chipset.specs.Given.{zeros}
use Rattle.board_chipset.proofs.LeftBytes.{blank_pages, zeros_length}
use Rattle.machine.proofs.setup_writer.push_blank.Goals as goal

counted : {T E : Type 0} (result : Result T E) (bytes old mid new : List ℕ) →
    mid ≡ old ++ to_le_bytes w32 (length bytes) → OnOk result (new ≡ mid ++ pages_bytes memory_page bytes bytes) →
    OnOk result (new ≡ old ++ counted_bytes (zeros bytes))
counted (Ok value) bytes old mid new first second =
    rw (second, first, blank_pages bytes, zeros_length bytes) (append_assoc old _ _)
counted (Err fault) bytes old mid new first second = tt

pub returns : goal.returns
returns c = record {
  added = counted _ _ _ _ _ c.in_ok-push_word.ensures.added c.push_pages.ensures.added;
}
