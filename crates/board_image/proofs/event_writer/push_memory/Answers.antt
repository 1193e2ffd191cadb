use Rattle.std.proofs.Common.{arith, ◌≡◌, ℕ, List, ◌∷◌, ◌++◌, Result, OnOk, append_assoc}
use Rattle.std.proofs.lemmas.Bool.Decides.{nat_tests}
use Rattle.board_prelude.specs.{w32, to_le_bytes, bytes_of}
use Rattle.board_base.specs.declared.access.Access.{Access}
use Rattle.board_image.specs.ImageBytes.{flag_byte, kind_byte, memory_bytes}
use Rattle.board_image.proofs.event_writer.push_memory.Goals as goal

abbrev front : Access → (width : ℕ) → List ℕ
front access width = kind_byte access.kind ∷ flag_byte access.smm ∷ width ∷ to_le_bytes w32 access.addr

joined : {T E : Type 0} (result : Result T E) (access : Access) (width : ℕ) (old middle new : List ℕ) →
    width ≡ bytes_of access.width → middle ≡ old ++ front access width →
    OnOk result (new ≡ middle ++ to_le_bytes w32 access.value) → OnOk result (new ≡ old ++ memory_bytes access)
unfolding memory_bytes
joined result access width old middle new is one two = grind (arith, nat_tests, append_assoc)

pub returns : goal.returns
returns c = record { added = grind (arith, nat_tests, append_assoc, joined) }
