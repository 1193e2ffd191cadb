-- What an access of a bus master lands on, by the register bytes.
use Rattle.std.specs.Prelude.{ℕ, ◌≡◌, false, Some}
use Rattle.board_prelude.specs.{Kind, Target, Part, Setup, Bytes, is_smram_range, target_at, DramCell, first_cell}
use Rattle.addr_decode.specs.Master.{master_area, master_denial}

-- the ROM and the cards by the address modulo their size, as for a processor
abbrev pub master_target : Setup → Bytes → Kind → (addr : ℕ) → Target
master_target setup bytes kind addr = target_at setup (master_area setup bytes addr kind) addr

-- with what denies it
abbrev pub master_part : Setup → Bytes → Kind → (addr : ℕ) → Part
master_part setup bytes kind addr =
    record { target = master_target setup bytes kind addr; denial = master_denial setup bytes addr kind }

-- the byte of DRAM that a target has at an address, where it has one, lies outside SMRAM's range, A0000h to BFFFFh
abbrev pub IsOutsideSmram : Target → (addr : ℕ) → Type 0
IsOutsideSmram target addr = (at : ℕ) → first_cell target addr ≡ Some (DramCell at) → is_smram_range at ≡ false
