-- The state of the configuration address register as bytes.
use Rattle.std.specs.Prelude.{ℕ, ◌≡◌, ◌<◌, ◌^◌, ◌==◌, List}
use Rattle.std.specs.Int.{w32, to_le_bytes}
use Rattle.board_spec.specs.Registers.{kept_address}
use Rattle.byte_fields.specs.Fields.{Reading, number_where}

-- a number that the register can hold
pub record IsAddress (address : ℕ) : Type 0 where
  pub small : address < 2 ^ 32
  pub kept : kept_address address ≡ address

abbrev pub address_bytes : ℕ → List ℕ
address_bytes address = to_le_bytes w32 address

abbrev pub address_fields : Reading ℕ
address_fields = number_where w32 (λ n. kept_address n == n)
