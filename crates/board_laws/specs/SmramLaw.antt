-- The SMRAM register of the 82441FX bit by bit.
use Rattle.std.specs.Prelude.{ℕ, ◌≡◌, ◌%◌, ◌||◌, if◌then◌else◌}
use Rattle.board_prelude.specs.{bit, is_bit, smram_after}

-- a register after a write, from what it held and what was written
pub record SmramBits (old written after : ℕ) : Type 0 where
  pub reserved : bit after 7 ≡ 0
  pub opened : bit after 6 ≡ (if is_bit after 4 then 0 else bit written 6)
  pub closed : bit after 5 ≡ bit written 5
  pub locked : is_bit after 4 ≡ (is_bit old 4 || is_bit written 4)
  pub enabled : bit after 3 ≡ bit written 3
  pub base : after % 8 ≡ 2

abbrev pub SmramByBits : Type 0
SmramByBits = (old written : ℕ) → SmramBits old written (smram_after old written)
