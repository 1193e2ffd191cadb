-- The PAM registers are the list of their seven bytes, PAM0 first.
use Rattle.std.specs.Prelude.{◌≡◌, ◌≤◌, ℕ, ◌-◌, List, slice_index}
use Rattle.board_prelude.specs.{Bytes, bridge, pam as pam_register}

-- the offsets of the PAM registers
abbrev pub IsPamOffset : ℕ → Type 0
IsPamOffset off = ((pam_register 0).off ≤ off) × (off ≤ (pam_register 6).off)

-- the register at an offset
abbrev pub pam_byte : List ℕ → ℕ → ℕ
pam_byte pam off = slice_index pam (off - (pam_register 0).off)

-- these are the PAM registers among a board's register bytes
abbrev pub IsPamOf : Bytes → List ℕ → Type 0
IsPamOf bytes pam = (off : ℕ) → IsPamOffset off → pam_byte pam off ≡ bytes (bridge off)
