-- The registers of the host bridge that a board keeps beside PAM and SMRAM: DRB0 to DRB7, and FDHC.
use Rattle.std.specs.Prelude.{◌≡◌, ◌<◌, ◌⊎◌, ℕ, List, slice_index}
use Rattle.board_prelude.specs.{Setup, reset_byte, Bytes, bridge, pam, drb, fdhc, smram}

-- the bytes of DRB0 to DRB7, and that of FDHC
pub record PmcBytes : Type 0 where
  pub drb : List ℕ
  pub fdhc : ℕ

-- the offsets of function 00.0 but PAM0 to PAM6 and SMRAM
abbrev pub IsPmcOffset : ℕ → Type 0
IsPmcOffset off =
    (off < 256)
    × ((off < (pam 0).off) ⊎ ((pam 6).off < off))
    × ((off < smram.off) ⊎ (smram.off < off))

-- those of them that nothing changes: all but DRB0 to DRB7 and FDHC
abbrev pub IsFixedOffset : ℕ → Type 0
IsFixedOffset off = IsPmcOffset off × ((off < (drb 0).off) ⊎ (fdhc.off < off))

-- these are the row boundaries among a board's register bytes
abbrev pub IsRowsOf : Bytes → List ℕ → Type 0
IsRowsOf bytes ends = (row : ℕ) → row < 8 → slice_index ends row ≡ bytes (drb row)

-- these are the registers of the host bridge among a board's register bytes, which hold the fixed ones as a reset
-- leaves them
pub record IsPmcOf (bytes : Bytes) (pmc : PmcBytes) : Type 0 where
  pub rows : IsRowsOf bytes pmc.drb
  pub hole : pmc.fdhc ≡ bytes fdhc
  pub fixed : (setup : Setup) (off : ℕ) → IsFixedOffset off → bytes (bridge off) ≡ reset_byte setup (bridge off)
