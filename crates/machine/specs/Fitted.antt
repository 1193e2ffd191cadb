-- What a board is fitted with, as the front of the bytes of a running board: a mark, the version of the format, the
-- setup, and what the cards say that they are.
use Rattle.std.specs.Prelude.{ℕ, ◌≡◌, ◌≢◌, ◌++◌, List, Ok, codes}
use Rattle.board_prelude.specs.{w16, to_le_bytes, Setup, IsSetup}
use Rattle.byte_fields.specs.Fields.{Reading, gives, ◌>>=◌, within, exactly}
use Rattle.machine.specs.declared.identity.FittedIdentity.{FittedIdentity}
use Rattle.machine.specs.Identities.{AreIdentities, identities_bytes, identities_fields}
use Rattle.machine.specs.Setups.{setup_bytes, setup_fields}

pub record Fitting : Type 0 where
  pub setup : Setup
  pub identities : List FittedIdentity

abbrev pub magic : List ℕ
magic = codes "BOARDRUN"

abbrev pub version : ℕ
version = 1

pub record IsFitting (fitting : Fitting) : Type 0 where
  pub fits : IsSetup fitting.setup
  pub say : AreIdentities fitting.identities

unfoldable pub fitting_bytes : Fitting → List ℕ
fitting_bytes fitting =
    magic ++ (to_le_bytes w16 version ++ (setup_bytes fitting.setup ++ identities_bytes fitting.identities))

unfoldable pub fitting_fields : Reading Fitting
fitting_fields = do
  mark ← exactly magic
  number ← within w16 version version
  setup ← setup_fields
  identities ← identities_fields
  gives (record { setup = setup; identities = identities })

-- bytes begin with the mark and the number of another version
unfoldable pub version_field : Reading ℕ
version_field = do
  mark ← exactly magic
  within w16 0 65_535

pub record IsOtherVersion (bytes : List ℕ) : Type 0 where
  pub number : ℕ
  pub rest : List ℕ
  pub read : version_field bytes ≡ Ok (number, rest)
  pub other : number ≢ version
