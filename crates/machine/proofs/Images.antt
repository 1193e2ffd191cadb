-- A board is read from its bytes: what it is fitted with, and then its state.
use Rattle.std.proofs.Common.{arith, ◌≡◌, ◌⊎◌, ℕ, inl, inr, List, [], ◌++◌, Result, Ok, Err, IfOk, refl, ap}
use Rattle.board_prelude.proofs.{nat_tests, append-nil, Setup}
use Rattle.byte_fields.specs.declared.fault.Fault.{Fault}
use Rattle.byte_fields.specs.declared.fault.Fault.TheVariants.{NoMemory}
use Rattle.byte_fields.specs.Fields.{ended}
use Rattle.byte_fields.specs.Loads.{LoadsWith}
use Rattle.board_chipset.specs.Chipset.{Running}
use Rattle.uart_16550.specs.Serial.{Serial}
use Rattle.uart_16550.specs.SerialState.{LoadsSerial, serial_bytes}
use Rattle.machine.specs.declared.identity.FittedIdentity.{FittedIdentity}
use Rattle.machine.specs.Fitted.{Fitting, IsFitting, fitting_bytes, fitting_fields}
use Rattle.machine.specs.Machines.{Saved}
use Rattle.machine.specs.Images.{IsSavedState, fitting_of, image_bytes}

-- ---- results

-- a value is given, or there was no memory
abbrev pub Gives : Result Saved Fault → Saved → Type 0
Gives result saved = (result ≡ Err NoMemory) ⊎ (result ≡ Ok saved)

pub not_ended : (bytes : List ℕ) (left : ℕ) → ended bytes ≡ Err left → bytes ≡ [] → ⊥
not_ended bytes left is none = let read : ended [] ≡ Err left = rw none at is in absurd cc

-- ---- the state, and what follows it

pub state_exact :
    {setup : Setup} (before after : List ℕ) (serial : Serial Running) (identities : List FittedIdentity) →
    LoadsSerial setup before after (Ok serial) → (saved : Saved) (rest : List ℕ) → IsSavedState saved →
    fitting_of saved ≡ record { setup = setup; identities = identities } →
    before ≡ serial_bytes saved.serial ++ rest →
    let read : Saved = record { serial = serial; identities = identities } in
    (◌≡◌ {A = Result Saved Fault} (Ok read) (Err NoMemory)) ⊎
    ((◌≡◌ {A = Result Saved Fault} (Ok read) (Ok saved)) × (after ≡ rest))
state_exact before after serial identities loads saved rest is same begins =
    let say : saved.identities ≡ identities = ap (λ (fitting : Fitting). fitting.identities) same in
    elim (loads.exact saved.serial rest (ap (λ (fitting : Fitting). fitting.setup) same) is.state begins) [
      | inl never ↦ absurd cc
      | inr given ↦ let read : serial ≡ saved.serial = cc (given.0) in inr (rw (read, ← say) refl, given.1)
    ]

-- ---- the state, after which nothing follows

pub last_loaded : (result : Result Saved Fault) (saved : Saved) (fitted : Fitting) (before mid : List ℕ) →
    IfOk result (λ given. (given ≡ saved) × (mid ≡ [])) →
    IsSavedState saved × (fitting_of saved ≡ fitted) × (before ≡ serial_bytes saved.serial ++ mid) →
    IfOk result (λ given. IsSavedState given × (fitting_of given ≡ fitted) × (before ≡ serial_bytes given.serial))
last_loaded result saved fitted before mid told is = grind (arith, nat_tests, append-nil (serial_bytes saved.serial))

-- what a call says of a state and of what follows it, where nothing does
abbrev GivesThen : Result Saved Fault → (after : List ℕ) → Saved → Type 0
GivesThen result after saved = (result ≡ Err NoMemory) ⊎ ((result ≡ Ok saved) × (after ≡ []))

pub last_refused : (fault : Fault) (saved : Saved) (after : List ℕ) → GivesThen (Err fault) after saved →
    Gives (Err fault) saved
last_refused fault saved after given = grind (arith, nat_tests)

-- ---- the whole

pub fitting_refused :
    (before mid : List ℕ) (fault : Fault) → LoadsWith fitting_fields fitting_bytes IsFitting before mid (Err fault) →
    (saved : Saved) → IsSavedState saved → before ≡ image_bytes saved → Gives (Err fault) saved
fitting_refused before mid fault one saved is begins = grind (arith, nat_tests)
