-- A disk that was opened has whole sectors, a card is found by its device number, and a size is tested.
use Rattle.std.proofs.Common.{◌≡◌, ℕ, ◌/◌, Option, Some, None, List, [], ◌∷◌, length, refl, inl, inr, subst, arith, ◌↔◌}
use Rattle.std.proofs.Common.{Result, Ok, Err, ◌==◌, is_some, find, ◌≢◌, ◌%◌, IsTrue, nat_le}
use Rattle.board_prelude.proofs.{list_any, cases_Bool, nat_tests, FittedCard, IsDisk, is_disk_length, IsDiskSize}
use Rattle.ata_pio.specs.declared.ata.AtaOpen.{AtaOpen}
use Rattle.board_devices.proofs.DeviceLemmas.{refused_length}

disk_fits : (bytes : Option (List ℕ)) → ¬ ¬ IsDisk bytes → IsDisk bytes
disk_fits None opened = tt
disk_fits (Some bytes) opened =
    elim (cases_Bool (is_disk_length (length bytes))) [
      | inl whole ↦ (length bytes / 512, grind (arith, nat_tests), grind (arith, nat_tests), grind (arith, nat_tests))
      | inr broken ↦ absurd (opened (refused_length (length bytes) broken))
    ]

pub disk_opened : {T : Type 0} (bytes shown : Option (List ℕ)) (result : Result T AtaOpen) (devices : T) →
    (result ≡ Err AtaOpen.BadLength) ↔ ¬ IsDisk shown → result ≡ Ok devices → shown ≡ bytes → IsDisk bytes
disk_opened bytes shown result devices bad opened same =
    subst IsDisk same (disk_fits shown (λ none. let no : result ≡ Err AtaOpen.BadLength = bad.1 none in cc))

-- ---- the card at a device number

pub any_found : (dev : ℕ) (cards : List FittedCard) →
    list_any (λ card. card.dev == dev) cards ≡ is_some (find (λ card. card.dev == dev) cards)
any_found dev [] = refl
any_found dev (card ∷ later) = grind (arith, nat_tests, any_found dev later)

-- ---- whole sectors

pub decided : (size : ℕ) → size ≢ 0 → size % 512 ≡ 0 → IsTrue (nat_le (size / 512) 65536) ↔ IsDiskSize size
decided size some whole = (
  λ few. (size / 512, omega (arith, some, whole), grind (arith, nat_tests), omega (arith, whole)),
  λ is. let sectors = is.0 in let most = is.2 in let e = is.3 in grind (arith, nat_tests),
)
