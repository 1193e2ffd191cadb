-- Answers, and answers in which the version of a look is counted modulo 2^32.
use Rattle.std.proofs.Common.{◌≡◌, ℕ, Bool, ◌%◌, ◌<◌, List, length, arith}
use Rattle.board_prelude.proofs.{nat_tests, Kind, Event, Reply, Entry, entry_limit, Setup, version_of, IsAnswer}
use Rattle.board_spec.specs.declared.event.Event.TheVariants.{Look as LookAt}
use Rattle.board_chipset.specs.Versions.{version_count, IsAnswerModulo}
use Rattle.board_chipset.proofs.MapVersions.{few_writes}

-- the answer to an event that is no look
pub modulo : (setup : Setup) (history : List Entry) (event : Event) (reply : Reply) →
    ((kind : Kind) (addr : ℕ) (smm : Bool) → event ≡ LookAt kind addr smm → ⊥) →
    IsAnswer setup history event reply → IsAnswerModulo setup history event reply
modulo setup history event reply not is = grind (arith, nat_tests)

-- so few versions are the same modulo 2^32
pub few_versions : (setup : Setup) (history : List Entry) → version_of setup history < version_count →
    version_of setup history % version_count ≡ version_of setup history
few_versions setup history few = omega (arith, few)

pub few_entries : (setup : Setup) (history : List Entry) → length history < entry_limit →
    version_of setup history < version_count
few_entries setup history few = omega (arith, few, few_writes setup history)

pub exactly : (setup : Setup) (history : List Entry) (event : Event) (reply : Reply) →
    version_of setup history < version_count →
    IsAnswerModulo setup history event reply → IsAnswer setup history event reply
exactly setup history event reply few is = grind (arith, nat_tests, few_versions setup history few)
