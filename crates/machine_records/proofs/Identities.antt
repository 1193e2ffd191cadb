-- What cards say that they are, one after another.
use Rattle.board_prelude.proofs.{nat_tests, drop_more}
use Rattle.std.proofs.Common.{◌≡◌, ℕ, ◌+◌, ◌<◌, ◌≤◌, if◌then◌else◌, List, ◌∷◌, length, get_or, drop, IsSomeAnd, ap, arith}
use Rattle.board_chipset.specs.Chipset.{Running}
use Rattle.uart_16550.specs.Serial.{Serial}
use Rattle.machine.specs.Header.{is_blank}
use Rattle.machine_records.specs.declared.card.CardRecord.{CardRecord}
use Rattle.machine_records.specs.Cards.{identities_said, identity_said}
use Rattle.machine_records.specs.Openings.{IsOpenedWith, setup_said}
use Rattle.machine_records.proofs.Openings.{said_count}

pub identities_next : (records : List CardRecord) (index : ℕ) (last : CardRecord) → index < length records →
    identities_said (drop index records)
    ≡ (if is_blank (identity_said (get_or records index last)) then identities_said (drop (index + 1) records)
    else record { dev = (get_or records index last).device; identity = identity_said (get_or records index last) }
    ∷ identities_said (drop (index + 1) records))
identities_next records index last within = ap identities_said (drop_more records index last within)

pub few_opened : (mib : ℕ) (records : List CardRecord) (rom disk : List ℕ) (serial : Serial Running) →
    IsSomeAnd (setup_said mib records rom disk) (IsOpenedWith serial) → length records ≤ 8
few_opened mib records rom disk serial opened = grind (arith, nat_tests, said_count)
