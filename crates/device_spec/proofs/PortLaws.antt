-- Each port is one device's: no two lines of the table meet, and none has a port of configuration data.
use Rattle.std.proofs.Common.{◌≡◌, ℕ, Bool, true, false, ◌&&◌, ◌||◌, nat_le, List, [], ◌∷◌, Option, Some, refl, ◌∙◌}
use Rattle.std.proofs.Common.{find, arith, inl, inr, sym}
use Rattle.std.proofs.lemmas.Bool.{cond-true, cond-false, false≢true, cases_Bool}
use Rattle.std.proofs.lemmas.Bool.Decides.{nat_tests}
use Rattle.board_base.specs.Bits.{is_within}
use Rattle.device_spec.specs.PortTable.{Ports, takes, device_line, port_devices, is_port_of, first_with}
use Rattle.board_base.specs.declared.target.Dev.{Dev}
use Rattle.board_base.specs.declared.target.Dev.TheVariants.{Wires, Vector, Spurious, Confadd}
use Rattle.device_spec.specs.PortLaws.{PortsApart, ConfigApart}

-- an interval has one of these ports
abbrev crosses : (first last : ℕ) → List Ports → Bool
crosses first last [] = false
crosses first last (some ∷ others) = nat_le first some.last && nat_le some.first last || crosses first last others

abbrev meets : List Ports → List Ports → Bool
meets [] others = false
meets (some ∷ later) others = crosses some.first some.last others || meets later others

-- the first device of a list with a port of this one
abbrev first_met : List Dev → Dev → Option Dev
first_met devices dev = find (λ other. meets (device_line dev).ports (device_line other).ports) devices

module _ (port size : ℕ) where
  untaken : (first last : ℕ) → is_within first last port ≡ true → (ports : List Ports) →
      crosses first last ports ≡ false → takes ports port size ≡ false
  untaken first last is [] apart = refl
  untaken first last is (some ∷ others) apart = grind (arith, nat_tests, untaken first last is others)

  apart_takes : (ports others : List Ports) → meets ports others ≡ false → takes ports port size ≡ true →
      takes others port size ≡ false
  apart_takes [] others apart is = absurd (false≢true is)
  apart_takes (some ∷ later) others apart is =
      let own = λ (here : is_within some.first some.last port ≡ true). untaken some.first some.last here others in
      grind (arith, nat_tests, own, apart_takes later others)

  -- a device that is the first with a port of its own is the first that takes an access
  first_takes : (devices : List Dev) (dev : Dev) → is_port_of dev port size ≡ true →
      first_met devices dev ≡ Some dev → first_with devices port size ≡ Some dev
  first_takes [] dev is first = absurd (cc)
  first_takes (other ∷ later) dev is first =
      elim (cases_Bool (meets (device_line dev).ports (device_line other).ports)) [
        | inl met ↦
            let found : Some other ≡ Some dev = sym (cond-true _ (Some other) _ met) ∙ first in
            let same : is_port_of other port size ≡ true = cc in
            cond-true (is_port_of other port size) (Some other) _ same ∙ found
        | inr apart ↦
            cond-false (is_port_of other port size) (Some other) _
            (apart_takes (device_line dev).ports (device_line other).ports apart is)
            ∙ first_takes later dev is (sym (cond-false _ (Some other) _ apart) ∙ first)
      ]

pub ports_apart : PortsApart
ports_apart Wires port size is = absurd (false≢true is)
ports_apart (Vector chip) port size is = absurd (false≢true is)
ports_apart (Spurious chip) port size is = absurd (false≢true is)
ports_apart Confadd port size is = first_takes port size port_devices Confadd is refl
ports_apart dev port size is = first_takes port size port_devices dev is refl

pub config_apart : ConfigApart
config_apart port size is = grind (arith, nat_tests, untaken)
