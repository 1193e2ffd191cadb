use Rattle.std.proofs.Common.{◌≡◌, ◌∙◌, List, ap, refl}
use Rattle.board_prelude.proofs.{PortAccess, Config, Setup, Entry, Decoded}
use Rattle.addr_decode.specs.declared.found.Found.{Found}
use Rattle.addr_decode.specs.Found.{decoded_as}
use Rattle.board_chipset.specs.Ports.{reached}
use Rattle.board_chipset.proofs.PortSteps.{Reached, target_reached, writes_at, writes_found, changes, by_device}
use Rattle.board_chipset.proofs.registers.Registers.map_change.Goals as goal

-- what was found was reached
at : (setup : Setup) (history : List Entry) (access : PortAccess) {found shown : Found} →
    decoded_as found ≡ reached setup history access → found ≡ shown →
    Reached setup history access (decoded_as shown).target
at setup history access is shown =
    target_reached setup history access _ (ap (λ (decoded : Decoded). decoded.target) (rw shown at is))

pub returns-in-Device : goal.returns-in-Device
returns-in-Device c = record {
  change = λ setup history has fitted.
      let access = c.args.access.now in
      by_device setup history access c.in-Device.dev c.device_change.result c.if-not-access.false
      (at setup history access (rw fitted at (c.find_port.ensures.decoded setup history has)) c.in-Device.is)
      (λ same. rw has.control at (c.device_change.ensures.control same)) c.device_change.ensures.other;
}

pub returns-in-Register : goal.returns-in-Register
returns-in-Register c = record {
  change = λ setup history has fitted.
      let access = c.args.access.now in
      c.store_change.ensures.change setup history has
      ∙ changes (writes_at setup history access (Config c.in-Register.register.reg) c.if-not-access.false
      (at setup history access (rw fitted at (c.find_port.ensures.decoded setup history has)) c.in-Register.is));
}

pub returns-in_default : goal.returns-in_default
returns-in_default c = record {
  change = λ setup history has fitted.
      let access = c.args.access.now in
      changes (writes_found setup history access c.find_port.result c.in_default.not-Device c.in_default.not-Register
      (at setup history access (rw fitted at (c.find_port.ensures.decoded setup history has)) refl));
}
