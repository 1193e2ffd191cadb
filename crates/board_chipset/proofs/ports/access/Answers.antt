use Rattle.std.proofs.Common.{◌≡◌, ap, List}
use Rattle.board_prelude.proofs.{Entry, Setup, Decoded}
use Rattle.addr_decode.specs.declared.found.Found.{Found}
use Rattle.addr_decode.specs.Found.{decoded_as}
use Rattle.board_chipset.specs.Kept.{IsStateOf}
use Rattle.board_chipset.specs.Ports.{reached, Reaching}
use Rattle.board_chipset.proofs.ports.access.Goals.{After-find_port}
use Rattle.board_chipset.proofs.ports.access.Goals as goal

-- what was found at the port
module _ (c : After-find_port) {shown : Found} (is : c.find_port.result ≡ shown) where
  reaching : Reaching c.args.state.now c.args.access.now (decoded_as shown).target
  reaching =
      let kept = c.requires.kept.1 in
      let stands = c.find_port.ensures.stands kept.setup kept.sound.registers.bytes kept.sound.registers.kept in
      record {
        rom = c.requires.kept.0;
        kept = kept;
        bus = c.requires.bus;
        disk = c.has_disk-disk.result;
        target_is = ap (λ (d : Decoded). d.target) (rw is at stands);
      }

  decoded : (setup : Setup) (history : List Entry) → IsStateOf setup history c.args.state.now →
      decoded_as shown ≡ reached setup history c.args.access.now
  decoded setup history kept =
      rw (c.has_disk-disk.ensures.fitted setup history kept.devices, is)
      at (c.find_port.ensures.decoded setup history kept.registers)

pub at_device-requires : goal.at_device-requires
at_device-requires c = record { reaching = reaching (goal.at.at_device-requires c).After-find_port c.in-Device.is }

pub returns-in-Device-clause-board : goal.returns-in-Device-clause-board
returns-in-Device-clause-board c = λ setup history entry kept.
    c.at_device.ensures.board setup history entry kept
    (decoded (goal.at.returns-in-Device-clause-board c).After-find_port c.in-Device.is setup history kept)

pub at_register-requires-clause-reaching : goal.at_register-requires-clause-reaching
at_register-requires-clause-reaching c =
    reaching (goal.at.at_register-requires-clause-reaching c).After-find_port c.in-Register.is

pub returns-in-Register-clause-board : goal.returns-in-Register-clause-board
returns-in-Register-clause-board c = λ setup history entry kept.
    c.at_register.ensures.board setup history entry kept
    (decoded (goal.at.returns-in-Register-clause-board c).After-find_port c.in-Register.is setup history kept)

pub at_card-requires-clause-reaching : goal.at_card-requires-clause-reaching
at_card-requires-clause-reaching c = reaching (goal.at.at_card-requires-clause-reaching c).After-find_port c.in-Card.is

pub returns-in-Card-clause-board : goal.returns-in-Card-clause-board
returns-in-Card-clause-board c = λ setup history entry kept.
    c.at_card.ensures.board setup history entry kept
    (decoded (goal.at.returns-in-Card-clause-board c).After-find_port c.in-Card.is setup history kept)

pub at_nobody-requires : goal.at_nobody-requires
at_nobody-requires c = record { reaching = reaching (goal.at.at_nobody-requires c).After-find_port c.in-Nobody.is }

pub returns-in-Nobody-clause-board : goal.returns-in-Nobody-clause-board
returns-in-Nobody-clause-board c = λ setup history entry kept.
    c.at_nobody.ensures.board setup history entry kept
    (decoded (goal.at.returns-in-Nobody-clause-board c).After-find_port c.in-Nobody.is setup history kept)
