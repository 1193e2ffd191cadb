-- At the ports of the keyboard controller, the clock and the primary IDE channel, the device answers
-- exactly where the chip selects it.
use Rattle.std.proofs.Common.{◌≡◌, ◌≢◌, ℕ, ◌↔◌, Bool, true, false, Some, arith, ◌&&◌, not, if◌then◌else◌}
use Rattle.board_prelude.proofs.{nat_tests, Width, One, Dev, Keyboard, Ata, Device, Denial, Register, bytes_of}
use Rattle.board_prelude.proofs.{is_port_of, Setup, is_bit, Bytes, xbcs as select_register, ide_command, idetim}
use Rattle.board_prelude.proofs.{idetim_high, device, unselected, device_port, port_target_of, common_steps}
use Rattle.board_base.specs.declared.target.Dev.TheVariants.{Clock}
use Rattle.device_spec.specs.PortLaws.{PortsApart, ConfigApart}
use Rattle.south_bridge.specs.Piix.{is_keyboard_port, is_clock_port, is_disk_port}
use Rattle.south_bridge.specs.PortSelects.{KeyboardAnswers, ClockAnswers, DiskAnswers}

-- ---- a device is no card and not nobody

not_device : (setup : Setup) (bytes : Bytes) (port : ℕ) (denial : Denial) (dev : Dev) →
    (unselected setup bytes port denial).target ≢ Device dev
not_device setup bytes port denial = grind (arith, nat_tests, common_steps)

-- ---- a device that answers where a bit is set, or two

by_bit : (setup : Setup) (bytes : Bytes) (port : ℕ) (denial : Denial) (dev : Dev) (selected : Bool) →
    ((if selected then device dev else unselected setup bytes port denial).target ≡ Device dev) ↔ (selected ≡ true)
by_bit setup bytes port denial dev selected = grind (arith, nat_tests, common_steps, not_device)

by_bits :
    (setup : Setup) (bytes : Bytes) (port : ℕ) (dev : Dev) (first second : Bool) →
    ((if not first then unselected setup bytes port (Register ide_command) else
    if not second then unselected setup bytes port (Register idetim) else device dev).target ≡ Device dev)
    ↔ ((first && second) ≡ true)
by_bits setup bytes port dev first second = grind (arith, nat_tests, common_steps, not_device)

-- ---- the ports of a device

module _ (apart : PortsApart) (config : ConfigApart) where
  -- an access that the table gives to a device reaches what selects it
  at_its_port : (setup : Setup) (bytes : Bytes) (address : ℕ) (disk : Bool) (dev : Dev) (port : ℕ) (width : Width) →
      is_port_of dev port (bytes_of width) ≡ true →
      port_target_of setup bytes address disk port width ≡ device_port (Some dev) disk setup bytes port
  unfolding port_target_of
  at_its_port setup bytes address disk dev port width is = grind (arith, nat_tests, common_steps)

  pub keyboard_answers : KeyboardAnswers
  keyboard_answers setup bytes address disk port is =
      let answers = by_bit setup bytes port (Register select_register) Keyboard (is_bit (bytes select_register) 1) in
      rw (at_its_port setup bytes address disk Keyboard port One (grind (arith, nat_tests))) (grind (arith, nat_tests))

  pub clock_answers : ClockAnswers
  clock_answers setup bytes address disk port is =
      let answers = by_bit setup bytes port (Register select_register) Clock (is_bit (bytes select_register) 0) in
      rw (at_its_port setup bytes address disk Clock port One (grind (arith, nat_tests))) (grind (arith, nat_tests))

  pub disk_answers : DiskAnswers
  disk_answers setup bytes address width port is =
      let no_keyboard : is_keyboard_port port ≡ false = grind (arith, nat_tests) in
      let no_clock : is_clock_port port ≡ false = grind (arith, nat_tests) in
      let there : is_disk_port port ≡ true = grind (arith, nat_tests) in
      rw (at_its_port setup bytes address true Ata port width is, no_keyboard, no_clock, there)
      (by_bits setup bytes port Ata (is_bit (bytes ide_command) 0) (is_bit (bytes idetim_high) 7))
