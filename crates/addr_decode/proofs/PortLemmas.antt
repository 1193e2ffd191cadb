-- The ports in the order of the code are those of the definitions.
use Rattle.std.proofs.Common.{◌≡◌, ℕ, ◌/◌, Bool, false, Option, Some, sym, arith, is_some, if◌then◌else◌, ◌≤◌, ◌==◌}
use Rattle.std.proofs.Common.{◌∙◌, List}
use Rattle.board_prelude.proofs.{nat_tests, ne_eqb, Width, Dev, Decoded, nobody, NoRegister, bytes_of, device_at, Setup}
use Rattle.board_prelude.proofs.{card_at, is_enabled, is_config_port, config_register, Bytes}
use Rattle.board_prelude.proofs.{ide_command as command_register, idetim_high, xbcs as select_register, config_port}
use Rattle.board_prelude.proofs.{device_port, port_target_of, card_function, function_exists, position}
use Rattle.pci_bars.specs.Cards.{CardBytes, cards_of}
use Rattle.addr_decode.specs.declared.conf_add.Selected.{Selected}
use Rattle.addr_decode.specs.Selection.{existing}
use Rattle.addr_decode.specs.declared.onboard.Onboard.{Onboard}
use Rattle.addr_decode.proofs.CardLemmas.{fitted_is}
use Rattle.addr_decode.proofs.NameLemmas.{is_named}
use Rattle.addr_decode.specs.Onboard.{response_of}
use Rattle.addr_decode.specs.MapRegs.{IsChannelOf}
use Rattle.addr_decode.specs.Found.{register_answers}
use Rattle.addr_decode.specs.Ports.{after_onboard}

module _ (setup : Setup) (bytes : Bytes) (timing port : ℕ) (is : timing / 0x100 ≡ bytes idetim_high) where
  found_in_order : (found : Option Dev) (disk : Bool) →
      device_port found disk setup bytes port
      ≡ after_onboard setup bytes port
      (response_of found (bytes select_register) disk (bytes command_register) timing)
  found_in_order found disk = grind (arith, nat_tests)

-- ---- what each part of the code gives

pub onboard_target : (setup : Setup) (bytes : Bytes) (address : ℕ) (disk : Bool) (port : ℕ) (width : Width) (xbcs : ℕ)
    (ide_command idetim : ℕ) (response : Onboard) → false ≡ is_config_port port → xbcs ≡ bytes select_register →
    IsChannelOf bytes ide_command idetim →
    response ≡ response_of (device_at port (bytes_of width)) xbcs disk ide_command idetim →
    after_onboard setup bytes port response ≡ port_target_of setup bytes address disk port width
unfolding port_target_of
onboard_target setup bytes address disk port width xbcs ide_command idetim response not_config same_xbcs is_ide is =
    let found = found_in_order setup bytes idetim port is_ide.timing (device_at port (bytes_of width)) disk in
    let command = is_ide.command in
    grind (arith, nat_tests)

-- a selected register is reached where its function exists
pub selected_target :
    (setup : Setup) (address : ℕ) (port : ℕ) (selected : Selected) (answer : Decoded) →
    (is_enabled address ≡ false → ⊥) →
    config_register setup address port ≡ existing setup (Some selected) →
    answer
    ≡
    (if function_exists setup selected.bus selected.reg.dev selected.reg.fun then register_answers selected.reg else
    nobody NoRegister) →
    answer ≡ config_port address (config_register setup address port)
selected_target setup address port selected answer on register is = grind (arith, nat_tests)

-- ---- functions

pub card_exists : (setup : Setup) (cards : List CardBytes) (dev : ℕ) → 2 ≤ dev → setup.cards ≡ cards_of cards →
    is_some (position (λ card. card.card.dev == dev) cards) ≡ function_exists setup 0 dev 0
card_exists setup cards dev above same =
    fitted_is setup cards dev same
    ∙ rw (ne_eqb dev 0 (λ e. omega arith), ne_eqb dev 1 (λ e. omega arith))
    (sym (is_named card_function (card_at setup dev)))
