-- Only an entry whose reply names a register changes registers in configuration space.
use Rattle.std.proofs.Common.{◌≡◌, ℕ, true, List, Option, Some, None, refl, arith, option_map}
use Rattle.board_prelude.proofs.{cases_Bool, cond-false, and_parts, nat_tests, PortAccess, Reg, Port, Entry, Store}
use Rattle.board_prelude.proofs.{Setup, is_hard_reset, is_config_port, config_register, config_store, config_address}
use Rattle.board_prelude.proofs.{byte_with, byte_of, port_target_of, port_answer}
use Rattle.board_laws.specs.RegisterLaws.{IsNear, ReachesNear, RegistersStay}

module _ (setup : Setup) (before : List Entry) (reg : Reg) (old : ℕ) where
  store_stays : (access : PortAccess) (found : Option Reg) → is_config_port access.port ≡ true →
      config_register setup (config_address before) access.port ≡ found →
      ¬ ReachesNear (port_answer setup before access) reg →
      byte_with setup (option_map (λ at. Store at access.width access.value) found) reg old ≡ old
  unfolding port_answer port_target_of
  store_stays access None is found far = refl
  store_stays access (Some named) is found far =
      let apart : ¬ IsNear named reg = λ near. far (grind (arith, nat_tests)) in
      grind (arith, nat_tests)

  access_stays : (access : PortAccess) → ¬ ReachesNear (port_answer setup before access) reg →
      byte_with setup (config_store setup (config_address before) (Port access)) reg old ≡ old
  access_stays access far =
      grind (arith, nat_tests, cases_Bool, is_config_port, store_stays, config_register, config_address, and_parts)

pub registers_stay : RegistersStay
unfolding byte_of
registers_stay setup before entry reg next soft far =
    grind (arith, nat_tests, byte_with, byte_of, cond-false, is_hard_reset, access_stays)
