-- A hard reset puts registers and devices in their reset state, and keeps what is stored.
use Rattle.std.proofs.Common.{◌≡◌, ℕ, Bool, true, false, List, ◌∷◌, None, arith, take, drop, refl, unwrap_or}
use Rattle.board_prelude.proofs.{cond-true, nat_tests, false≢true, PortAccess, bytes_of, triggers_at_reset, Levels}
use Rattle.board_prelude.proofs.{no_levels, levels_where, chip_at_reset, chip_after_inputs, latches_after, Pair}
use Rattle.board_prelude.proofs.{pair_at_reset, master_inputs, pair_after_lines, levels_where-same, has-levels_where}
use Rattle.board_prelude.proofs.{Event, Port, Reply, Entry, Setup, reset_control_port, control_written, is_hard_reset}
use Rattle.board_prelude.proofs.{reset_control, config_address, byte_of, Cell, entry_put, Bytes, device, port_target_of}
use Rattle.board_prelude.proofs.{wire_of, irq_of, triggers_of, plain_of, timer_of, clock_of, disk_with, levels_of}
use Rattle.board_prelude.proofs.{elcr_of, pair_stepped, pair_reset_or_after, pair_of, port_answer, IsAnswer}
use Rattle.board_base.specs.declared.target.Dev.TheVariants.{Reset as ResetPort}
use Rattle.board_laws.specs.ResetLaws.{HardResetResets, HardResetKeeps}
use Rattle.board_laws.proofs.StoredLaws.{stored-left}

-- ---- the pair

no_latches : (inputs : Levels) → latches_after no_levels inputs inputs ≡ no_levels
no_latches inputs = levels_where-same _ (λ level. false) (λ level small. grind (arith, nat_tests, has-levels_where))

chip-reset : (has_slave : Bool) (inputs : Levels) →
    chip_after_inputs (chip_at_reset has_slave inputs) inputs no_levels ≡ chip_at_reset has_slave inputs
chip-reset has_slave inputs = grind (arith, nat_tests, chip_at_reset, no_levels, no_latches)

-- no chip is ready after a reset, so that the slave's INT is 0
pair-reset : (levels : List Bool) → pair_after_lines (pair_at_reset levels) levels 0 ≡ pair_at_reset levels
unfolding levels_where
pair-reset levels = rw (chip-reset true (master_inputs (take 8 levels)), chip-reset false (drop 8 levels)) refl

-- a hard reset is no event of pulses
stepped-hard : (setup : Setup) (before : List Entry) (entry : Entry) (event : Event) (pair : Pair) →
    is_hard_reset before event ≡ true →
    pair_stepped setup entry before event pair ≡ pair_after_lines (pair_reset_or_after setup entry before pair)
    (levels_of setup (entry ∷ before)) (elcr_of (entry ∷ before))
stepped-hard setup before entry event pair hard = grind (arith, nat_tests)

triggers-reset : (before : List Entry) (entry : Entry) → is_hard_reset before entry.event ≡ true →
    triggers_of (entry ∷ before) ≡ triggers_at_reset
unfolding triggers_of
triggers-reset before entry hard = cond-true (is_hard_reset before entry.event) triggers_at_reset _ hard

pair-hard : (setup : Setup) (before : List Entry) (entry : Entry) → is_hard_reset before entry.event ≡ true →
    pair_of setup (entry ∷ before) ≡ pair_at_reset (levels_of setup (entry ∷ before))
unfolding pair_of
pair-hard setup before entry hard =
    rw (stepped-hard setup before entry entry.event (pair_of setup before) hard, hard, triggers-reset before entry hard)
    (pair-reset (levels_of setup (entry ∷ before)))

pub hard_reset_resets : HardResetResets
unfolding byte_of config_address reset_control plain_of timer_of clock_of disk_with
hard_reset_resets setup before entry hard =
    grind (arith, nat_tests, cond-true, is_hard_reset, control_written, triggers-reset, pair-hard)

-- ---- what stays

-- such an event writes the reset control register
decoded-reset : (setup : Setup) (before : List Entry) (access : PortAccess) (bytes : Bytes) (address : ℕ)
    (disk : Bool) → is_hard_reset before (Port access) ≡ true →
    port_target_of setup bytes address disk access.port access.width ≡ device ResetPort
unfolding port_target_of
decoded-reset setup before access bytes address disk hard =
    let port : access.port ≡ reset_control_port = grind (arith, nat_tests) in
    let size : bytes_of access.width ≡ 1 = grind (arith, nat_tests) in
    rw (port, size) refl

nothing_put : (setup : Setup) (before : List Entry) (event : Event) (reply : Reply) (cell : Cell) →
    IsAnswer setup before event reply → is_hard_reset before event ≡ true → entry_put event reply cell ≡ None
unfolding port_answer
nothing_put setup before (Port access) reply cell answer hard =
    rw (answer, decoded-reset setup before access (byte_of setup before) (config_address before) _ hard)
    (grind (arith, nat_tests))
nothing_put setup before event reply cell answer hard = absurd (false≢true hard)

pub hard_reset_keeps : HardResetKeeps
unfolding wire_of irq_of
hard_reset_keeps setup before entry next hard =
    grind (arith, nat_tests, stored-left, nothing_put, unwrap_or, wire_of, irq_of)
