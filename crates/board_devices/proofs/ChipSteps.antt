-- What a chip of the pair does by itself leaves its inputs, and does not latch line 0.
use Rattle.std.proofs.Common.{refl, Some, None, arith, ◌≡◌, ℕ, ◌/◌, ◌%◌, Bool, true, false, cond, List, Option, length}
use Rattle.board_prelude.proofs.{nat_tests, has, levels_where, Chip, Word, interrupt, acknowledged, acknowledged_if}
use Rattle.board_prelude.proofs.{chip_after_word, chip_after_odd_write, is_complete, chip_after_ocw2}
use Rattle.board_prelude.proofs.{chip_after_even_write, chip_after_write, chip_after_read, has-levels_where, Pair}
use Rattle.board_prelude.proofs.{settled, pair_after_write, pair_after_read, pair_acknowledged, pair_acknowledged_at}
use Rattle.board_prelude.proofs.{pair_after_acknowledge, is_slave_port, is_odd_port, PortAccess, Event, Port, Ack}
use Rattle.board_prelude.proofs.{Reply, pair_after}
use Rattle.device_spec.specs.Pic.{ended}

-- a chip before and after a step
pub record Keeps (old new : Chip) : Type 0 where
  pub inputs : new.inputs ≡ old.inputs
  pub triggers : new.triggers ≡ old.triggers
  pub low : has old.latches 0 ≡ false → has new.latches 0 ≡ false
  pub whole : length old.latches ≡ 8 → length new.latches ≡ 8

-- a set of levels is a list of eight
pub eight : (test : ℕ → Bool) → length (levels_where test) ≡ 8
unfolding levels_where
eight test = refl

ruleset sets = (nat_tests, has-levels_where, eight)

pub unmoved : (chip : Chip) → Keeps chip chip
unmoved chip = grind (arith, nat_tests)

-- ---- writes

ended_keeps : (rotates : Bool) (chip : Chip) (level : Option ℕ) → Keeps chip (ended rotates chip level)
ended_keeps rotates chip level = grind (arith, nat_tests)

word_keeps : (chip : Chip) (word : Word) (byte : ℕ) → Keeps chip (chip_after_word chip word byte)
word_keeps chip word byte = grind (arith, nat_tests)

odd_keeps : (chip : Chip) (words : List Word) (byte : ℕ) → Keeps chip (chip_after_odd_write chip words byte)
odd_keeps chip words byte = grind (arith, nat_tests, is_complete, word_keeps)

ocw2_keeps : (chip : Chip) (command level : ℕ) → Keeps chip (chip_after_ocw2 chip command level)
ocw2_keeps chip command level = grind (arith, nat_tests, ended_keeps)

even_keeps : (chip : Chip) (byte : ℕ) → Keeps chip (chip_after_even_write chip byte)
even_keeps chip byte = grind (arith, sets, ocw2_keeps chip (byte / 32) (byte % 8))

pub write_keeps : (chip : Chip) (is_odd : Bool) (byte : ℕ) → Keeps chip (chip_after_write chip is_odd byte)
unfolding chip_after_write
write_keeps chip is_odd byte = grind (arith, nat_tests, odd_keeps chip chip.awaited byte, even_keeps chip byte)

-- ---- acknowledges, and reads, which may poll

pub acknowledged_keeps : (chip : Chip) (level : ℕ) → Keeps chip (acknowledged chip level)
acknowledged_keeps chip level = grind (arith, sets)

pub acknowledged_if_keeps : (chip : Chip) (level : Option ℕ) → Keeps chip (acknowledged_if chip level)
acknowledged_if_keeps chip None = unmoved chip
acknowledged_if_keeps chip (Some level) = acknowledged_keeps chip level

pub read_keeps : (chip : Chip) → Keeps chip (chip_after_read chip)
unfolding chip_after_read
read_keeps chip = grind (arith, nat_tests, acknowledged_if_keeps chip (interrupt chip))

-- ---- what an event makes of the pair

pub same_chips : (a b slave other : Chip) → a ≡ b → slave ≡ other →
    ◌≡◌ {A = Pair} (record { master = a; slave = slave }) (record { master = b; slave = other })
same_chips a b slave other p q = rw (p, q) refl

-- what a pair keeps as its chips step and the slave is then heard, it keeps at every event
module _ (P : Pair → Type 0)
    (settles : (a b : Pair) → Keeps a.master b.master → Keeps a.slave b.slave → P a → P (settled b)) where
  one_steps : (at_slave : Bool) (pair : Pair) (master slave : Chip) → Keeps pair.master master →
      Keeps pair.slave slave → P pair →
      P (settled (cond at_slave (record pair { slave = slave }) (record pair { master = master })))
  one_steps true pair master slave m s is = settles pair (record pair { slave = slave }) (unmoved pair.master) s is
  one_steps false pair master slave m s is = settles pair (record pair { master = master }) m (unmoved pair.slave) is

  ported : (write : Bool) (access : PortAccess) (pair : Pair) → P pair →
      P (cond write (pair_after_write pair access.port access.value) (pair_after_read pair access.port))
  ported true access pair is =
      one_steps (is_slave_port access.port) pair _ _ (write_keeps pair.master (is_odd_port access.port) access.value)
      (write_keeps pair.slave (is_odd_port access.port) access.value) is
  ported false access pair is =
      one_steps (is_slave_port access.port) pair _ _ (read_keeps pair.master) (read_keeps pair.slave) is

  acknowledged_at : (pair : Pair) (level : Option ℕ) → P pair → P (pair_acknowledged_at pair level)
  acknowledged_at pair None is = is
  acknowledged_at pair (Some level) is =
      settles pair (pair_acknowledged pair level) (acknowledged_keeps pair.master level)
      (grind (arith, nat_tests, acknowledged_if_keeps pair.slave (interrupt pair.slave))) is

  pub event_keeps : (event : Event) (reply : Reply) (pair : Pair) → P pair → P (pair_after event reply pair)
  unfolding pair_after_acknowledge
  event_keeps (Port access) reply pair is = grind (arith, nat_tests, ported)
  event_keeps Ack reply pair is = acknowledged_at pair (interrupt pair.master) is
  event_keeps _ reply pair is = is
