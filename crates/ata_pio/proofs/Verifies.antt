-- One turn of verify: it fails, it was the last sector, or it goes on.
use Rattle.std.proofs.Common.{◌≡◌, ◌≢◌, ℕ, suc, ◌+◌, Ok, Err, refl, arith}
use Rattle.device_spec.specs.Ata.State.{Medium, Drive}
use Rattle.device_spec.specs.Ata.Address.{named, naming, counted, left_of}
use Rattle.device_spec.specs.Ata.Commands.{readable, failed, finished, counted_down, moved_to, verified}
use Rattle.std.proofs.lemmas.Bool.Decides.{nat_tests}

pub verified-fails : (m : Medium) (left e : ℕ) (d : Drive) → readable m (named d.registers) ≡ Err e →
    verified m left d ≡ failed e d
unfolding verified
verified-fails m left e d h = grind (arith, nat_tests)

pub verified-end : (m : Medium) (s : ℕ) (d : Drive) → readable m (named d.registers) ≡ Ok s →
    verified m 0 d ≡ finished (counted_down d)
unfolding verified
verified-end m s d h = rw (h, verified) refl

pub verified-next : (m : Medium) (s left : ℕ) (d : Drive) → readable m (named d.registers) ≡ Ok s
    → verified m (suc left) d ≡ verified m left (moved_to (s + 1) (counted_down d))
unfolding verified
verified-next m s left d h = rw (h, verified) refl

pub verified-more : (m : Medium) (s : ℕ) (d : Drive) → readable m (named d.registers) ≡ Ok s → left_of d.registers ≢ 0
    → verified m (left_of d.registers) d ≡ verified m (left_of (naming (counted d.registers) (s + 1)))
    (moved_to (s + 1) (counted_down d))
verified-more m s d h e = grind (arith, nat_tests, verified-next)
