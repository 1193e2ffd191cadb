-- What is under way stays one of the disk's sectors.
use Rattle.std.proofs.Common.{arith, ℕ, zero, suc, Bool, eqb}
use Rattle.device_spec.specs.Ata.State.{Medium, Drive, sectors_of}
use Rattle.device_spec.specs.Ata.Commands.{begin_read, begin_write, sector_read, sector_written, verified, obeyed}
use Rattle.device_spec.specs.Ata.Commands.{commanded}
use Rattle.device_spec.specs.Ata.Steps.{after_word, register_written, control_written}
use Rattle.std.proofs.lemmas.Bool.Decides.{nat_tests}
use Rattle.ata_pio.specs.Ata.Laws.{IsUnderWay}

begin_read-under_way : (m : Medium) (d : Drive) → IsUnderWay (sectors_of m) (begin_read m d).activity
unfolding begin_read
begin_read-under_way m d = grind (arith, nat_tests)

begin_write-under_way : (m : Medium) (q : Bool) (d : Drive) → IsUnderWay (sectors_of m) (begin_write m q d).activity
unfolding begin_write
begin_write-under_way m q d = grind (arith, nat_tests)

pub sector_written-under_way : (m : Medium) (s : ℕ) (d : Drive) →
    IsUnderWay (sectors_of m) (sector_written m s d).activity
unfolding sector_written
sector_written-under_way m s d = grind (arith, nat_tests, eqb, begin_write-under_way)

verified-under_way : (m : Medium) (left : ℕ) (d : Drive) → IsUnderWay (sectors_of m) (verified m left d).activity
unfolding verified
verified-under_way m zero d = grind (arith, nat_tests)
verified-under_way m (suc left) d = grind (arith, nat_tests, verified-under_way m left)

obeyed-under_way : (m : Medium) (code : ℕ) (d : Drive) → IsUnderWay (sectors_of m) (obeyed m code d).activity
unfolding obeyed
obeyed-under_way m code d =
    grind (arith, nat_tests, eqb, begin_read-under_way, begin_write-under_way, verified-under_way)

pub commanded-under_way : (m : Medium) (code : ℕ) (d : Drive) → IsUnderWay (sectors_of m) d.activity →
    IsUnderWay (sectors_of m) (commanded m code d).activity
unfolding commanded
commanded-under_way m code d h = grind (arith, nat_tests, obeyed-under_way)

pub register_written-under_way : (n port byte : ℕ) (d : Drive) → IsUnderWay n d.activity →
    IsUnderWay n (register_written port byte d).activity
unfolding register_written
register_written-under_way n port byte d h = grind (arith, nat_tests)

pub control_written-under_way : (n byte : ℕ) (d : Drive) → IsUnderWay n d.activity →
    IsUnderWay n (control_written byte d).activity
unfolding control_written
control_written-under_way n byte d h = grind (arith, nat_tests)

pub after_word-under_way : (m : Medium) (d : Drive) → IsUnderWay (sectors_of m) d.activity →
    IsUnderWay (sectors_of m) (after_word m d).activity
unfolding after_word sector_read
after_word-under_way m d h = grind (arith, nat_tests, begin_read-under_way)
