use Rattle.std.proofs.Common.{◌≡◌, length, arith}
use Rattle.machine.proofs.SavedParts.{image_around}
use Rattle.machine.proofs.saved.bytes_around.Goals as goal

pub returns-clause-bytes : goal.returns-clause-bytes
returns-clause-bytes c =
    let place : c.len-dram_at.result ≡ length c.push_before.new.into.items = omega (arith, c.len-dram_at.ensures) in
    image_around _ _ _ _ _ c.new-bytes.ensures.items c.in_ok-push_before.ensures.added place
    c.in_ok-push_after.ensures.added
