use Rattle.std.proofs.Common.{◌≡◌, ◌*◌, ◌/◌, map, ℕ, ap, ◌∙◌, arith}
use Rattle.std.specs.List.{range_with_len}
use Rattle.std.proofs.lemmas.List.FromFn.{map-range_with_len_more}
use Rattle.make_script.specs.Images.{disk_image}
use Rattle.make_script.proofs.images.make_disk.Goals as goal

pub loop-offset-preserved : goal.loop-offset-preserved
loop-offset-preserved c = grind (arith, map-range_with_len_more (λ offset. offset / 512) 0)

pub returns : goal.returns
unfolding disk_image
returns c =
    let all : c.loop-offset.offset ≡ 64 * 512 =
    omega (arith, c.loop-offset-test.false, c.loop-offset.auto.offset-end) in
    record { bytes = c.loop-offset.invariant ∙ ap (λ (n : ℕ). map (λ offset. offset / 512) (range_with_len 0 n)) all }
