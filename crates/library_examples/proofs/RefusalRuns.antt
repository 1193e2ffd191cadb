-- The causes of a refusal, from its definition.
use Rattle.std.proofs.Common.{arith}
use Rattle.library_examples.specs.Refusals.{EachRefusal}

pub each_refusal : EachRefusal
each_refusal = record {
  no_disk = λ sector room status is. grind (arith, is.refused.left is.history is.left, is.fitted);
  no_sector = λ disk sector room status is past. grind (arith, is.refused.left is.history is.left, is.fitted);
  bad_length = λ disk sector room status is there. grind (arith, is.refused.left is.history is.left, is.fitted);
}
