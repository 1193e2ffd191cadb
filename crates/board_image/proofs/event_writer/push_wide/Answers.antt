use Rattle.std.proofs.Common.{ℕ, List, ◌∷◌, ◌++◌, ap, ◌∙◌, append_assoc}
use Rattle.board_prelude.specs.{w32, to_le_bytes, WideAccess}
use Rattle.board_image.specs.ImageBytes.{flag_byte, kind_byte, wide_bytes}
use Rattle.board_image.proofs.event_writer.push_wide.Goals as goal

abbrev front : WideAccess → List ℕ
front access = kind_byte access.kind ∷ flag_byte access.smm ∷ access.bytes ∷ to_le_bytes w32 access.addr

pub returns : goal.returns
unfolding wide_bytes
returns c = record {
  added = c.in_ok-extend_from_slice.ensures.items ∙ ap (λ (t : List ℕ). t ++ c.to_le_bytes.result)
      c.in_ok-push_front.ensures.added ∙ append_assoc c.args.out.now.items (front c.args.access.now)
      c.to_le_bytes.result ∙ ap (λ (t : List ℕ). c.args.out.now.items ++ (front c.args.access.now ++ t))
      c.to_le_bytes.ensures;
}
