use Rattle.std.proofs.Common.{◌≡◌, ℕ, List, ◌++◌, ap, ◌∙◌, subst, append_assoc, OnOk}
use Rattle.board_image.specs.ImageBytes.{head_bytes}
use Rattle.board_image.proofs.writer.push_head.Goals as goal

pub returns : goal.returns
unfolding head_bytes
returns c =
    record {
      added =
          subst (λ (bytes : List ℕ). OnOk c.push_sizes.result (c.push_sizes.new.out.items ≡ bytes))
          (rw (
            (c.in_ok-extend_from_slice-3.ensures.items ∙ ap
                (λ (bytes : List ℕ). c.extend_from_slice-2.new.self.items ++ bytes) c.fittings.ensures.bytes),
            (c.in_ok-extend_from_slice-2.ensures.items ∙ ap
                (λ (bytes : List ℕ). c.extend_from_slice.new.self.items ++ bytes) c.to_le_bytes.ensures),
            c.in_ok-extend_from_slice.ensures.items,
          ) (simp append_assoc))
          c.push_sizes.ensures.added;
    }
