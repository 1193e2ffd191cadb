-- Texts that are put one after another.
use Rattle.std.proofs.Common.{ℕ, List, ◌++◌, Option, sym, ap, ◌∙◌, append_assoc, Result, Ok, Err, IsErr}
use Rattle.board_outside.specs.Counts.{next_fault}
use Rattle.board_files.specs.declared.out_sink.OutSink.{OutSink}
use Rattle.board_commands.proofs.SentLemmas.{more_taken}
use Rattle.board_main.specs.Outputs.{TookAll, TookFront, IsPut, out_call}

module _ {W T E : Type 0} (contents : W → Option (List ℕ)) (first second : List ℕ) where
  -- a text was put whole, and then another one with this result
  pub put_more : (result : Result T E) (before between now : OutSink W) →
      TookAll (out_call contents before between) first → IsPut result second (out_call contents between now) →
      IsPut result (first ++ second) (out_call contents before now)
  put_more (Ok done) before between now taken then = record {
    taken = more_taken (contents before.out) (contents between.out) (contents now.out) first second taken.taken
        then.taken;
    quiet = then.quiet ∙ taken.quiet;
  }
  put_more (Err fault) before between now taken then = record {
    taken = record {
      rest = then.taken.rest;
      sent = record {
        front = first ++ then.taken.sent.front;
        whole = rw then.taken.sent.whole (sym (append_assoc first then.taken.sent.front then.taken.rest));
        taken = more_taken (contents before.out) (contents between.out) (contents now.out) first
            then.taken.sent.front taken.taken then.taken.sent.taken;
      };
    };
    failed = then.failed ∙ ap next_fault taken.quiet;
  }

  -- the first of two texts was not put whole
  pub put_stopped : (result : Result T E) (before now : OutSink W) → IsErr result →
      TookFront (out_call contents before now) first → IsPut result (first ++ second) (out_call contents before now)
  put_stopped (Ok done) before now failed then = absurd cc
  put_stopped (Err fault) before now failed then = record {
    taken = record {
      rest = then.taken.rest ++ second;
      sent = record {
        front = then.taken.sent.front;
        whole = rw then.taken.sent.whole (append_assoc then.taken.sent.front then.taken.rest second);
        taken = then.taken.sent.taken;
      };
    };
    failed = then.failed;
  }
