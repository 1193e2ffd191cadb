use Rattle.std.proofs.Common.{◌≡◌, ◌<◌, ◌+◌, List, [], ◌∷◌, ◌++◌, length, map, take, flat_map, sym, ap, ◌∙◌, arith}
use Rattle.board_prelude.proofs.{append-nil, map-append, take_more, flat_map-append, Entry, statement_of}
use Rattle.board_image.specs.ImageBytes.{step_bytes}
use Rattle.board_image.proofs.event_writer.steps_piece.Goals as goal

pub loop-i-preserved : goal.loop-i-preserved
loop-i-preserved c =
    let l = c.loop-i in
    let entries : List Entry = c.args.entries.now in
    let entry : Entry = c.entry.result in
    let front : List Entry = take l.i entries in
    let less : l.i < length entries = omega (arith, c.loop-i-test.true, c.len-i-end.ensures.length) in
    let own = c.entry.ensures.entry entry in
    let more : take (l.i + 1) entries ≡ front ++ entry ∷ [] =
    take_more entries l.i entry less ∙ (λ t. front ++ own t ∷ []) in
    let bytes = ap (flat_map step_bytes) (map-append statement_of front (entry ∷ []))
    ∙ flat_map-append step_bytes (map statement_of front) (statement_of entry ∷ [])
    ∙ ap (λ b. flat_map step_bytes (map statement_of front) ++ b) (append-nil (step_bytes (statement_of entry))) in
    c.in_ok-push_step.ensures.added ∙ ap (λ b. b ++ step_bytes (statement_of entry)) l.invariant ∙ sym bytes
    ∙ ap (λ (es : List Entry). flat_map step_bytes (map statement_of es)) (sym more)
