use Rattle.std.proofs.Common.{◌≡◌, ◌++◌, length, ap, arith, List, ℕ}
use Rattle.board_prelude.proofs.{length-append}
use Rattle.logs.specs.Numbered.{tail_line}
use Rattle.run_log.proofs.CutLaws.{cut_pushed, ends_pushed}
use Rattle.run_log.proofs.lines.push_line.Goals as goal

pub returns-in-Ok-clause-added : goal.returns-in-Ok-clause-added
returns-in-Ok-clause-added c =
    let text : List ℕ = c.args.text.now.items in let line : List ℕ = tail_line c.args.entry.now in
    let grown = c.in_ok-push_unnumbered.ensures.appended in
    let end : c.len.result ≡ length (text ++ line) = omega (arith, c.len.ensures, c.push_unnumbered.new.bytes.ok, ap length grown) in
    rw (c.in-Ok.ensures.added, grown) (cut_pushed 0 c.args.ends.now.items text line c.len.result c.requires.ends end)

pub returns-in-Ok-clause-ends : goal.returns-in-Ok-clause-ends
returns-in-Ok-clause-ends c =
    let text : List ℕ = c.args.text.now.items in let line : List ℕ = tail_line c.args.entry.now in
    let grown = c.in_ok-push_unnumbered.ensures.appended in
    let end : c.len.result ≡ length (text ++ line) = omega (arith, c.len.ensures, c.push_unnumbered.new.bytes.ok, ap length grown) in
    let size = length-append text line in
    rw (c.in-Ok.ensures.added, grown, end)
    (ends_pushed 0 c.args.ends.now.items (length text) (length (text ++ line)) c.requires.ends (omega (arith, size)))
