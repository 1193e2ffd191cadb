use Rattle.std.proofs.Common.{◌∙◌, refl}
use Rattle.machine.proofs.Puts.{put_three}
use Rattle.machine.proofs.Pages.{told_page, rest_zeros}
use Rattle.machine.proofs.page.put_page.Goals as goal

pub returns-then-is_zero-clause-put : goal.returns-then-is_zero-clause-put
returns-then-is_zero-clause-put c =
    rw (told_page c.args.kept.now c.requires.within, ← c.is_zero.ensures.zero, c.if-is_zero.true) c.put.ensures.put

pub returns-clause-put : goal.returns-clause-put
returns-clause-put c =
    let told = rw (← c.is_zero.ensures.zero, c.if-is_zero.false) at (told_page c.args.kept.now c.requires.within) in
    put_three c.args.at c.put-start.result c.put-end.result 1 c.args.kept.now _ _ c.args.into.now c.put-start.new.into
    c.put-end.new.into c.put-2.new.into c.put-start.ensures.put c.put-start.ensures.end c.put-end.ensures.put
    c.put-end.ensures.end c.put-2.ensures.put
    (told ∙ rw (rest_zeros c.args.kept.now c.args.zeros.now c.requires.zeros) refl)
