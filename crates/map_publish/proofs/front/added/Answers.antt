use Rattle.std.proofs.Common.{sym, ap, refl}
use Rattle.map_publish.proofs.Adding.{adds_moves}
use Rattle.map_publish.proofs.front.added.Goals as goal

pub compare_exchange-found-requires : goal.compare_exchange-found-requires
compare_exchange-found-requires c =
    let head = c.requires.head in
    let again = c.again-seen.ensures in
    let asked = c.requires.asked in
    let pen = c.no_pen-pen.ensures in (
      ap (λ w. w.tracked) head,
      rw (again, head) refl,
      rw (pen.0, again, head) refl,
      rw (asked.0, again) refl,
      rw (ap (λ w. w.key) head, pen.1, asked.1, again, c.from-old.ensures)
          (adds_moves c.args.seen.now.log c.args.asked.ask c.args.count (sym c.requires.count)),
    )
