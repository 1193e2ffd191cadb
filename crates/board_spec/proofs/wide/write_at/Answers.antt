use Rattle.board_spec.proofs.WideLemmas.{put_two, put_four}
use Rattle.board_spec.proofs.wide.write_at.Goals as goal

pub returns-in-Two-clause-bytes : goal.returns-in-Two-clause-bytes
returns-in-Two-clause-bytes c =
    let fits = rw c.in-Two.is at c.requires.within in
    rw c.in-Two.is (λ k. put_two c.args.bytes.now c.write_u16.new.buf c.args.at c.args.value k fits c.write_u16.ensures)

pub returns-in-Four-clause-bytes : goal.returns-in-Four-clause-bytes
returns-in-Four-clause-bytes c =
    let fits = rw c.in-Four.is at c.requires.within in
    rw c.in-Four.is (λ k. put_four c.args.bytes.now c.write_u32.new.buf c.args.at c.args.value k fits
    c.write_u32.ensures)
