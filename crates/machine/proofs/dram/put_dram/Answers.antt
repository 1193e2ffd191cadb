use Rattle.std.proofs.Common.{◌+◌, ◌*◌, take, arith}
use Rattle.byte_fields.specs.Pages.{memory_page, memory_bytes}
use Rattle.machine.specs.Room.{page_of}
use Rattle.machine.proofs.Puts.{put_length, put_none, put_then}
use Rattle.machine.proofs.Pages.{front_fits, no_memory, page_on, size_on}
use Rattle.machine.proofs.dram.put_dram.Goals as goal

pub loop-kept-init : goal.loop-kept-init
loop-kept-init c = record {
  put = rw no_memory (put_none c.args.at c.args.into.now (omega (arith, c.requires.room)));
  end = rw no_memory (omega arith);
  within = omega arith;
}

pub put_page-end-requires-clause-room : goal.put_page-end-requires-clause-room
put_page-end-requires-clause-room c =
    let next =
    size_on c.args.dram.now c.in-Some.kept.now c.loop-kept.page c.in-Some.ensures.some c.in-Some.ensures.bytes in
    omega (
      arith,
      front_fits c.args.dram.now (c.loop-kept.page + 1) c.in-Some.ensures.some,
      put_length _ _ _ _ c.loop-kept.invariant.put,
    )

pub loop-kept-preserved : goal.loop-kept-preserved
loop-kept-preserved c =
    let next =
    size_on c.args.dram.now c.in-Some.kept.now c.loop-kept.page c.in-Some.ensures.some c.in-Some.ensures.bytes in
    record {
      put =
          put_then c.args.at c.loop-kept.end (memory_bytes (take (c.loop-kept.page * memory_page) c.args.dram.now))
          (memory_bytes (page_of c.in-Some.kept.now)) _ c.args.into.now c.loop-kept.into c.put_page-end.new.into
          c.loop-kept.invariant.put c.loop-kept.invariant.end c.put_page-end.ensures.put
          (page_on c.args.dram.now c.in-Some.kept.now c.loop-kept.page c.in-Some.ensures.some c.in-Some.ensures.bytes);
      end = omega arith;
      within = c.in-Some.ensures.some;
    }
