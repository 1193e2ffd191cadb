use Rattle.std.proofs.Common.{arith}
use Rattle.addr_decode.specs.MapRegs.{map_bytes}
use Rattle.addr_decode.specs.Edges.{edges_after}
use Rattle.map_builder.proofs.RebuildLemmas.{first_below, order_at, sweep_first, above, sweep_agrees, sweep_next}
use Rattle.map_builder.proofs.RebuildLemmas.{sweep_end, rows_at}
use Rattle.map_builder.proofs.build.sweep.Goals as goal

pub index_of-from-requires : goal.index_of-from-requires
index_of-from-requires g c = record { tiles = c.requires.beside.tiles }

pub cut_below-cut-requires-clause-holds : goal.cut_below-cut-requires-clause-holds
cut_below-cut-requires-clause-holds g c = rw c.saturating_sub.ensures at c.index_of-from.ensures.holds

pub cut_below-cut-requires-clause-below : goal.cut_below-cut-requires-clause-below
cut_below-cut-requires-clause-below g c = first_below _ c.requires.some c.requires.rise c.requires.beside

pub loop-index-init : goal.loop-index-init
loop-index-init g c = record {
  sweep = sweep_first c.args.windows.now c.requires.some c.requires.rise c.requires.beside c.rows_in-last.ensures.fits
      c.rows_in-last.ensures.built;
  rows = λ setup bytes stands.
      let rows = c.rows_in-last.ensures.rows setup bytes stands in
      let step = c.cut_below-cut.ensures.step in
      omega (arith, rows_at (edges_after setup bytes) c.args.windows.now 0 c.requires.some);
  from = omega (arith, c.saturating_sub.ensures, order_at c.args.windows.now 0 c.requires.some c.requires.rise);
}

pub keep-last-requires-clause-kept : goal.keep-last-requires-clause-kept
keep-last-requires-clause-kept g c = record {
  regs = map_bytes c.args.regs.now;
  board = c.requires.board;
  built = c.loop-index.invariant.sweep.built;
  agrees = sweep_agrees c.args.windows.now c.loop-index.index (omega arith) c.loop-index.invariant.sweep;
}

pub row_at-last-requires-clause-built : goal.row_at-last-requires-clause-built
row_at-last-requires-clause-built g c =
    c.keep-last.ensures.built (map_bytes c.args.regs.now) c.loop-index.invariant.sweep.built
    (sweep_agrees c.args.windows.now c.loop-index.index (omega arith) c.loop-index.invariant.sweep)

pub loop-index-preserved : goal.loop-index-preserved
loop-index-preserved g c = record {
  sweep = sweep_next c.args.windows.now c.loop-index.index (omega arith) c.loop-index.invariant.sweep
      c.rows_in-last-in-loop-index.ensures.fits c.rows_in-last-in-loop-index.ensures.built;
  rows = λ setup bytes stands.
      let rows = c.loop-index.invariant.rows setup bytes stands in
      let more = c.rows_in-last-in-loop-index.ensures.rows setup bytes stands in
      let step = c.row_at-last.ensures.step in
      omega (arith, rows_at (edges_after setup bytes) c.args.windows.now c.loop-index.index (omega arith));
  from =
      let order = order_at c.args.windows.now c.loop-index.index (omega arith) c.loop-index.invariant.sweep.rise in
      omega (arith, above c.args.windows.now c.loop-index.index (omega arith) c.loop-index.invariant.sweep);
}

pub finish-requires-clause-kept : goal.finish-requires-clause-kept
finish-requires-clause-kept g c = record {
  regs = map_bytes c.args.regs.now;
  board = c.requires.board;
  built = c.loop-index.invariant.sweep.built;
  agrees = sweep_end c.args.windows.now c.loop-index.index (omega arith) c.loop-index.invariant.sweep;
}

pub returns-clause-whole : goal.returns-clause-whole
returns-clause-whole g c =
    c.finish.ensures.whole (map_bytes c.args.regs.now) c.requires.board c.loop-index.invariant.sweep.built
    (sweep_end c.args.windows.now c.loop-index.index (omega arith) c.loop-index.invariant.sweep)
