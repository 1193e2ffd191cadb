use Rattle.std.proofs.Common.{arith}
use Rattle.machine_records.proofs.PortCycles.{in_ports, none_done, never_refused, cycle_bytes, next_cycle, all_done}
use Rattle.machine_records.proofs.port_access.do_cycles.Goals as goal

pub loop-done-init : goal.loop-done-init
loop-done-init c =
    let access = c.args.access.now in
    record {
      within = omega arith;
      index = omega arith;
      on =
          none_done access c.args.machine.now c.args.reply.now
          (in_ports access.addr access.bytes access.value c.requires.in_range).few;
    }

pub cycle_at-cycle-requires-clause-bytes : goal.cycle_at-cycle-requires-clause-bytes
cycle_at-cycle-requires-clause-bytes c =
    let access = c.args.access.now in (in_ports access.addr access.bytes access.value c.requires.in_range).few

pub cycle_at-cycle-requires-clause-ends : goal.cycle_at-cycle-requires-clause-ends
cycle_at-cycle-requires-clause-ends c =
    let access = c.args.access.now in (in_ports access.addr access.bytes access.value c.requires.in_range).ends

pub do_cycle-requires : goal.do_cycle-requires
do_cycle-requires c = record {
  taken =
      never_refused c.args.access.now c.loop-done.done c.cycle_at-cycle.result c.requires.in_range c.requires.reads
      c.loop-done-test.true c.cycle_at-cycle.ensures.said;
}

pub join-requires-clause-index : goal.join-requires-clause-index
join-requires-clause-index c =
    let access = c.args.access.now in
    let all = in_ports access.addr access.bytes access.value c.requires.in_range in
    omega (arith, all.few, c.loop-done.invariant.index, c.loop-done-test.true)

pub join-requires-clause-bytes : goal.join-requires-clause-bytes
join-requires-clause-bytes c =
    let access = c.args.access.now in
    let all = in_ports access.addr access.bytes access.value c.requires.in_range in
    let some = cycle_bytes access c.loop-done.done _ c.loop-done-test.true c.cycle_at-cycle.ensures.said in
    omega (arith, all.few, some.1)

pub overflow_add-index : goal.overflow_add-index
overflow_add-index c =
    let access = c.args.access.now in
    let all = in_ports access.addr access.bytes access.value c.requires.in_range in
    omega (arith, all.few, c.loop-done.invariant.index, c.loop-done-test.true)

pub overflow_add-done : goal.overflow_add-done
overflow_add-done c =
    let access = c.args.access.now in
    let all = in_ports access.addr access.bytes access.value c.requires.in_range in
    let some = cycle_bytes access c.loop-done.done _ c.loop-done-test.true c.cycle_at-cycle.ensures.said in
    omega (arith, all.few, some.1)

pub loop-done-preserved : goal.loop-done-preserved
loop-done-preserved c =
    let access = c.args.access.now in
    let said = c.cycle_at-cycle.ensures.said in
    let some = cycle_bytes access c.loop-done.done _ c.loop-done-test.true said in
    record {
      within = some.1;
      index = omega (arith, some.0, c.loop-done.invariant.index);
      on =
          rw (c.join.ensures.joined)
          (next_cycle access c.loop-done.index c.loop-done.done _ _ _ _ _ _ _ c.loop-done-test.true said
          c.do_cycle.ensures.step c.loop-done.invariant.on);
    }

pub returns : goal.returns
returns c = record {
  cycles =
      all_done c.args.access.now c.loop-done.index c.loop-done.done _ _ _ _
      (omega (arith, c.loop-done-test.false)) c.loop-done.invariant.on;
}
