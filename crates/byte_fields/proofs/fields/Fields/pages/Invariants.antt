use Rattle.std.proofs.Common.{◌≡◌, ◌≤◌, ◌-◌, length, take, drop}
use Rattle.byte_fields.specs.Pages.{pages_fields}
use Rattle.byte_fields.proofs.Loops.{with_front}
use Rattle.byte_fields.proofs.fields.Fields.pages.Given as goal

abbrev pub invariant-loop-done : goal.invariant-loop-done
invariant-loop-done l = record {
  read : with_front (take l.done l.into)
      (pages_fields l.size (drop l.done l.into) l.self) ≡ pages_fields l.size l.fn.into l.fn.self;
  long : length l.into ≡ length l.fn.into;
  within : l.done ≤ length l.into;
}

abbrev pub decreases-loop-done : goal.decreases-loop-done
decreases-loop-done l = length l.into - l.done
