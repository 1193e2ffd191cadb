use Rattle.std.proofs.Common.{Result, Ok, Err, OnOk}
use Rattle.map_builder.proofs.flat_map.FlatMap.save_state.Goals as goal

always : {A E : Type 0} (result : Result A E) (P : Type 0) → P → OnOk result P
always (Ok value) P is = is
always (Err fault) P is = tt

pub returns-clause-sound : goal.returns-clause-sound
returns-clause-sound c = λ setup bytes are. always c.push_windows.result _ (rw (← c.self.view_is) (record {
  saved = record {
    regs = c.in_ok-save_state.ensures.sound setup bytes (rw (← c.self.view_is) at are);
    version = c.is_doubleword.ensures.doubleword;
    changed = rw (← c.as_slice-windows.ensures.items)
        (record { count = c.as_slice-windows.ensures.fits; each = c.are_wide.ensures.widths });
  };
  whole = c.self.invariant;
}))
