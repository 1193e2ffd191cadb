use Rattle.std.proofs.Common.{◌≡◌, length, All}
use Rattle.dram_store.specs.Bank.{IsBank}
use Rattle.dram_store.specs.State.{dram_fields}
use Rattle.dram_store.proofs.StateFormats.{AreRead}
use Rattle.dram_store.proofs.dram.Dram.read_state.Given as goal

abbrev pub invariant-loop : goal.invariant-loop
invariant-loop l = record {
  read : AreRead l.mib l.counter l.banks.items l.fields (dram_fields l.mib l.fn.fields);
  count : length l.banks.items ≡ l.counter;
  each : All IsBank l.banks.items;
}
