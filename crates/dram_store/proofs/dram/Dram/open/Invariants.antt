use Rattle.std.proofs.Common.{◌≡◌, length, All}
use Rattle.dram_store.specs.Bank.{IsBank, IsZero}
use Rattle.dram_store.proofs.dram.Dram.open.Given as goal

abbrev pub invariant-loop : goal.invariant-loop
invariant-loop l = record {
  count : length l.banks.items ≡ l.counter;
  each : All IsBank l.banks.items;
  zeros : All IsZero l.banks.items;
}
