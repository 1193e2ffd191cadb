-- What is still to be read, after the bases so far, is all that is read, and they took their memory.
use Rattle.std.proofs.Common.{◌≡◌, ◌-◌, length, map, sum_by}
use Rattle.board_spec.specs.Setup.{memory_size}
use Rattle.pci_bars.specs.Bases.{base_of}
use Rattle.board_image.specs.ImageFields.{bases_fields}
use Rattle.byte_fields.proofs.Loops.{with_front}
use Rattle.board_image.proofs.card_reader.bases.Given as goal

abbrev pub invariant-loop : goal.invariant-loop
invariant-loop l = record {
  read : with_front (map base_of l.bases.items)
      (bases_fields l.outside (l.count - l.counter) l.room l.fields) ≡ bases_fields l.outside l.count l.fn.room l.fn.fields;
  count : length l.bases.items ≡ l.counter;
  room : l.room ≡ l.fn.room - sum_by memory_size (map base_of l.bases.items);
}
