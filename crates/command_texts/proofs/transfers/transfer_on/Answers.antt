use Rattle.std.proofs.Common.{refl, ◌∙◌}
use Rattle.bus_master.specs.Registers.{register_of}
use Rattle.command_texts.proofs.TransferTexts.{cells_left, transfer_told, ok_then}
use Rattle.command_texts.proofs.transfers.transfer_on.Goals as goal

pub returns : goal.returns
unfolding register_of
returns c =
    let setup = c.args.replay.chipset.setup in
    let old = c.into_store-store.result in
    let new = c.transfer-done.new.store in
    record {
      text = λ history played.
          let of = c.into_store-store.ensures.store history played in
          ok_then c.transfer_text.result c.transfer_text.ensures.text (λ text lines.
          transfer_told setup history c.args.transfer.now old new c.start-master.result c.transfer-done.new.self
          c.transfer-done.result c.port_read-status.result c.dram_sum.result c.disk_sum.result text _ refl
          c.start-master.ensures.started (c.into_store-store.ensures.disk history played)
          (cells_left setup history old (c.into_store-store.ensures.dram history played)
          (c.into_store-store.ensures.contents history played))
          (c.transfer-done.ensures.shape.memory ∙ of.memory) (c.transfer-done.ensures.done setup _ of)
          (c.transfer-done.ensures.registers setup _ of) (c.transfer-done.ensures.disk setup _ of)
          (λ cell there. c.transfer-done.ensures.cells setup _ cell of there)
          c.port_read-status.ensures.value c.dram_sum.ensures.sum c.disk_sum.ensures.sum lines);
    }
