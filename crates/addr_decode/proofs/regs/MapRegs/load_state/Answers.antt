use Rattle.std.proofs.Common.{sym}
use Rattle.std.proofs.lemmas.Result.{IfOk-weaker}
use Rattle.byte_fields.proofs.Loaded.{loads}
use Rattle.pci_bars.specs.Cards.{AreFitted}
use Rattle.addr_decode.proofs.CardLemmas.{fitted_list}
use Rattle.addr_decode.proofs.StateFormat.{regs_format}
use Rattle.addr_decode.proofs.regs.MapRegs.load_state.Goals as goal

pub returns : goal.returns
returns c =
    let loaded = loads (regs_format c.args.specs.now) _ _ _ c.are_bytes.ensures.bytes c.read_state.ensures.took in
    record {
      loaded = loaded;
      fitted = IfOk-weaker _ _ (λ regs. AreFitted regs.cards.items)
          (λ regs told. fitted_list regs.cards.items _ (sym told.0.cards.same) c.requires.cards) loaded.loaded;
    }
