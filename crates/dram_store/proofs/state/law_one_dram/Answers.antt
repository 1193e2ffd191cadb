use Rattle.byte_fields.proofs.Loaded.{one_spelling}
use Rattle.dram_store.proofs.StateFormats.{dram_format}
use Rattle.dram_store.proofs.state.law_one_dram.Goals as goal

pub returns : goal.returns
returns c = record { one = λ mib. one_spelling (dram_format mib) }
