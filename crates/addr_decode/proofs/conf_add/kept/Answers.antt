use Rattle.addr_decode.proofs.AddressLemmas.{kept_address-again}
use Rattle.addr_decode.proofs.conf_add.kept.Goals as goal

pub returns-clause-again : goal.returns-clause-again
returns-clause-again c = kept_address-again c.args.address
