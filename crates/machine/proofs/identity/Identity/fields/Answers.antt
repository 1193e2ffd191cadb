use Rattle.machine.proofs.identity.Identity.fields.Goals as goal

pub returns : goal.returns
returns c = record { fields = cc }
