use Rattle.ata_pio.proofs.ata.Ata.write_register.Goals as goal

pub invariant_of-self-in-1014 : goal.invariant_of-self-in-1014
invariant_of-self-in-1014 c = c.write_control.ensures.within _ c.self.invariant
