use Rattle.config_regs.proofs.south.South.write.Goals as goal

pub returns-in-1 : goal.returns-in-1
returns-in-1 c = record {
  written = rw c.in-1.is
      (λ setup bytes is. record { routes = is.routes; ide = c.write-in-1.ensures.written setup bytes is.ide });
}
