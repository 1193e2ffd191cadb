use Rattle.board_chipset.proofs.chipset.Chipset.load_state.Goals as goal

pub returns-clause-only_bad : goal.returns-clause-only_bad
returns-clause-only_bad c = λ at fits not_other bad. c.load_version.ensures.only_bad at bad
