use Rattle.board_chipset.proofs.chipset.Chipset.holds_registers.Goals as goal

pub returns : goal.returns
returns c = record { some = (c.map.ensures.sound.registers.bytes, c.map.ensures.sound.registers.kept) }
