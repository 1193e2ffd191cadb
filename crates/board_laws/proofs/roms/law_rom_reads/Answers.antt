use Rattle.board_laws.proofs.RomReads.{others_stay, reads_byte_by_byte, value_changes}
use Rattle.board_laws.proofs.roms.law_rom_reads.Goals as goal

pub returns : goal.returns
returns c = record { bytes = reads_byte_by_byte; others = others_stay; value = value_changes }
