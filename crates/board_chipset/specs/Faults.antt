-- Why a board was not opened, by why its disk was not.
use Rattle.ata_pio.specs.declared.ata.AtaOpen.{AtaOpen}
use Rattle.ata_pio.specs.declared.ata.AtaOpen.TheVariants.{BadLength, NoMemory as NoDiskMemory}
use Rattle.board_chipset.specs.declared.setup.BoardOpen.{BoardOpen}
use Rattle.board_chipset.specs.declared.setup.BoardOpen.TheVariants.{BadDisk, NoMemory}

abbrev pub fault_of : AtaOpen → BoardOpen
fault_of BadLength = BadDisk
fault_of NoDiskMemory = NoMemory
