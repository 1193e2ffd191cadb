-- Why no chipset was loaded of bytes over a setup that a board can have.
use Rattle.board_chipset.specs.declared.state_fault.StateFault.{StateFault}
use Rattle.board_chipset.specs.declared.state_fault.StateFault.TheVariants.{Setup, OtherVersion, Bad, NoMemory}

-- a field is bad, or there was no memory
abbrev pub IsOfBytes : StateFault → Type 0
IsOfBytes (Setup fault) = ⊥
IsOfBytes OtherVersion = ⊥
IsOfBytes (Bad at) = Unit {0}
IsOfBytes NoMemory = Unit {0}
