-- The registers by the names of their datasheets: the 82441FX, the 82371SB, and PCI Local Bus 2.1, section 6.2.
use Rattle.std.specs.Prelude.{ℕ, ◌+◌, ◌*◌, ◌==◌, Bool, ◌&&◌}
use Rattle.board_base.specs.declared.target.Reg.{Reg}
use Rattle.device_spec.specs.Routing.{first_route}

-- a register of the host bridge, of the ISA bridge, of the IDE function and of a card, by its offset
abbrev pub bridge : ℕ → Reg
bridge off = record { dev = 0; fun = 0; off = off }

abbrev pub isa : ℕ → Reg
isa off = record { dev = 1; fun = 0; off = off }

abbrev pub ide : ℕ → Reg
ide off = record { dev = 1; fun = 1; off = off }

abbrev pub card_register : ℕ → ℕ → Reg
card_register dev off = record { dev = dev; fun = 0; off = off }

-- ---- the host bridge

-- PAM0 to PAM6, the programmable attribute maps (82441FX)
abbrev pub pam : ℕ → Reg
pam k = bridge (0x59 + k)

-- DRB0 to DRB7, the DRAM row boundaries (82441FX)
abbrev pub drb : ℕ → Reg
drb row = bridge (0x60 + row)

-- the fixed DRAM hole (82441FX, FDHC)
abbrev pub fdhc : Reg
fdhc = bridge 0x68

-- SMRAM control (82441FX)
abbrev pub smram : Reg
smram = bridge 0x72

-- ---- the ISA bridge and the IDE function

-- the X-bus chip selects (82371SB, XBCS)
abbrev pub xbcs : Reg
xbcs = isa 0x4E

-- PIRQRCA to PIRQRCD, the routes of the PCI interrupts (82371SB)
abbrev pub pirq : ℕ → Reg
pirq k = isa (first_route + k)

abbrev pub ide_command : Reg
ide_command = ide 0x04

-- IDETIM of the primary channel, its low and its high byte (82371SB)
abbrev pub idetim : Reg
idetim = ide 0x40

abbrev pub idetim_high : Reg
idetim_high = ide 0x41

-- ---- cards

abbrev pub card_command : ℕ → Reg
card_command dev = card_register dev 0x04

-- the first byte of base address register k
abbrev pub base_register : ℕ → ℕ → Reg
base_register dev k = card_register dev (0x10 + 4 * k)

-- the first byte of the expansion ROM base address register
abbrev pub expansion_rom : ℕ → Reg
expansion_rom dev = card_register dev 0x30

abbrev pub interrupt_line : ℕ → Reg
interrupt_line dev = card_register dev 0x3C

-- two names are of one register
abbrev pub is_same : Reg → Reg → Bool
is_same a b = a.dev == b.dev && a.fun == b.fun && a.off == b.off
