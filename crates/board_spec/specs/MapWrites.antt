-- Map writes: the changes of the registers that the address map depends on, and how many there were.
use Rattle.std.specs.Prelude.{ℕ, ◌+◌, ◌==◌, Bool, true, false, ◌&&◌, ◌||◌, List, [], ◌∷◌, ◌++◌, length, take, Option}
use Rattle.std.specs.Prelude.{Some, None, is_some, option_and_then, if◌then◌else◌}
use Rattle.std.specs.List.{list_any}
use Rattle.std.specs.Option.{option_to_list}
use Rattle.board_base.specs.declared.target.Reg.{Reg}
use Rattle.board_base.specs.Access.{bytes_of}
use Rattle.board_spec.specs.declared.event.Event.{Event}
use Rattle.board_spec.specs.declared.event.Entry.{Entry}
use Rattle.board_spec.specs.declared.map_change.MapChange.{MapChange}
use Rattle.board_spec.specs.declared.map_change.MapChange.TheVariants.{Store, Reset}
use Rattle.board_spec.specs.Setup.{FittedCard, Setup, card_at}
use Rattle.board_spec.specs.Bits.{is_within}
use Rattle.board_spec.specs.RegisterNames.{pam, fdhc, smram, xbcs, card_command, base_register, expansion_rom, is_same}
use Rattle.board_spec.specs.RegisterTable.{reset_byte}
use Rattle.board_spec.specs.Registers.{register_change, changed_byte}

-- a card has an expansion ROM
abbrev pub has_rom : Option FittedCard → Bool
has_rom None = false
has_rom (Some card) = is_some card.rom

-- the offsets of those of the host bridge that the address map depends on: PAM, DRB, FDHC and SMRAM
abbrev pub is_host_byte : ℕ → Bool
is_host_byte off = is_within (pam 0).off fdhc.off off || off == smram.off

-- the bytes that the address map depends on: PAM, DRB, FDHC and SMRAM of 00.0, XBCS of 01.0, the command and
-- the bases of each card, and the register of each expansion ROM
abbrev pub is_map_byte : Setup → Reg → Bool
is_map_byte setup reg =
    reg.dev == 0 && reg.fun == 0 && is_host_byte reg.off
    || is_same reg xbcs
    || is_some (card_at setup reg.dev) && reg.fun == 0
    && (reg.off == (card_command reg.dev).off
    || is_within (base_register reg.dev 0).off ((base_register reg.dev 5).off + 3) reg.off)
    || has_rom (card_at setup reg.dev) && reg.fun == 0
    && is_within (expansion_rom reg.dev).off ((expansion_rom reg.dev).off + 3) reg.off

-- the register this many bytes after another
abbrev pub reg_after : Reg → ℕ → Reg
reg_after reg k = record reg { off = reg.off + k }

-- a change covers a map byte, whether or not it changes it
abbrev pub touches_map : Setup → MapChange → Bool
touches_map setup Reset = true
touches_map setup (Store reg width value) =
    list_any (λ k. is_map_byte setup (reg_after reg k)) (take (bytes_of width) (0 ∷ 1 ∷ 2 ∷ 3 ∷ []))

-- the map write that an event after a history is
unfoldable pub map_change_of : Setup → List Entry → Event → Option MapChange
map_change_of setup before event =
    option_and_then (λ change. if touches_map setup change then Some change else None)
    (register_change setup before event)

-- the map writes of a history, the newest first, and the version of the map
unfoldable pub map_writes_of : Setup → List Entry → List MapChange
map_writes_of setup [] = []
map_writes_of setup (entry ∷ before) =
    option_to_list (map_change_of setup before entry.event) ++ map_writes_of setup before

abbrev pub version_of : Setup → List Entry → ℕ
version_of setup history = length (map_writes_of setup history)

-- the registers after a list of changes from reset on, the newest first
unfoldable pub registers_after : Setup → List MapChange → Reg → ℕ
registers_after setup [] reg = reset_byte setup reg
registers_after setup (change ∷ before) reg = changed_byte setup change reg (registers_after setup before reg)
