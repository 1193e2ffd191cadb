-- The histories of memory and ports without looks, the examples of the machines, of the devices and of the interrupt
-- lines are computed from the definitions, and so are the versions and what the lock law says of a history that breaks
-- it.
use Rattle.std.proofs.Common.{ℕ, ◌≡◌, ◌%◌, ◌<◌, length, slice_index, arith, ◌/◌, [], ◌∷◌, refl, inl, inr, rules}
use Rattle.board_prelude.proofs.{length-map-range_with_len, get_or-map-range_with_len, reset, map_change_of}
use Rattle.board_prelude.proofs.{map_writes_of, wire_of, irq_of, triggers_of, levels_with, pair_pulsed, pair_of}
use Rattle.board_prelude.specs.{reset_byte, writable_bits, host_bridge, isa_bridge, ide_function, card_function}
use Rattle.board_prelude.specs.{byte_of, config_address, reset_control, row_of, area_of, denial_of, memory_claim}
use Rattle.board_prelude.specs.{memory_shut, rom_unselected, io_claim, io_shut, port_target_of, stored_of, port_answer}
use Rattle.board_prelude.specs.{memory_answer, programmed, out_of, plain_of, timer_of, clock_of, device_value}
use Rattle.board_prelude.specs.{disk_with, parts_put, parts_from, part_answer, wide_value}
use Rattle.board_examples.specs.Basics.{counting_rom, ShadowingTheBios, OneWindowForWrites, MemoryAfterReset}
use Rattle.board_examples.specs.Basics.{ConfigurationPorts, SmramLockedUntilReset, VgaBesideSmram, NoRowOfDram}
use Rattle.board_examples.specs.Basics.{CardInTheHole, HoleAt512Kib, XbcsOverASoftReset, RomAfterReset}
use Rattle.device_spec.specs.Clock.{power_on}
use Rattle.board_examples.specs.Stories.{ExtendedBios, LowerBios, HoleBorders, RowBorders, OpenAndClosed}
use Rattle.board_examples.specs.Stories.{ResetControlWritten, AddressInWords, CardPorts, PortsUnderXbcs, BasesInOrder}
use Rattle.board_examples.specs.Stories.{large_rom}
use Rattle.board_examples.specs.Ports.{NobodySelected, WordsAtBytePorts, BasePastThePorts, ShutOverDevices}
use Rattle.board_examples.specs.Ports.{BasesByNumber, WordsAtChips}
use Rattle.board_examples.specs.Masks.{HostWritten, IsaWritten, IdeWritten, CardWritten, VgaWritten, FunctionsToldApart}
use Rattle.board_examples.specs.Resets.{BridgesAfterReset, CardsAfterReset}
use Rattle.board_examples.specs.Wide.{CutInParts, OverSmram, PastTheMemory}
use Rattle.board_examples.specs.Windows.{WindowsByKind}
use Rattle.board_examples.specs.Roms.{ShutBeforeUnselected}
use Rattle.board_examples.specs.Machines.Words.{given, told, after_lines}
use Rattle.board_examples.specs.Machines.Pair.{initialised, NobodyIsReady, SpuriousAnswers, ALevelStays, AnEdgeIsKept}
use Rattle.board_examples.specs.Machines.Pair.{TheHigherEndsFirst, ANewBeginning, AShortSequence, SpecialMask}
use Rattle.board_examples.specs.Machines.Pair.{ChosenRegisters, Polls, PollsOfOne, ResetAtLevels, EachCommand}
use Rattle.board_examples.specs.Machines.Pair.{AutomaticEnd, ModesEnd, FullyNested, Cascaded}
use Rattle.board_examples.specs.Machines.Timer.{Ports, AfterReset, ReadBackOf0, Counters1And2, OnePeriod, EachMode}
use Rattle.board_examples.specs.Machines.Timer.{EachCount, EachGate, BytesAndLatches}
use Rattle.board_examples.specs.Machines.Disk.{passed, filled, PastTheEnd, BadInTheMiddle, ReadToItsEnd, BadIsWritten}
use Rattle.board_examples.specs.Machines.Disk.{WrittenIsGood, WordsOfSector3, LowByteFirst, CommandEnds}
use Rattle.board_examples.specs.Machines.Disk.{WordsTheWrongWay, Writes, Resets, Commands, Addresses, Identify, Lengths}
use Rattle.board_examples.specs.Machines.Disk.{DiskPorts}
use Rattle.board_examples.specs.Devices.{TimerLatched, SystemPort, FallenLine, NestedInterrupts, Polled, RoutedWire}
use Rattle.board_examples.specs.Devices.{ClockTold}
use Rattle.board_examples.specs.Interrupts.{EachPulse, GatedCounter, ClockInterrupts, DiskInterrupts, SharedWires}
use Rattle.board_examples.specs.Interrupts.{FreeLines, DevicesOverReset, MaskBeforeIcw1, DiskOverReset}
use Rattle.board_examples.specs.Disk.{four_sectors, SectorRead, BadSector, DisabledDisk, NoDisk}
use Rattle.board_examples.proofs.Lines.{legal}
use Rattle.board_examples.specs.Versions.{UnseenWrites, SeenWrites, AccessBreaksLock, PartBreaksLock, LookBreaksLock}
use Rattle.board_examples.specs.Versions.{WordBreaksLock}
use Rattle.device_spec.specs.Levels.{levels_where, byte_of_levels}
use Rattle.device_spec.specs.Pic.{pending, first_selectable, request, chip_after_write, byte_read, chip_after_read}
use Rattle.device_spec.specs.Pic.{first_blocking}
use Rattle.device_spec.specs.Pair.{answer_of, pair_after_acknowledge}
use Rattle.device_spec.specs.Ata.Commands.{begin_read, sector_read, begin_write, sector_written, verified, obeyed}
use Rattle.device_spec.specs.Ata.Commands.{commanded}
use Rattle.device_spec.specs.Ata.Steps.{after_word, word_written, register_written, control_written}
use Rattle.device_spec.specs.Ata.Identify.{identify_word}
use Rattle.device_spec.specs.Routing.{is_line_driven}
use Rattle.device_spec.specs.Pit.{mode_numbered, access_numbered, count_of_number, low_byte, high_byte, element_bytes}
use Rattle.device_spec.specs.Pit.{status_byte, latch_count, latch_status, control, read_back, read_live, read}
use Rattle.device_spec.specs.Pit.{asks_for_load, complete, take_low, take_byte, write, gate_rises, gate_falls, load}
use Rattle.device_spec.specs.Pit.{count_down, count_to_end, count_to_reload, count_half, count_to_strobe, pulse_by_mode}
use Rattle.device_spec.specs.Pit.{pulse, port_read, read_back_chosen, write_control, port_write, set_gate2, pulse_all}
use Rattle.device_spec.specs.Pit.{pulses, rises}

pub rom_size : length counting_rom ≡ 0x1_0000
unfolding counting_rom
rom_size = length-map-range_with_len (λ off. off % 0x100) 0 0x1_0000

rom_byte : (off : ℕ) → off < 0x1_0000 → slice_index counting_rom off ≡ off % 0x100
unfolding counting_rom
rom_byte off inside = get_or-map-range_with_len (λ off. off % 0x100) 0 0x1_0000 off off 0 inside (omega arith)

large_size : length large_rom ≡ 0x4_0000
unfolding large_rom
large_size = length-map-range_with_len (λ off. off / 0x400) 0 0x4_0000

large_byte : (off : ℕ) → off < 0x4_0000 → slice_index large_rom off ≡ off / 0x400
unfolding large_rom
large_byte off inside = get_or-map-range_with_len (λ off. off / 0x400) 0 0x4_0000 off off 0 inside (omega arith)

pub histories :
    (ShadowingTheBios × OneWindowForWrites × MemoryAfterReset × ConfigurationPorts × SmramLockedUntilReset ×
    VgaBesideSmram × NoRowOfDram × CardInTheHole × HoleAt512Kib × XbcsOverASoftReset × RomAfterReset) × (ExtendedBios
    × LowerBios) × (HoleBorders × RowBorders × OpenAndClosed × ResetControlWritten × AddressInWords × CardPorts ×
    PortsUnderXbcs × BasesInOrder × NobodySelected × WordsAtBytePorts × BasePastThePorts × ShutOverDevices ×
    BasesByNumber × HostWritten × IsaWritten × IdeWritten × CardWritten × VgaWritten × FunctionsToldApart ×
    BridgesAfterReset × CardsAfterReset × CutInParts × OverSmram × PastTheMemory × WindowsByKind ×
    ShutBeforeUnselected)
unfolding ShadowingTheBios OneWindowForWrites MemoryAfterReset ConfigurationPorts SmramLockedUntilReset VgaBesideSmram
    NoRowOfDram CardInTheHole HoleAt512Kib XbcsOverASoftReset RomAfterReset ExtendedBios LowerBios HoleBorders
    RowBorders OpenAndClosed ResetControlWritten AddressInWords CardPorts PortsUnderXbcs BasesInOrder NobodySelected
    WordsAtBytePorts BasePastThePorts ShutOverDevices BasesByNumber HostWritten IsaWritten IdeWritten CardWritten
    VgaWritten FunctionsToldApart BridgesAfterReset CardsAfterReset CutInParts OverSmram PastTheMemory WindowsByKind
    ShutBeforeUnselected byte_of config_address reset_control reset_byte writable_bits host_bridge isa_bridge
    ide_function card_function row_of area_of denial_of memory_claim memory_shut rom_unselected io_claim io_shut
    stored_of memory_answer port_answer port_target_of parts_put parts_from part_answer wide_value device_value plain_of
    timer_of clock_of reset programmed out_of power_on disk_with
histories = (search (legal, rom_size, rom_byte, arith), search (legal, large_size, large_byte, arith), search legal)

pub versions : UnseenWrites × SeenWrites × AccessBreaksLock × PartBreaksLock × LookBreaksLock × WordBreaksLock
unfolding UnseenWrites SeenWrites AccessBreaksLock PartBreaksLock LookBreaksLock WordBreaksLock map_change_of
    map_writes_of config_address reset_control
versions = (
  refl,
  refl,
  λ law. law.locked [] [] _ _ _ refl (refl, refl) tt refl refl,
  λ law. law.locked [] [] _ _ _ refl (refl, refl) tt refl (inr (inl refl)),
  λ law. law.locked [] [] _ _ _ refl (refl, refl) tt refl refl,
  λ law. law.locked [] (_ ∷ _ ∷ _ ∷ []) _ _ _ refl (refl, refl) (refl, (refl, (refl, tt))) refl refl,
)

-- ---- the machines and the devices

pub pair :
    NobodyIsReady × SpuriousAnswers × ALevelStays × AnEdgeIsKept × TheHigherEndsFirst × ANewBeginning × AShortSequence
    × SpecialMask × ChosenRegisters × Polls × PollsOfOne × ResetAtLevels × EachCommand × AutomaticEnd × FullyNested ×
    Cascaded × ModesEnd
unfolding NobodyIsReady SpuriousAnswers ALevelStays AnEdgeIsKept TheHigherEndsFirst ANewBeginning AShortSequence
    SpecialMask ChosenRegisters Polls PollsOfOne ResetAtLevels initialised given told after_lines levels_where
    byte_of_levels pending first_selectable request chip_after_write byte_read chip_after_read first_blocking answer_of
    pair_after_acknowledge
pair = search rules

pub timer :
    AfterReset × ReadBackOf0 × Counters1And2 × OnePeriod × EachMode × EachCount × EachGate × BytesAndLatches × Ports
unfolding AfterReset ReadBackOf0 Counters1And2 given told after_lines mode_numbered access_numbered programmed
    count_of_number low_byte high_byte element_bytes status_byte latch_count latch_status control read_back read_live
    read asks_for_load complete take_low take_byte write gate_rises gate_falls load count_down count_to_end
    count_to_reload count_half count_to_strobe pulse_by_mode pulse reset port_read read_back_chosen write_control
    port_write set_gate2 out_of pulse_all pulses rises
timer = search (rules, arith)

pub disk :
    (PastTheEnd × BadInTheMiddle × ReadToItsEnd × BadIsWritten × WrittenIsGood × WordsOfSector3 × LowByteFirst ×
    CommandEnds × WordsTheWrongWay × DiskPorts) × (Writes × Resets × Commands) × (Addresses × Identify × Lengths)
unfolding PastTheEnd BadInTheMiddle ReadToItsEnd BadIsWritten WrittenIsGood WordsOfSector3 LowByteFirst CommandEnds
    WordsTheWrongWay given told passed filled begin_read sector_read begin_write sector_written verified obeyed
    commanded after_word word_written register_written control_written identify_word
disk = (search rules, search rules, search rules)

pub devices :
    (TimerLatched × SystemPort × FallenLine × NestedInterrupts × Polled × RoutedWire × ClockTold × EachPulse ×
    GatedCounter × ClockInterrupts × DiskInterrupts × SharedWires × FreeLines × DevicesOverReset × MaskBeforeIcw1 ×
    DiskOverReset × WordsAtChips) × (SectorRead × BadSector × DisabledDisk × NoDisk)
unfolding TimerLatched SystemPort FallenLine NestedInterrupts Polled RoutedWire ClockTold EachPulse GatedCounter
    ClockInterrupts DiskInterrupts SharedWires FreeLines DevicesOverReset MaskBeforeIcw1 DiskOverReset WordsAtChips
    io_claim io_shut reset_byte writable_bits isa_bridge byte_of config_address reset_control port_target_of port_answer
    wire_of irq_of triggers_of plain_of timer_of clock_of levels_with pair_pulsed pair_of device_value levels_where
    byte_of_levels pending first_selectable request first_blocking chip_after_write byte_read chip_after_read answer_of
    pair_after_acknowledge is_line_driven low_byte high_byte count_of_number mode_numbered access_numbered programmed
    element_bytes status_byte latch_count latch_status control read_back read_live read asks_for_load complete take_low
    take_byte write gate_rises gate_falls load count_down count_to_end count_to_reload count_half count_to_strobe
    pulse_by_mode pulse reset port_read read_back_chosen write_control port_write set_gate2 out_of pulse_all pulses
    rises power_on ide_function disk_with begin_read sector_read begin_write sector_written verified obeyed commanded
    after_word word_written register_written control_written SectorRead BadSector DisabledDisk NoDisk four_sectors
devices = (search legal, (search legal, search legal, search legal, search legal))
