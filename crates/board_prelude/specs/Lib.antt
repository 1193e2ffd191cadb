-- The definitions that files above cite, passed on from one place. Declares nothing.
unfoldable pub use Rattle.std.specs.Fmt.{digits}
pub use Rattle.std.specs.Global.{Global}
pub use Rattle.std.specs.Int.{from_le_bytes, to_le_bytes, w16, w32, w64, w8}
pub use Rattle.std.specs.Int.Bits.{and_zero_r}
pub use Rattle.std.specs.Io.KnownBytes.{Appends, Keeps}
pub use Rattle.std.specs.List.{AllByRecursion, AllPairs, AllZip, Any, Contains, concat, enumerate_from, find}
pub use Rattle.std.specs.List.{join_with_byte, list_all, list_any, onto_first, position, position_or_len}
pub use Rattle.std.specs.List.{range_with_len}
pub use Rattle.std.specs.List.Sorted.{IsPermutation}
pub use Rattle.std.specs.Option.{option_and_then, option_eq, option_map, option_map_or, option_or, option_to_list}
pub use Rattle.std.specs.Result.{result_ok}
pub use Rattle.std.specs.Str.Parse.{AllDigits, digits_value}
pub use Rattle.std.specs.String.{string_bytes}
pub use Rattle.std.specs.Vec.{with_items}
pub use Rattle.std.specs.Vec.Iter.{into_iter_items}
pub use Rattle.std.specs.declared.vec.Vec.{Vec}
pub use Rattle.board_base.specs.Access.{bytes_of, largest_of}
pub use Rattle.board_base.specs.Bits.{MergedBits, bit, is_bit, is_within, merged}
pub use Rattle.board_base.specs.Calendar.{IsMoment, days_in_month, is_moment, moment_of}
unfoldable pub use Rattle.board_base.specs.Calendar.{days_of_months, days_of_years, days_since_1980, weekday_of}
pub use Rattle.board_base.specs.declared.access.Kind.{Kind}
pub use Rattle.board_base.specs.declared.access.Kind.TheVariants.{Fetch, Read, Write}
pub use Rattle.board_base.specs.declared.access.PortAccess.{PortAccess}
pub use Rattle.board_base.specs.declared.access.WideAccess.{WideAccess}
pub use Rattle.board_base.specs.declared.access.Width.{Width}
pub use Rattle.board_base.specs.declared.access.Width.TheVariants.{One}
pub use Rattle.board_base.specs.declared.moment.Moment.{Moment}
pub use Rattle.board_base.specs.declared.no_memory.NoMemory.{NoMemory}
pub use Rattle.board_base.specs.declared.target.Area.{Area}
pub use Rattle.board_base.specs.declared.target.Denial.{Denial}
pub use Rattle.board_base.specs.declared.target.Denial.TheVariants.{Confadd, NoRegister, Register}
pub use Rattle.board_base.specs.declared.target.Dev.{Dev}
pub use Rattle.board_base.specs.declared.target.Dev.TheVariants.{Ata, Elcr, Keyboard, Pic0, Pic1, Pit, Spurious, System}
pub use Rattle.board_base.specs.declared.target.Dev.TheVariants.{Vector, Wires}
pub use Rattle.board_base.specs.declared.target.Reg.{Reg}
pub use Rattle.board_base.specs.declared.target.Target.{Target}
pub use Rattle.board_base.specs.declared.target.Target.TheVariants.{Abort, Card, Config, Device, Dram, Rom, Shadow}
pub use Rattle.board_base.specs.declared.target.Target.TheVariants.{Smram}
pub use Rattle.device_spec.specs.Ata.Address.{named, naming}
unfoldable pub use Rattle.device_spec.specs.Ata.Identify.{identify_word}
pub use Rattle.device_spec.specs.Ata.State.{Disk, Medium, is_disk_length, is_interrupt, power_on, power_on_drive}
pub use Rattle.device_spec.specs.Ata.State.{power_on_registers, sector_bytes, sectors_of, word_at}
pub use Rattle.device_spec.specs.Ata.Steps.{after_bad, is_ata_port, read_of}
pub use Rattle.device_spec.specs.Clock.{CivilTime, Clock, after_moment, after_read, after_reset, after_write}
pub use Rattle.device_spec.specs.Clock.{alarm_fits, alarm_rings, byte_at, control_of, control_reset, day_at, holds_time}
pub use Rattle.device_spec.specs.Clock.{hour_alarm_at, hour_at, hour_byte, is_24_hour, is_binary, minute_alarm_at}
pub use Rattle.device_spec.specs.Clock.{minute_at, month_at, number_byte, put, read_value, register_a, register_b}
pub use Rattle.device_spec.specs.Clock.{register_c, register_d, second_alarm_at, second_at, time_bytes}
pub use Rattle.device_spec.specs.Clock.{update_interrupts, weekday_at, worth, written, year_at}
pub use Rattle.device_spec.specs.Elcr.{Triggers, trigger_byte, triggers_after_write, triggers_at_reset}
pub use Rattle.device_spec.specs.Levels.{Levels, has, levels_of_byte, no_levels, with_level, without_level}
unfoldable pub use Rattle.device_spec.specs.Levels.{byte_of_levels, levels_where}
pub use Rattle.device_spec.specs.Pair.{Pair, is_odd_port, is_slave_port, levels_at_power_on, master_inputs}
pub use Rattle.device_spec.specs.Pair.{pair_acknowledged, pair_acknowledged_at, pair_after_lines, pair_after_read}
pub use Rattle.device_spec.specs.Pair.{pair_after_write, pair_at_reset, port_byte, settled}
unfoldable pub use Rattle.device_spec.specs.Pair.{answer_of, pair_after_acknowledge}
pub use Rattle.device_spec.specs.Pic.{Chip, Word, acknowledged, acknowledged_if, blocks_itself, cascade}
pub use Rattle.device_spec.specs.Pic.{chip_after_even_write, chip_after_inputs, chip_after_ocw2, chip_after_odd_write}
pub use Rattle.device_spec.specs.Pic.{chip_after_word, chip_at_reset, interrupt, is_blocking, is_complete, is_requested}
pub use Rattle.device_spec.specs.Pic.{last_level, latches_after, priority_order}
unfoldable pub use Rattle.device_spec.specs.Pic.{chip_after_read, chip_after_write, first_blocking, first_selectable}
unfoldable pub use Rattle.device_spec.specs.Pic.{pending, request}
pub use Rattle.device_spec.specs.Pit.{CounterState, HardwareStrobe, Mode, OneShot, PitState, RateGenerator}
pub use Rattle.device_spec.specs.Pit.{SoftwareStrobe, SquareWave, TerminalCount, is_periodic}
unfoldable pub use Rattle.device_spec.specs.Pit.{access_numbered, asks_for_load, complete, control, count_down}
unfoldable pub use Rattle.device_spec.specs.Pit.{count_to_end, count_to_strobe, out_of, port_read, programmed, pulse}
unfoldable pub use Rattle.device_spec.specs.Pit.{pulse_by_mode, pulses, read_back_chosen, reset, rises, set_gate2}
unfoldable pub use Rattle.device_spec.specs.Pit.{status_byte, take_byte, take_low, write, write_control}
pub use Rattle.device_spec.specs.PitLaws.{CountersAreApart, PulsesAddUp}
unfoldable pub use Rattle.device_spec.specs.PitLaws.{pulses_of}
pub use Rattle.device_spec.specs.PitPeriods.{IsAtLoad, RateRepeats, SquareRepeats}
pub use Rattle.device_spec.specs.PortNames.{clock_data_port, clock_index_port, clock_ports, config_address_port}
pub use Rattle.device_spec.specs.PortNames.{disk_control_port, disk_data_port, disk_ports, keyboard_command_port}
pub use Rattle.device_spec.specs.PortNames.{keyboard_data_port, reset_control_port}
pub use Rattle.device_spec.specs.PortTable.{device_at, is_port_of, select_of}
pub use Rattle.device_spec.specs.Routing.{Routes, drives, is_route_offset, line_of_route, route_byte, route_reset}
pub use Rattle.device_spec.specs.Routing.{routes_after_write}
unfoldable pub use Rattle.device_spec.specs.Routing.{is_line_driven}
pub use Rattle.device_spec.specs.Told.{civil_time}
pub use Rattle.device_spec.specs.declared.port.Select.{Select}
pub use Rattle.device_spec.specs.declared.port.Select.TheVariants.{Always, IdeChannel, XbcsBit0, XbcsBit1}
pub use Rattle.board_spec.specs.Answer.{IsAnswer, IsSeen, answers_outside, base_of_card, bits_of_base, memory_denial}
pub use Rattle.board_spec.specs.Answer.{memory_target, outside_answer, port_value, rom_bits, target_at, value_at}
pub use Rattle.board_spec.specs.Answer.{window_bits}
unfoldable pub use Rattle.board_spec.specs.Answer.{memory_answer, part_answer, port_answer, wide_value}
pub use Rattle.board_spec.specs.Bits.{byte, long_bytes, wide}
pub use Rattle.board_spec.specs.Decode.{Bytes, Window, abort_denial, area_under, base_value, boundary, card_area}
pub use Rattle.board_spec.specs.Decode.{command_of, denial_in, first_of, first_window, hole_of, io_window, io_windows}
pub use Rattle.board_spec.specs.Decode.{is_bios_selected, is_covered, is_enabled_for, is_high_window, is_in, is_in_hole}
pub use Rattle.board_spec.specs.Decode.{is_open, is_rom_on, is_rom_selected, is_shadow_range, is_shadowed}
pub use Rattle.board_spec.specs.Decode.{is_smram_open, is_smram_range, line_where, memory_window, memory_windows}
pub use Rattle.board_spec.specs.Decode.{nibble, pam_register, rom_denial, rom_value, rom_window, rom_window_of}
pub use Rattle.board_spec.specs.Decode.{smram_answers, top_of, unselected_windows, vga_window}
unfoldable pub use Rattle.board_spec.specs.Decode.{area_of, denial_of, io_claim, io_shut, memory_claim, memory_shut}
unfoldable pub use Rattle.board_spec.specs.Decode.{rom_unselected, row_of}
pub use Rattle.board_spec.specs.DeviceLaws.{NamesDevice}
pub use Rattle.board_spec.specs.Devices.{PlainPorts, SystemPort, clock_accessed, clock_after, device_in, device_reached}
pub use Rattle.board_spec.specs.Devices.{disk_accessed, disk_after, disk_of, line_set, plain_accessed, plain_after}
pub use Rattle.board_spec.specs.Devices.{plain_at_reset, plain_value, system_of, timer_accessed, timer_after}
pub use Rattle.board_spec.specs.Devices.{triggers_accessed, triggers_after, wire_set}
unfoldable pub use Rattle.board_spec.specs.Devices.{clock_of, disk_with, irq_of, plain_of, timer_of, triggers_of}
unfoldable pub use Rattle.board_spec.specs.Devices.{wire_of}
pub use Rattle.board_spec.specs.FlatMap.{IsFlatMapOf, IsRight, IsSpan, MapRange, NeighboursDiffer, Tiles, address_count}
pub use Rattle.board_spec.specs.FlatMap.{six_areas}
pub use Rattle.board_spec.specs.InRange.{FitsAccess, FitsBytes, IsBusAccess, IsInRange, IsScriptSector, IsScripted}
pub use Rattle.board_spec.specs.InRange.{IsWideAccess, is_free_line}
pub use Rattle.board_spec.specs.Interrupts.{acknowledged_by, all_lines, elcr_of, level_with, levels_of, own_level}
pub use Rattle.board_spec.specs.Interrupts.{pair_accessed, pair_after, pair_reset_or_after, pair_stepped, pirq_level}
pub use Rattle.board_spec.specs.Interrupts.{pirq_levels, pirq_of_card, pirqs, routes_of, system_value, vector_of}
pub use Rattle.board_spec.specs.Interrupts.{who_answered}
unfoldable pub use Rattle.board_spec.specs.Interrupts.{device_value, levels_with, pair_of, pair_pulsed}
pub use Rattle.board_spec.specs.Laws.{IsAddressed, LegalKeepsLock, MapBytesDecide, MapWritesDecide, OneAnswer}
pub use Rattle.board_spec.specs.Laws.{OneFlatMap, OneReplay, OneSpan, SameMapBytes, SomeAnswer, SomeSpan}
pub use Rattle.board_spec.specs.Legal.{IsLegal, IsNext, entries_by, next_entry}
pub use Rattle.board_spec.specs.Limits.{entry_limit, most_card_memory, most_mib, most_phases, most_pulses}
pub use Rattle.board_spec.specs.Limits.{most_statements}
pub use Rattle.board_spec.specs.LockLaw.{LockLaw}
pub use Rattle.board_spec.specs.LogText.{access_text, answered_text, applied_text, kind_text, level_text, log_text}
pub use Rattle.board_spec.specs.LogText.{look_text, memory_text, moment_text, port_text, size_text, smm_text}
pub use Rattle.board_spec.specs.LogText.{two_digits, value_bytes, value_text, wide_text, width_text, written_text}
unfoldable pub use Rattle.board_spec.specs.LogText.{event_text, line_text, lines_text, reply_text}
pub use Rattle.board_spec.specs.MapText.{areas_text, map_text, range_text}
pub use Rattle.board_spec.specs.MapWrites.{has_rom, is_host_byte, is_map_byte, reg_after, touches_map, version_of}
unfoldable pub use Rattle.board_spec.specs.MapWrites.{map_change_of, map_writes_of, registers_after}
pub use Rattle.board_spec.specs.OrderLaws.{in_file_order}
pub use Rattle.board_spec.specs.Orders.{BeginsWith, HasPhases, HasPhasesSoFar, IsBegunFor, IsCompleteFor, IsReplayOf}
pub use Rattle.board_spec.specs.Orders.{IsWholePhase, events_by, statement_of, statements_of}
pub use Rattle.board_spec.specs.PartLaws.{AreParts, Covers, IsPart}
pub use Rattle.board_spec.specs.Ports.{Decoded, config_port, device, device_port, nobody, other_port, unselected}
unfoldable pub use Rattle.board_spec.specs.Ports.{port_target_of}
pub use Rattle.board_spec.specs.Ranges.{boundary_unit, expansion_range, extended_bios, high_bios, hole_at_15_mib}
pub use Rattle.board_spec.specs.Ranges.{hole_at_512_kib, largest_top, lies_in, lower_bios, lower_high_bios}
pub use Rattle.board_spec.specs.Ranges.{selectable_bios, shadow_range, smram_range, system_bios, upper_memory}
pub use Rattle.board_spec.specs.RegisterNames.{base_register, bridge, card_command, card_register, drb, expansion_rom}
pub use Rattle.board_spec.specs.RegisterNames.{fdhc, ide, ide_command, idetim, idetim_high, interrupt_line, is_same}
pub use Rattle.board_spec.specs.RegisterNames.{isa, pam, pirq, smram, xbcs}
pub use Rattle.board_spec.specs.RegisterTable.{base_reset, base_writable, function_exists, function_lines, line, listed}
pub use Rattle.board_spec.specs.RegisterTable.{rom_writable}
unfoldable pub use Rattle.board_spec.specs.RegisterTable.{card_function, host_bridge, ide_function, isa_bridge}
unfoldable pub use Rattle.board_spec.specs.RegisterTable.{reset_byte, writable_bits}
pub use Rattle.board_spec.specs.Registers.{address_written, bus_of, byte_with, changed_byte, config_register}
pub use Rattle.board_spec.specs.Registers.{config_store, control_after, control_written, covers, device_of, function_of}
pub use Rattle.board_spec.specs.Registers.{is_config_port, is_enabled, is_hard_reset, is_hard_value, kept_address}
pub use Rattle.board_spec.specs.Registers.{register_change, register_of, resets_hard, smram_after}
unfoldable pub use Rattle.board_spec.specs.Registers.{byte_of, config_address, reset_control}
pub use Rattle.board_spec.specs.Setup.{Base, FittedCard, IoBase, IsBase, IsCard, IsCardList, IsDisk, IsDiskSize}
pub use Rattle.board_spec.specs.Setup.{IsExpansionRom, IsRomSize, IsSetup, MemoryBase, OutsideBase, Rises, Setup}
pub use Rattle.board_spec.specs.Setup.{card_at, installed, is_base_in_range, is_rom_in_range, is_rom_size, kept_of_base}
pub use Rattle.board_spec.specs.Setup.{kept_size, memory_of_cards, memory_size, rom_base, vga_base, vga_bits}
pub use Rattle.board_spec.specs.Stimuli.{applied, applied_by, event_applied, stimulus_form, stimulus_of_code}
pub use Rattle.board_spec.specs.Stimuli.{stimulus_of_word}
pub use Rattle.board_spec.specs.Stored.{CardCell, Cell, DramCell, byte_put, card_byte, dram_byte, entry_put}
pub use Rattle.board_spec.specs.Stored.{expansion_byte, first_cell, is_write, memory_put}
unfoldable pub use Rattle.board_spec.specs.Stored.{parts_put, stored_of}
pub use Rattle.board_spec.specs.Text.{area_text, base_text, denial_text, device_text, device_worded, hex_byte}
pub use Rattle.board_spec.specs.Text.{hex_digit, hex_long, hex_number, hex_offset, line_feed, named_devices}
pub use Rattle.board_spec.specs.Text.{register_text, space, target_text}
pub use Rattle.board_spec.specs.WideParts.{joined, longest_at, part_at, parts_list, parts_of}
unfoldable pub use Rattle.board_spec.specs.WideParts.{parts_from}
pub use Rattle.board_spec.specs.WideStores.{ByteByByte}
unfoldable pub use Rattle.board_spec.specs.WideStores.{after_stores}
pub use Rattle.board_spec.specs.declared.event.Entry.{Entry}
pub use Rattle.board_spec.specs.declared.event.Event.{Event}
pub use Rattle.board_spec.specs.declared.event.Event.TheVariants.{Ack, BadSector, Line, Memory, Port, Pulses, Time}
pub use Rattle.board_spec.specs.declared.event.Event.TheVariants.{Wide, Wire}
pub use Rattle.board_spec.specs.declared.event.Look.{Look}
pub use Rattle.board_spec.specs.declared.event.Part.{Part}
pub use Rattle.board_spec.specs.declared.event.Parts.{Parts}
pub use Rattle.board_spec.specs.declared.event.Parts.TheVariants.{Four, Three, Two}
pub use Rattle.board_spec.specs.declared.event.Reply.{Reply}
pub use Rattle.board_spec.specs.declared.event.Reply.TheVariants.{Bus, Saw}
pub use Rattle.board_spec.specs.declared.event.Statement.{Statement}
pub use Rattle.board_spec.specs.declared.map_change.MapChange.{MapChange}
pub use Rattle.board_spec.specs.declared.map_change.MapChange.TheVariants.{Reset, Store}
pub use Rattle.board_spec.specs.declared.stimulus.Applied.{Applied}
pub use Rattle.board_spec.specs.declared.stimulus.Stimulus.{Stimulus}
