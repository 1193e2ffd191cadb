-- The lemmas and definitions that proofs above cite, passed on from one place. Declares nothing.
pub use Rattle.std.proofs.Math.Bool.{and-false, and-true, or-false}
pub use Rattle.std.proofs.Math.Nat.{div-lt_iff_lt-mul, mod-eq_of_lt, pow-le-pow_right}
pub use Rattle.std.proofs.Math.Seq.{drop-append_seam, drop-cons, get_or-append_seam, take-append_seam}
pub use Rattle.std.proofs.lemmas.Bool.{agree_below_at, and_from, and_left, and_parts, and_right, cases_Bool, cases_eq}
pub use Rattle.std.proofs.lemmas.Bool.{cases_lt, cond-false, cond-true, cond_both, eq-eqb, eqb-false, eqb-true}
pub use Rattle.std.proofs.lemmas.Bool.{false≢true, le-ltb, leb-true, lt-ltb, ltb-false, ltb-true, ne_eqb, not-false}
pub use Rattle.std.proofs.lemmas.Bool.{not-true, or_parts, or_right, true≢false}
pub use Rattle.std.proofs.lemmas.Bool.Decides.{nat_tests}
pub use Rattle.std.proofs.lemmas.Grind.{common_steps, flat_map-append, get_or-set_at, take_at_read}
pub use Rattle.std.proofs.lemmas.Iterator.{YieldsList-from_slice}
pub use Rattle.std.proofs.lemmas.Iterator.Search.{position_from_yields_List}
pub use Rattle.std.proofs.lemmas.List.{append-nil, append_cancel_left, drop-append-le, drop-drop, drop_all, drop_at}
pub use Rattle.std.proofs.lemmas.List.{drop_more, ext_get_or, get_or-append_right, get_or-drop, get_or-map}
pub use Rattle.std.proofs.lemmas.List.{get_or-replicate, get_or-set_other, get_or-set_same, get_or-take}
pub use Rattle.std.proofs.lemmas.List.{get_or_append_left, get_or_default, get_or_past, length-append, length-drop}
pub use Rattle.std.proofs.lemmas.List.{length-map, length-replicate, length-reverse, length-set, length-take}
pub use Rattle.std.proofs.lemmas.List.{length-take-le, length_push, map-append, map-set, nil_from_length}
pub use Rattle.std.proofs.lemmas.List.{reverse-append, reverse-reverse, take-append-drop, take-append-le, take_all}
pub use Rattle.std.proofs.lemmas.List.{take_at, take_more, take_rest, with_items_is}
pub use Rattle.std.proofs.lemmas.List.Concat.{flat_map-cons}
pub use Rattle.std.proofs.lemmas.List.Elements.{All-append, All-cons, All-drop, All-get_or, All-head, All-nil, All-push}
pub use Rattle.std.proofs.lemmas.List.Elements.{All-tail, filter-append, recursion_from_All}
pub use Rattle.std.proofs.lemmas.List.Folds.{find-append, list_any_at}
pub use Rattle.std.proofs.lemmas.List.FromFn.{get_or-map-range_with_len, length-map-range_with_len}
pub use Rattle.std.proofs.lemmas.List.Sorted.{All-permutation, IsPermutation-sym}
pub use Rattle.std.proofs.lemmas.List.Sums.{sum_by-append, sum_by-cons}
pub use Rattle.std.proofs.lemmas.Nat.{and_mask, pow-add, pow_pos}
pub use Rattle.std.proofs.lemmas.Option.{none-some}
pub use Rattle.std.proofs.lemmas.Result.{err_from_is_err_and}
pub use Rattle.std.proofs.lemmas.Slice.Eq.{bytes_eq-Decides}
pub use Rattle.std.proofs.lemmas.Str.{IsUtf8-from_ascii}
pub use Rattle.board_base.proofs.MergedLemmas.{merged-all, merged-none}
pub use Rattle.board_base.proofs.WidthLemmas.{bytes_few, some_bytes}
pub use Rattle.device_spec.proofs.Levels.{has-levels_where, levels_where-same}
pub use Rattle.device_spec.proofs.PairLaws.{same-levels, settled-asks, settled-quiet}
pub use Rattle.device_spec.proofs.PitPeriods.{phase, phase-self}
pub use Rattle.device_spec.proofs.Priorities.{first_blocking-is, priority_order-small, request-is}
unfoldable pub use Rattle.device_spec.proofs.Priorities.{scan}
pub use Rattle.device_spec.proofs.RoutingLaws.{reserved-rest}
pub use Rattle.board_spec.proofs.DeviceProofs.{disk_of-same, elcr-same, levels-pulsed, levels-same, map-same, out-alone}
pub use Rattle.board_spec.proofs.DeviceProofs.{pair-pulsed, pair_has_seen, timer-pulsed, triggers-pulsed}
pub use Rattle.board_spec.proofs.GoesOnProofs.{begun_goes_on, none_so_far}
pub use Rattle.board_spec.proofs.MapByteLaws.{map_bytes_decide}
pub use Rattle.board_spec.proofs.MapWriteLaws.{map_writes_decide, untouched}
pub use Rattle.board_spec.proofs.OrderLawProofs.{complete_is_begun, front_is_begun, statements-newest, whole_is_front}
pub use Rattle.board_spec.proofs.OrderLengths.{begun_is_bounded, complete_is_whole, whole_is_complete}
pub use Rattle.board_spec.proofs.PartLawProofs.{further, is_cut, total}
unfoldable pub use Rattle.board_spec.proofs.PartLawProofs.{made}
pub use Rattle.board_spec.proofs.StimulusLaws.{applied_again, code_found, word_found}
pub use Rattle.board_spec.proofs.StoreLemmas.{byte_by_byte, changed_byte-one_other, changed_byte-one_same}
pub use Rattle.board_spec.proofs.TableLemmas.{Each, each_below, each_from, listed-before, listed-past}
pub use Rattle.board_prelude.specs.{Abort, Ack, AllByRecursion, AllDigits, AllPairs, AllZip, Any, Appends, Applied}
pub use Rattle.board_prelude.specs.{AreParts, Area, Ata, BadSector, Base, BeginsWith, Bus, Bytes, Card, CardCell, Cell}
pub use Rattle.board_prelude.specs.{Chip, CivilTime, Clock, Config, Contains, CounterState, Covers, Decoded, Denial}
pub use Rattle.board_prelude.specs.{Dev, Device, Disk, Dram, DramCell, Entry, Event, Fetch, FitsBytes, FittedCard, Four}
pub use Rattle.board_prelude.specs.{Global, HardwareStrobe, HasPhases, HasPhasesSoFar, IoBase, IsAddressed, IsAnswer}
pub use Rattle.board_prelude.specs.{IsAtLoad, IsBase, IsBegunFor, IsBusAccess, IsCard, IsCardList, IsCompleteFor}
pub use Rattle.board_prelude.specs.{IsDisk, IsDiskSize, IsExpansionRom, IsFlatMapOf, IsInRange, IsLegal, IsMoment}
pub use Rattle.board_prelude.specs.{IsNext, IsPart, IsPermutation, IsReplayOf, IsRight, IsRomSize, IsScriptSector}
pub use Rattle.board_prelude.specs.{IsScripted, IsSetup, IsSpan, IsWholePhase, IsWideAccess, Keeps, Keyboard, Kind}
pub use Rattle.board_prelude.specs.{LegalKeepsLock, Levels, Line, Look, MapChange, MapRange, Medium, Memory, MemoryBase}
pub use Rattle.board_prelude.specs.{Mode, Moment, NeighboursDiffer, NoRegister, One, OneFlatMap, OneReplay, OneShot}
pub use Rattle.board_prelude.specs.{OutsideBase, Pair, Part, Parts, PitState, Port, PortAccess, Pulses, PulsesAddUp}
pub use Rattle.board_prelude.specs.{Read, Reg, Register, Reply, Reset, Rises, Rom, Routes, SameMapBytes, Saw, Setup}
pub use Rattle.board_prelude.specs.{Shadow, Smram, SoftwareStrobe, Spurious, Stimulus, Store, System, Target}
pub use Rattle.board_prelude.specs.{TerminalCount, Three, Tiles, Time, Two, Vec, Wide, WideAccess, Width, Window, Wire}
pub use Rattle.board_prelude.specs.{Word, Write, abort_denial, acknowledged, acknowledged_if, address_count}
pub use Rattle.board_prelude.specs.{after_reset, after_write, alarm_fits, alarm_rings, and_zero_r, answers_outside}
pub use Rattle.board_prelude.specs.{applied, applied_by, area_text, area_under, base_reset, base_text, base_value}
pub use Rattle.board_prelude.specs.{base_writable, bits_of_base, blocks_itself, boundary, boundary_unit, bridge, byte}
pub use Rattle.board_prelude.specs.{byte_put, byte_with, bytes_of, card_area, card_at, card_byte, card_register}
pub use Rattle.board_prelude.specs.{changed_byte, chip_after_even_write, chip_after_inputs, chip_after_ocw2}
pub use Rattle.board_prelude.specs.{chip_after_odd_write, chip_after_word, chip_at_reset, clock_data_port}
pub use Rattle.board_prelude.specs.{clock_index_port, concat, config_address_port, config_port, config_register}
pub use Rattle.board_prelude.specs.{config_store, control_after, control_of, control_reset, control_written, covers}
pub use Rattle.board_prelude.specs.{days_in_month, denial_in, denial_text, device, device_at, device_in, device_port}
pub use Rattle.board_prelude.specs.{device_reached, device_text, digits_value, disk_of, dram_byte, drb, drives, elcr_of}
pub use Rattle.board_prelude.specs.{entries_by, entry_limit, entry_put, enumerate_from, event_applied, events_by}
pub use Rattle.board_prelude.specs.{expansion_rom, fdhc, find, first_cell, first_of, first_window, from_le_bytes}
pub use Rattle.board_prelude.specs.{function_exists, function_lines, has, has_rom, hex_byte, hex_digit, hex_long}
pub use Rattle.board_prelude.specs.{hex_number, hex_offset, hole_of, hour_byte, ide, ide_command, idetim, idetim_high}
pub use Rattle.board_prelude.specs.{in_file_order, installed, interrupt, into_iter_items, io_window, io_windows}
pub use Rattle.board_prelude.specs.{is_bios_selected, is_bit, is_blocking, is_complete, is_config_port, is_covered}
pub use Rattle.board_prelude.specs.{is_disk_length, is_enabled, is_enabled_for, is_hard_reset, is_hard_value}
pub use Rattle.board_prelude.specs.{is_host_byte, is_in, is_in_hole, is_map_byte, is_odd_port, is_periodic, is_port_of}
pub use Rattle.board_prelude.specs.{is_requested, is_rom_on, is_rom_selected, is_same, is_shadow_range, is_shadowed}
pub use Rattle.board_prelude.specs.{is_slave_port, is_smram_open, is_smram_range, is_within, is_write, isa}
pub use Rattle.board_prelude.specs.{join_with_byte, joined, kept_address, kept_of_base, kept_size, kind_text}
pub use Rattle.board_prelude.specs.{largest_of, latches_after, level_text, level_with, levels_at_power_on, levels_of}
pub use Rattle.board_prelude.specs.{levels_of_byte, lies_in, line, line_feed, line_of_route, line_set, line_where}
pub use Rattle.board_prelude.specs.{list_all, list_any, listed, log_text, long_bytes, longest_at, map_text}
pub use Rattle.board_prelude.specs.{master_inputs, memory_denial, memory_of_cards, memory_put, memory_size}
pub use Rattle.board_prelude.specs.{memory_target, memory_window, memory_windows, merged, moment_of, moment_text}
pub use Rattle.board_prelude.specs.{most_card_memory, most_phases, most_pulses, most_statements, next_entry, no_levels}
pub use Rattle.board_prelude.specs.{nobody, number_byte, option_and_then, option_eq, option_map, option_map_or}
pub use Rattle.board_prelude.specs.{option_or, option_to_list, outside_answer, own_level, pair_accessed}
pub use Rattle.board_prelude.specs.{pair_acknowledged, pair_acknowledged_at, pair_after, pair_after_lines}
pub use Rattle.board_prelude.specs.{pair_after_read, pair_after_write, pair_at_reset, pair_reset_or_after, pair_stepped}
pub use Rattle.board_prelude.specs.{pam, pam_register, part_at, parts_list, parts_of, pirq, pirq_level, pirq_levels}
pub use Rattle.board_prelude.specs.{pirq_of_card, port_value, position, position_or_len, power_on, priority_order, put}
pub use Rattle.board_prelude.specs.{range_text, range_with_len, reg_after, register_change, register_text}
pub use Rattle.board_prelude.specs.{reset_control_port, resets_hard, result_ok, rom_denial, rom_value, rom_window}
pub use Rattle.board_prelude.specs.{rom_window_of, rom_writable, route_reset, routes_after_write, routes_of, settled}
pub use Rattle.board_prelude.specs.{six_areas, size_text, smram, smram_after, smram_range, space, statement_of}
pub use Rattle.board_prelude.specs.{statements_of, stimulus_form, stimulus_of_code, stimulus_of_word, string_bytes}
pub use Rattle.board_prelude.specs.{target_at, target_text, time_bytes, timer_accessed, to_le_bytes, top_of}
pub use Rattle.board_prelude.specs.{touches_map, triggers_at_reset, two_digits, unselected, unselected_windows}
pub use Rattle.board_prelude.specs.{upper_memory, value_at, value_bytes, value_text, version_of, vga_window, w32, w64}
pub use Rattle.board_prelude.specs.{w8, who_answered, wide, width_text, window_bits, with_items, with_level}
pub use Rattle.board_prelude.specs.{without_level, word_at, written, xbcs}
unfoldable pub use Rattle.board_prelude.specs.{access_numbered, after_stores, answer_of, area_of, asks_for_load}
unfoldable pub use Rattle.board_prelude.specs.{byte_of, byte_of_levels, card_function, chip_after_read}
unfoldable pub use Rattle.board_prelude.specs.{chip_after_write, clock_of, complete, config_address, control}
unfoldable pub use Rattle.board_prelude.specs.{count_down, count_to_end, count_to_strobe, days_of_months, days_of_years}
unfoldable pub use Rattle.board_prelude.specs.{days_since_1980, denial_of, device_value, digits, disk_with, event_text}
unfoldable pub use Rattle.board_prelude.specs.{first_blocking, first_selectable, host_bridge, ide_function, io_claim}
unfoldable pub use Rattle.board_prelude.specs.{io_shut, irq_of, is_line_driven, isa_bridge, levels_where, levels_with}
unfoldable pub use Rattle.board_prelude.specs.{line_text, lines_text, map_change_of, map_writes_of, memory_answer}
unfoldable pub use Rattle.board_prelude.specs.{memory_claim, memory_shut, out_of, pair_after_acknowledge, pair_of}
unfoldable pub use Rattle.board_prelude.specs.{pair_pulsed, part_answer, parts_from, parts_put, pending, plain_of}
unfoldable pub use Rattle.board_prelude.specs.{port_answer, port_read, port_target_of, pulse, pulse_by_mode, pulses}
unfoldable pub use Rattle.board_prelude.specs.{pulses_of, read_back_chosen, registers_after, reply_text, request, reset}
unfoldable pub use Rattle.board_prelude.specs.{reset_byte, reset_control, rises, rom_unselected, row_of, set_gate2}
unfoldable pub use Rattle.board_prelude.specs.{status_byte, stored_of, take_byte, take_low, timer_of, triggers_of}
unfoldable pub use Rattle.board_prelude.specs.{weekday_of, wide_value, wire_of, writable_bits, write, write_control}
