-- The spans that the worked examples look at, the flat maps, the histories with looks, and both orders of the script
-- for two processors.
use Rattle.std.proofs.Common.{ℕ, ◌≡◌, ◌+◌, ◌-◌, ◌<◌, ◌≤◌, ◌≢◌, Bool, true, false, ◌∷◌, [], nat_lt, refl, List, arith}
use Rattle.std.proofs.Common.{inr, ◌∙◌, ◌&&◌, not, if◌then◌else◌, map, replicate, All, rules, inl, drop, flat_map}
use Rattle.board_prelude.proofs.{nat_tests, Kind, is_within, Setup, Bytes, Area, is_rom_selected, is_smram_range}
use Rattle.board_prelude.proofs.{row_of, area_of, memory_claim, IsSpan, address_count, xbcs, Fetch, Read, Write, bridge}
use Rattle.board_prelude.proofs.{pam, is_smram_open, fdhc, drb, MapRange, IsRight, NeighboursDiffer, byte_of}
use Rattle.board_prelude.proofs.{reset_byte, writable_bits, host_bridge, isa_bridge, config_address, reset_control}
use Rattle.board_prelude.proofs.{card_function, denial_of, memory_shut, rom_unselected, port_target_of, stored_of}
use Rattle.board_prelude.proofs.{port_answer, memory_answer, map_change_of, map_writes_of, ide_function, io_claim}
use Rattle.board_prelude.proofs.{io_shut, events_by, statement_of, AllByRecursion, top_of, first_of, card_area}
use Rattle.board_prelude.proofs.{option_map, Window, is_covered, memory_windows, is_enabled_for}
use Rattle.board_base.specs.declared.target.Area.TheVariants.{Abort, Dram, Rom, Smram}
use Rattle.std.proofs.lemmas.List.Elements.{All-from_recursion}
use Rattle.board_examples.specs.Basics.{small_board, two_cards, two_cards_at_one_address, moved_card}
use Rattle.board_examples.specs.Basics.{card_moved_under_the_rom, TwoCardsAtOneAddress, CardMovedUnderTheRom}
use Rattle.board_examples.specs.Maps.{range, smram_range, smram_written, map_round, MapAfterReset, MapOpenAndClosed}
use Rattle.board_examples.specs.Maps.{MapClosedToData, MapOfSmm, map_after_reset as ranges, IsMapAfter}
use Rattle.board_examples.specs.Words.{from_reset}
use Rattle.board_examples.specs.Roms.{rom_card_board, expansion_rom, ExpansionRom}
use Rattle.board_examples.specs.Windows.{look_in_smm, LookInSmm}
use Rattle.board_examples.specs.Orders.{addressed, opened, sees_rom, look_last, LookLast, LookFirst, LookAlone}
use Rattle.board_examples.specs.Orders.{LookTooEarly, look_first}
use Rattle.board_examples.specs.OutsideBases.{frame_board, outside_base, OutsideBaseRead}
use Rattle.board_examples.proofs.Lines.{legal}

-- a span where other areas answer before it and after it
pub inner_span : {setup : Setup} {bytes : Bytes} {addr lo hi : ℕ} {kind : Kind} {smm : Bool} {area : Area} →
    (lo ≤ addr) × (addr ≤ hi) × (hi < address_count) →
    ((x : ℕ) → lo ≤ x → x ≤ hi → area_of setup bytes x kind smm ≡ area) →
    (area_of setup bytes (lo - 1) kind smm ≢ area) × (area_of setup bytes (hi + 1) kind smm ≢ area) →
    IsSpan setup bytes addr kind smm lo hi area
inner_span place same beside =
    record { above = place.0; below = place.1; last = place.2; same = same; begins = inr beside.0; ends = inr beside.1 }

-- past the memory, and with XBCS as after a reset, the cards alone answer between 1 MiB and the last 64 KiB

abbrev claimed : Setup → Bytes → ℕ → Area
claimed setup bytes x = first_of (option_map card_area (memory_claim setup bytes x) ∷ []) Abort

far_area : (setup : Setup) (bytes : Bytes) (kind : Kind) (smm : Bool) (x : ℕ) → bytes xbcs ≡ 3 → top_of bytes ≤ x →
    0x10_0000 ≤ x → x < 0xFFFF_0000 → area_of setup bytes x kind smm ≡ claimed setup bytes x
unfolding area_of row_of
far_area setup bytes kind smm x selected past far before = grind (arith, nat_tests)

far_span : {setup : Setup} {bytes : Bytes} {addr lo hi : ℕ} {kind : Kind} {smm : Bool} {area : Area} →
    (lo ≤ addr) × (addr ≤ hi) × (hi < 0xFFFF_0000) → (top_of bytes ≤ lo) × (0x10_0000 ≤ lo) × (bytes xbcs ≡ 3) →
    ((x : ℕ) → lo ≤ x → x ≤ hi → claimed setup bytes x ≡ area) →
    (area_of setup bytes (lo - 1) kind smm ≢ area) × (area_of setup bytes (hi + 1) kind smm ≢ area) →
    IsSpan setup bytes addr kind smm lo hi area
far_span {setup = setup} {bytes = bytes} place far same beside =
    inner_span (place.0, place.1, omega (arith, place.2)) (λ x from to.
    far_area setup bytes _ _ x far.2 (omega (arith, far.0)) (omega (arith, far.1)) (omega (arith, place.2))
    ∙ same x from to) beside

-- in a window that is enabled and the first of all
first_span : {setup : Setup} {bytes : Bytes} {addr lo hi : ℕ} {kind : Kind} {smm : Bool} (window : Window)
    (later : List Window) → flat_map (memory_windows bytes) setup.cards ≡ window ∷ later →
    is_enabled_for 1 bytes window.dev ≡ true → (lo ≤ addr) × (addr ≤ hi) × (hi < 0xFFFF_0000) →
    (top_of bytes ≤ lo) × (0x10_0000 ≤ lo) × (bytes xbcs ≡ 3) →
    ((x : ℕ) → lo ≤ x → x ≤ hi → is_covered x window ≡ true) →
    (area_of setup bytes (lo - 1) kind smm ≢ card_area window)
    × (area_of setup bytes (hi + 1) kind smm ≢ card_area window) →
    IsSpan setup bytes addr kind smm lo hi (card_area window)
unfolding memory_claim
first_span window later windows on place far covered beside =
    far_span place far (λ x from to. rw (windows, on, covered x from to) refl) beside

-- ---- the flat map after reset and after a write to SMRAM, range by range: the register matters in its own range alone

-- the registers are as after a reset, but for SMRAM
pub record IsPlain (bytes : Bytes) : Type 0 where
  pub first : bytes (drb 0) ≡ 1
  pub last : bytes (drb 7) ≡ 1
  pub hole : bytes fdhc ≡ 0
  pub rom : bytes xbcs ≡ 3
  pub bios : bytes (pam 0) ≡ 0
  pub pams : map (λ k. bytes (bridge k)) (0x5A ∷ 0x5B ∷ 0x5C ∷ 0x5D ∷ 0x5E ∷ 0x5F ∷ []) ≡ replicate 6 0

-- who answers then, by whether SMRAM is open
abbrev pub plain_area : Bool → ℕ → Area
plain_area opened x =
    if is_smram_range x && opened then Smram else
    if nat_lt x 0x80_0000 && not (is_within 0xA_0000 0xF_FFFF x) then Dram 0 else
    if is_rom_selected 0x03 x then Rom else Abort

module _ (bytes : Bytes) (plain : IsPlain bytes) where
  pub area_is : (x : ℕ) (kind : Kind) (smm : Bool) →
      area_of small_board bytes x kind smm ≡ plain_area (is_smram_open bytes kind smm) x
  unfolding area_of row_of memory_claim
  area_is x kind smm = grind (arith, nat_tests)

  -- the six areas of an address that go by whether SMRAM is open
  abbrev by_smram : (Bool → Area) → List Area
  by_smram areas =
      map areas
      (is_smram_open bytes Fetch false ∷ is_smram_open bytes Read false ∷ is_smram_open bytes Write false
      ∷ is_smram_open bytes Fetch true ∷ is_smram_open bytes Read true ∷ is_smram_open bytes Write true ∷ [])

  right : (lo hi : ℕ) (areas : Bool → Area) → ((x : ℕ) → lo ≤ x → x ≤ hi → (kind : Kind) (smm : Bool) →
      plain_area (is_smram_open bytes kind smm) x ≡ areas (is_smram_open bytes kind smm)) →
      IsRight small_board bytes (record { lo = lo; hi = hi; areas = by_smram areas })
  right lo hi areas each = record {
    at_each = λ x from to.
        let is = λ (kind : Kind) (smm : Bool). area_is x kind smm ∙ each x from to kind smm in simp is;
  }

  low_dram : IsRight small_board bytes (range 0x0 0x9_FFFF (Dram 0))
  low_dram = right _ _ (λ _. Dram 0) (λ x from to kind smm. grind (arith, nat_tests))

  -- those of the ROM, and past it
  last_right : AllByRecursion (IsRight small_board bytes) (drop 2 ranges)
  last_right = (
    right _ _ (λ _. Rom) (λ x from to kind smm. grind (arith, nat_tests)),
    (
      right _ _ (λ _. Dram 0) (λ x from to kind smm. grind (arith, nat_tests)),
      (
        right _ _ (λ _. Abort) (λ x from to kind smm. grind (arith, nat_tests)),
        (right _ _ (λ _. Rom) (λ x from to kind smm. grind (arith, nat_tests)), tt),
      ),
    ),
  )

  abbrev smram_area : Bool → Area
  smram_area opened = if opened then Smram else Abort

  smram : IsRight small_board bytes (record { lo = 0xA_0000; hi = 0xB_FFFF; areas = by_smram smram_area })
  smram = right 0xA_0000 0xB_FFFF smram_area (λ x from to kind smm. grind (arith, nat_tests))

  all_right : (middle : MapRange) → IsRight small_board bytes middle →
      All (IsRight small_board bytes) (map_round middle)
  all_right middle is =
      All-from_recursion (IsRight small_board bytes) (map_round middle)
      (low_dram, (is, (right _ _ (λ _. Abort) (λ x from to kind smm. grind (arith, nat_tests)), last_right)))

after_reset : IsPlain (byte_of small_board [])
unfolding byte_of reset_byte host_bridge isa_bridge
after_reset = search rules

after_write : (control : ℕ) → IsPlain (byte_of small_board (smram_written control))
unfolding byte_of config_address reset_control reset_byte writable_bits host_bridge isa_bridge
after_write control = search rules

columns : (control : ℕ) (fetches accesses fetches_in_smm accesses_in_smm : Area) →
    let middle : MapRange = smram_range fetches accesses fetches_in_smm accesses_in_smm in
    IsRight small_board (byte_of small_board (smram_written control)) middle → NeighboursDiffer (map_round middle) →
    IsMapAfter control middle
columns control a b c d is least = record {
  tiles = search (rules, arith);
  right = all_right _ (after_write control) (smram_range a b c d) is;
  least = least;
}

pub maps : MapAfterReset × MapOpenAndClosed × MapClosedToData × MapOfSmm
unfolding MapAfterReset MapOpenAndClosed MapClosedToData MapOfSmm byte_of config_address reset_control reset_byte
    writable_bits host_bridge isa_bridge
maps = (
  record {
    tiles = search (rules, arith);
    right =
        let plain = after_reset in
        All-from_recursion (IsRight small_board (byte_of small_board [])) ranges (
          low_dram _ plain,
          (right _ plain _ _ (λ _. Abort) (λ x from to kind smm. grind (arith, nat_tests)), last_right _ plain),
        );
    least = grind arith;
  },
  columns 0x68 _ _ _ _ (smram _ (after_write 0x68)) (grind arith),
  columns 0x28 _ _ _ _ (smram _ (after_write 0x28)) (grind arith),
  columns 0x08 _ _ _ _ (smram _ (after_write 0x08)) (grind arith),
)

-- ---- the histories with looks

pub looks : TwoCardsAtOneAddress × CardMovedUnderTheRom × ExpansionRom × OutsideBaseRead × LookInSmm
unfolding TwoCardsAtOneAddress CardMovedUnderTheRom ExpansionRom OutsideBaseRead LookInSmm byte_of config_address
    reset_control reset_byte writable_bits host_bridge isa_bridge ide_function card_function row_of area_of denial_of
    memory_claim memory_shut rom_unselected io_claim io_shut stored_of memory_answer port_answer port_target_of
    map_change_of map_writes_of
looks = (
  legal two_cards (from_reset two_cards_at_one_address) (
    record { version = refl; span = inner_span (omega arith) (λ x from to. grind (arith, nat_tests)) (grind arith) },
    tt,
  ) refl,
  legal moved_card (from_reset card_moved_under_the_rom) (
    record { version = refl; span = inner_span (omega arith) (λ x from to. grind (arith, nat_tests)) (grind arith) },
    (
      record { version = refl; span = inner_span (omega arith) (λ x from to. grind (arith, nat_tests)) (grind arith) },
      (
        record {
          version = refl;
          span = inner_span (omega arith) (λ x from to. grind (arith, nat_tests)) (grind arith);
        },
        tt,
      ),
    ),
  ) refl,
  legal rom_card_board (from_reset expansion_rom) (
    record {
      version = refl;
      span = far_span (omega arith) (search (rules, arith), omega arith, refl) (λ x from to. refl) (grind arith);
    },
    (
      record { version = refl; span = inner_span (omega arith) (λ x from to. grind (arith, nat_tests)) (grind arith) },
      tt,
    ),
  ) refl,
  legal frame_board (from_reset outside_base) (
    record {
      version = refl;
      span =
          let past : 0x80_0000 ≤ 0xC000_0000 = omega arith in
          first_span (record { dev = 4; base = 0; inside = 0xC000_0000; bits = 28 }) _ refl refl (omega arith)
          (past, omega arith, refl) (λ x from to. grind (arith, nat_tests)) (grind arith);
    },
    tt,
  ) refl,
  legal small_board (from_reset look_in_smm) (
    record { version = refl; span = inner_span (omega arith) (λ x from to. grind (arith, nat_tests)) (grind arith) },
    tt,
  ) refl,
)

-- ---- both orders

rom_span : IsSpan small_board (byte_of small_board (addressed ∷ [])) 0xF_0000 Read false 0xF_0000 0xF_FFFF Rom
unfolding byte_of config_address reset_control reset_byte writable_bits host_bridge isa_bridge ide_function
    card_function row_of area_of memory_claim
rom_span =
    inner_span (omega arith)
    (λ x from to.
    let plain : IsPlain (byte_of small_board (addressed ∷ [])) = search rules in
    area_is _ plain x Read false ∙ grind (arith, nat_tests)) (grind arith)

pub orders : LookLast × LookFirst × LookAlone × LookTooEarly
unfolding LookLast LookFirst LookAlone LookTooEarly byte_of config_address reset_control reset_byte writable_bits
    host_bridge isa_bridge ide_function card_function row_of area_of denial_of memory_claim memory_shut rom_unselected
    io_claim io_shut stored_of memory_answer port_answer port_target_of map_change_of map_writes_of
orders = (
  (
    record {
      legal = legal small_board look_last (
        record {
          version = refl;
          span = inner_span (omega arith) (λ x from to. grind (arith, nat_tests)) (grind arith);
        },
        tt,
      ) refl;
      same = refl;
    },
    search rules,
  ),
  (
    legal small_board look_first (record { version = refl; span = rom_span }, tt) refl,
    (search rules, (record { size = refl; each = λ actor. grind (arith, nat_tests) }, refl)),
  ),
  (
    legal small_board (sees_rom ∷ addressed ∷ []) (record { version = refl; span = rom_span }, tt) refl,
    inr (
      search rules,
      inl (record {
        size = omega arith;
        each = λ actor.
            record { rest = events_by actor (statement_of opened ∷ []); whole = grind (arith, nat_tests) };
      }),
    ),
  ),
  λ legal. let newer : 1 ≡ 0 = legal.1.0.answer.version in grind (arith, newer),
)
