-- Each byte of a read is the one that a read of that byte alone gives.
use Rattle.board_prelude.proofs.{common_steps, nat_tests, get_or_past, Width, One, bytes_of, largest_of, Entry, Setup}
use Rattle.board_prelude.proofs.{IsRomSize, Area, Target, Dram, Shadow, Smram, Rom, Card, Device, Config, Abort, byte}
use Rattle.board_prelude.proofs.{wide, window_bits, target_at, dram_byte, card_byte, value_at, cases_lt, cond-true}
use Rattle.board_prelude.proofs.{cond-false, ne_eqb, lt-ltb, le-ltb, All-head, All-tail, further, WideAccess}
use Rattle.board_prelude.proofs.{longest_at, part_at, joined, Covers, parts_from, AllByRecursion, cases_Bool, eq-eqb}
use Rattle.board_prelude.proofs.{w64, to_le_bytes, from_le_bytes, Denial, IsSetup, IsInRange, Memory, Wide, Parts}
use Rattle.board_prelude.proofs.{Reply, Bytes, is_write, memory_target, memory_denial, parts_of, parts_list}
use Rattle.board_prelude.proofs.{address_count, IsPart, AreParts, IsAnswer, each_below}
use Rattle.std.proofs.Common.{◌≡◌, ℕ, suc, ◌+◌, ◌-◌, ◌*◌, ◌/◌, ◌%◌, ◌^◌, ◌<◌, ◌≤◌, List, [], length, inl, inr, refl, ap}
use Rattle.std.proofs.Common.{◌∙◌, arith, slice_index, lit<, zero, false, ◌∷◌, ◌++◌, Some, ◌==◌, nat_lt, All, map, true}
use Rattle.std.proofs.Common.{get_or, Option, None, sym, rules}
use Rattle.std.proofs.lemmas.Nat.{mod-pow-add, le_bytes_8}
use Rattle.board_base.specs.declared.access.Width.TheVariants.{Two, Four}
use Rattle.board_base.specs.declared.target.Area.TheVariants.{Rom as RomArea, Card as CardArea}
use Rattle.pci_bars.specs.Contents.{IsBaseNumber, slot_number}
use Rattle.board_stores.proofs.ValueLemmas.{value_below, wide_below}
use Rattle.board_laws.proofs.CardWindows.{IsWindow, same_area, card_window}
use Rattle.board_base.specs.declared.access.Access.{Access}
use Rattle.machine_records.specs.declared.reply.PartRecord.{PartRecord}
use Rattle.machine_records.specs.RomReplies.{part_of, byte_by, byte_told, is_given, parts_said, reads_given, with_roms}
use Rattle.machine.specs.Roms.{given}
use Rattle.machine_records.specs.declared.event.EventRecord.{EventRecord}
use Rattle.machine_records.specs.declared.reply.ReplyRecord.{ReplyRecord}
use Rattle.std.proofs.lemmas.Simd.{map-map}
use Rattle.board_spec.specs.Decode.{area_of}
use Rattle.board_spec.specs.Answer.{memory_answer, part_answer, wide_value}
use Rattle.board_spec.specs.Registers.{byte_of as register_byte}
use Rattle.board_spec.proofs.PartLawProofs.{cut_into_parts}
use Rattle.machine_records.specs.Replies.{AfterStep}
use Rattle.machine_records.specs.Replies.{no_part, of_part, target_said, with_denial, part_said, blank, bus_said}
use Rattle.machine_records.specs.Replies.{wide_said, record_said}
use Rattle.board_laws.specs.RomReads.{AreBytes, OnlyValueChanges, OtherRepliesStay, ReadsByteByByte, byte_access, byte_of}
use Rattle.board_laws.specs.RomReads.{byte_read}
use Rattle.board_spec.specs.declared.event.Parts.TheVariants as parts
use Rattle.board_spec.specs.declared.event.Reply.TheVariants as replies

-- ---- what the byte after some others reaches

abbrev pub moved : Target → (i : ℕ) → Target
moved (Dram row) i = Dram row
moved (Shadow row) i = Shadow row
moved Smram i = Smram
moved (Rom off) i = Rom (off + i)
moved (Card dev base off) i = Card dev base (off + i)
moved (Device dev) i = Device dev
moved (Config reg) i = Config reg
moved Abort i = Abort

same_quarter : (addr i : ℕ) (width : Width) → addr % bytes_of width ≡ 0 → i < bytes_of width →
    ((addr + i) / 4 ≡ addr / 4) × ((addr + i) % 4 ≡ addr % 4 + i)
same_quarter addr i One aligned within = (omega arith, omega arith)
same_quarter addr i _ aligned within = (omega arith, omega arith)

window_moved : (addr i bits : ℕ) (width : Width) → 2 ≤ bits → addr % bytes_of width ≡ 0 → i < bytes_of width →
    (addr + i) % 2 ^ bits ≡ addr % 2 ^ bits + i
window_moved addr i bits width above aligned within =
    let split : (place : ℕ) → place % 2 ^ bits ≡ place / 4 % 2 ^ (bits - 2) * 4 + place % 4 =
    λ place. ap (λ n. place % 2 ^ n) (omega arith) ∙ mod-pow-add place (bits - 2) 2 in
    let near = same_quarter addr i width aligned within in
    let here : (addr + i) / 4 % 2 ^ (bits - 2) ≡ addr / 4 % 2 ^ (bits - 2) = ap (λ n. n % 2 ^ (bits - 2)) near.0 in
    omega (arith, split addr, split (addr + i), near.1, here)

rom_moved : (addr i size : ℕ) (width : Width) → IsRomSize size → addr % bytes_of width ≡ 0 → i < bytes_of width →
    (addr + i) % size ≡ addr % size + i
rom_moved addr i size width is aligned within = grind (arith, nat_tests)

pub target_moved : (setup : Setup) (area : Area) (addr i : ℕ) (width : Width) → IsRomSize (length setup.rom) →
    ((dev base : ℕ) → area ≡ CardArea dev base → IsWindow setup dev base) → addr % bytes_of width ≡ 0 →
    i < bytes_of width → target_at setup area (addr + i) ≡ moved (target_at setup area addr) i
target_moved setup RomArea addr i width size claim aligned within =
    ap Rom (rom_moved addr i (length setup.rom) width size aligned within)
target_moved setup (CardArea dev base) addr i width size claim aligned within =
    grind (arith, nat_tests, common_steps, window_moved, window_bits)
target_moved setup _ addr i width size claim aligned within = refl

-- ---- what is read there

-- what an access to memory can reach, with a card's base where there is one
abbrev pub InMemory : Setup → Target → Type 0
InMemory setup (Card dev base off) = IsWindow setup dev base
InMemory setup (Device dev) = ⊥
InMemory setup (Config reg) = ⊥
InMemory setup target = Unit {0}

wide_byte : (width : Width) (byte_at : ℕ → ℕ) (from i : ℕ) → ((at : ℕ) → byte_at at < 256) → i < bytes_of width →
    byte (wide byte_at from width) i ≡ byte_at (from + i)
wide_byte One byte_at from (suc i) below within = absurd (omega arith)
wide_byte Two byte_at from (suc (suc i)) below within = absurd (omega arith)
wide_byte Four byte_at from (suc (suc (suc (suc i)))) below within = absurd (omega arith)
wide_byte _ byte_at from _ below within =
    let start : from ≡ from + 0 = omega arith in
    omega (arith, below from, below (from + 1), below (from + 2), below (from + 3), ap byte_at start)

all_ones : (width : Width) → largest_of width ≡ wide (λ at. 255) 0 width
all_ones One = refl
all_ones _ = refl

module _ (setup : Setup) (before : List Entry) (rom : (at : ℕ) → slice_index setup.rom at < 256) where
  dram_below : (at : ℕ) → dram_byte setup before at < 256
  dram_below at = value_below setup before setup.rom [] Smram at One refl rom tt

  card_below : (dev base : ℕ) → IsBaseNumber dev base → (off : ℕ) → card_byte setup before dev base off < 256
  card_below dev base number off =
      value_below setup before setup.rom [] (Card dev base off) 0 One refl rom
      (record { number = number; fits = λ other. inl (get_or_past [] (slot_number dev base) [] (omega arith)) })

  pub value_fits : (target : Target) (place : ℕ) (width : Width) → InMemory setup target →
      value_at setup before target place width < 256 ^ bytes_of width
  value_fits target place width is =
      grind (arith, nat_tests, common_steps, wide_below, card_below, all_ones, dram_below)

  pub byte_alone : (target : Target) (place i : ℕ) (width : Width) → InMemory setup target → i < bytes_of width →
      byte (value_at setup before target place width) i ≡ value_at setup before (moved target i) (place + i) One
  byte_alone (Rom off) place i width is within = wide_byte width (slice_index setup.rom) off i rom within
  byte_alone (Card dev base off) place i width is within =
      wide_byte width (λ at. card_byte setup before dev base at) off i (card_below dev base is.number) within
  byte_alone (Device dev) place i width is within = absurd is
  byte_alone (Config reg) place i width is within = absurd is
  byte_alone Abort place i width is within =
      rw (all_ones width) (wide_byte width (λ at. 255) 0 i (λ at. lit< tt) within)
  byte_alone _ place i width is within = wide_byte width (dram_byte setup before) place i dram_below within

-- ---- a byte of a sum

low_byte : (width : Width) (n above i : ℕ) → n < 256 ^ bytes_of width → i < bytes_of width →
    byte (n + 256 ^ bytes_of width * above) i ≡ byte n i
low_byte One n above (suc i) fits within = absurd (omega arith)
low_byte Two n above (suc (suc i)) fits within = absurd (omega arith)
low_byte Four n above (suc (suc (suc (suc i)))) fits within = absurd (omega arith)
low_byte _ n above _ fits within = omega (arith, fits)

high_byte : (n above i : ℕ) (width : Width) → n < 256 ^ bytes_of width →
    byte (n + 256 ^ bytes_of width * above) (bytes_of width + i) ≡ byte above i
high_byte n above i width fits = grind (arith, nat_tests, common_steps, further)

-- ---- the parts

-- a part, of which P holds, moves byte k, and its own byte is the one of the values joined
pub record Moves (access : WideAccess) (said : Access → PartRecord) (value : Access → ℕ) (rest : List PartRecord)
    (P : Access → Type 0) (parts : List Access) (before k : ℕ) : Type 0 where
  pub part : Access
  pub place : ℕ
  pub found : part_of (map said parts ++ rest) access.addr access.bytes before k ≡ Some (said part, place)
  pub address : part.addr + place ≡ access.addr + k
  pub within : place < bytes_of part.width
  pub is : P part
  pub value_is : byte (joined value parts) (k - before) ≡ byte (value part) place

module _ (access : WideAccess) (said : Access → PartRecord) (value : Access → ℕ) (rest : List PartRecord) (P : Access →
    Type 0) (fits : (part : Access) → P part → value part < 256 ^ bytes_of part.width) where
  pub moves : (most before k : ℕ) (parts : List Access) → parts ≡ parts_from access most (access.addr + before)
      (access.bytes - before) → All P parts → Covers (access.addr + before) (access.addr + access.bytes) parts →
      before ≤ k → k < access.bytes → Moves access said value rest P parts before k
  unfolding parts_from part_of
  moves most before k [] are each covers from below =
      let e : access.addr + before ≡ access.addr + access.bytes = covers in absurd (omega arith)
  moves zero before k (part ∷ later) are each covers from below = absurd (cc)
  moves (suc most) before k (part ∷ later) are each covers from below =
      let left : ℕ = access.bytes - before in
      let width : Width = longest_at (access.addr + before) left in
      let some : (left == 0) ≡ false = ne_eqb left 0 (omega arith) in
      let both = rw some at are in
      let first : part ≡ part_at access (access.addr + before) width = cc in
      let others : later ≡ parts_from access most (access.addr + before + bytes_of width) (left - bytes_of width) =
      cc in
      let start : part.addr ≡ access.addr + before = covers.0 in
      let count : bytes_of part.width ≡ bytes_of width = ap (λ (it : Access). bytes_of it.width) first in
      elim (cases_lt k (before + bytes_of width)) [
        | inl here ↦ record {
          part = part;
          place = k - before;
          found = cond-true (nat_lt k (before + bytes_of width)) _ _ (lt-ltb k (before + bytes_of width) here);
          address = omega arith;
          within = omega arith;
          is = All-head P part later each;
          value_is = low_byte part.width (value part) (joined value later) (k - before)
              (fits part (All-head P part later each)) (omega arith);
        }
        | inr past ↦
            let from' : access.addr + before + bytes_of width ≡ access.addr + (before + bytes_of width) = omega arith in
            let left' : left - bytes_of width ≡ access.bytes - (before + bytes_of width) = omega arith in
            let rest_is : later ≡ parts_from access most (access.addr + (before + bytes_of width))
            (access.bytes - (before + bytes_of width)) =
            rw (← from', ← left') others in
            let end' : access.addr + before + bytes_of part.width ≡ access.addr + (before + bytes_of width) =
            omega arith in
            let next : Moves access said value rest P later (before + bytes_of width) k =
            moves most (before + bytes_of width) k later rest_is (All-tail P part later each)
            (rw end' at covers.1) past below in
            let further_on : k - before ≡ bytes_of part.width + (k - (before + bytes_of width)) = omega arith in
            record {
              part = next.part;
              place = next.place;
              found = cond-false (nat_lt k (before + bytes_of width)) _ _ (le-ltb k (before + bytes_of width) past)
                  ∙ next.found;
              address = next.address;
              within = next.within;
              is = next.is;
              value_is = ap (byte (value part + 256 ^ bytes_of part.width * joined value later)) further_on
                  ∙ high_byte (value part) (joined value later) (k - (before + bytes_of width)) part.width
                  (fits part (All-head P part later each))
                  ∙ next.value_is;
            }
      ]

-- ---- a number of eight bytes

abbrev eight : (ℕ → ℕ) → List ℕ
eight f = f 0 ∷ f 1 ∷ f 2 ∷ f 3 ∷ f 4 ∷ f 5 ∷ f 6 ∷ f 7 ∷ []

small : (f : ℕ → ℕ) → ((k : ℕ) → f k < 256) → (i : ℕ) → get_or (eight f) i 0 < 256
small f below i =
    elim (cases_lt i 8) [
      | inl here ↦ each_below (λ k. get_or (eight f) k 0 < 256) 8 i (search (rules, below)) here
      | inr past ↦ rw (get_or_past (eight f) i 0 past) (lit< tt)
    ]

byte_of_eight : (f : ℕ → ℕ) → ((k : ℕ) → f k < 256) → (k : ℕ) → k < 8 → byte (from_le_bytes w64 (eight f)) k ≡ f k
byte_of_eight f below k within =
    let n : ℕ = from_le_bytes w64 (eight f) in
    let told = each_below (λ k. byte n k ≡ get_or (to_le_bytes w64 n) k 0) 8 k (omega arith, search rules) within in
    let at = each_below (λ k. get_or (eight f) k 0 ≡ f k) 8 k (search rules) within in
    told ∙ (ap (λ (bytes : List ℕ). get_or bytes k 0) (le_bytes_8 (eight f) n refl (small f below) refl) ∙ at)

-- ---- a byte that is told

module _ (roms : List (List ℕ)) (bytes : (dev at : ℕ) → slice_index (given roms dev) at < 256) where
  by_below : (by : Option (PartRecord × ℕ)) (old : ℕ) → old < 256 → byte_by roms by old < 256
  by_below by old below = grind (arith, nat_tests, common_steps)

  -- no part is of a ROM that was given bytes
  abbrev pub AreOthers : List PartRecord → Type 0
  AreOthers parts = AllByRecursion (λ part. is_given roms part ≡ false) parts

  pub by_others : (parts : List PartRecord) (addr count before k old : ℕ) → AreOthers parts →
      byte_by roms (part_of parts addr count before k) old ≡ old
  unfolding part_of
  by_others [] addr count before k old others = refl
  by_others (part ∷ later) addr count before k old others =
      let after : ℕ = before + bytes_of (longest_at (addr + before) (count - before)) in
      grind (arith, nat_tests, by_others later addr count after k old)

  pub value_told : (event : EventRecord) (said : ReplyRecord) (k : ℕ) → said.has_value ≡ 1 → k < 8 →
      byte (with_roms roms event said).value k ≡ byte_told roms event said k
  unfolding byte_told
  value_told event said k some within =
      elim (cases_Bool (reads_given roms said)) [
        | inl reads ↦ rw reads (byte_of_eight (byte_told roms event said)
            (λ k. by_below (part_of (parts_said said) event.addr event.bytes 0 k) (byte said.value k) (omega arith)) k
            within)
        | inr not_read ↦
            let one : (said.has_value == 1) ≡ true = eq-eqb said.has_value 1 some in
            let others : AreOthers (parts_said said) = grind (arith, nat_tests, rw one at not_read) in
            rw not_read (sym (by_others (parts_said said) event.addr event.bytes 0 k (byte said.value k) others))
      ]

-- ---- the byte of a part, by its target

by_denied : (roms : List (List ℕ)) (part : PartRecord) (denial : Option Denial) (i old : ℕ) →
    byte_by roms (Some (with_denial part denial, i)) old ≡ byte_by roms (Some (part, i)) old
by_denied roms part denial i old = grind (arith, nat_tests)

by_target : (roms : List (List ℕ)) (setup : Setup) (before : List Entry) (target : Target) (i place old : ℕ) →
    InMemory setup target → old ≡ value_at setup before (moved target i) place One →
    byte_by roms (Some (target_said target, i)) old ≡ byte_of roms setup before (moved target i) place
by_target roms setup before (Card dev base off) i place old is alone = grind (arith, nat_tests)
by_target roms setup before (Device dev) i place old is alone = absurd is
by_target roms setup before (Config reg) i place old is alone = absurd is
by_target roms setup before _ i place old is alone = alone

-- ---- the byte of a part alone

module _ (setup : Setup) (before : List Entry) (roms : List (List ℕ)) (fits : IsSetup setup)
    (bytes : AreBytes setup roms) where
  window_of : (part : Access) (dev base : ℕ) →
      area_of setup (register_byte setup before) part.addr part.kind part.smm ≡ CardArea dev base →
      IsWindow setup dev base
  window_of part dev base is =
      card_window setup (register_byte setup before) part.addr part.kind part.smm dev base fits.cards is

  pub in_memory : (part : Access) → InMemory setup (memory_target setup before part)
  in_memory part = grind (arith, nat_tests, common_steps, window_of)

  abbrev value_of : Access → ℕ
  value_of part = value_at setup before (memory_target setup before part) part.addr part.width

  abbrev of_access : Access → PartRecord
  of_access part = of_part (part_answer setup before part)

  -- byte i of an aligned part, where the board told its byte
  byte_of_part : (part : Access) (i old : ℕ) → part.addr % bytes_of part.width ≡ 0 → i < bytes_of part.width →
      part.addr + i < address_count → old ≡ byte (value_of part) i →
      byte_by roms (Some (of_access part, i)) old ≡ byte_read roms setup before part.kind part.smm (part.addr + i)
  unfolding part_answer part_said
  byte_of_part part i old aligned within last is =
      let registers : Bytes = register_byte setup before in
      let area : Area = area_of setup registers part.addr part.kind part.smm in
      let target : Target = memory_target setup before part in
      let there : memory_target setup before (byte_access part.kind part.smm (part.addr + i)) ≡ moved target i =
      ap (λ (it : Area). target_at setup it (part.addr + i))
      (same_area setup registers part.addr i part.width part.kind part.smm fits.cards.each aligned within last)
      ∙ target_moved setup area part.addr i part.width fits.rom (window_of part) aligned within in
      let alone : old ≡ value_at setup before (moved target i) (part.addr + i) One =
      is ∙ byte_alone setup before bytes.rom target part.addr i part.width (in_memory part) within in
      by_denied roms (target_said target) (memory_denial setup before part) i old
      ∙ by_target roms setup before target i (part.addr + i) old (in_memory part) alone
      ∙ ap (λ (it : Target). byte_of roms setup before it (part.addr + i)) (sym there)

  -- ---- one cycle

  moved_by_one : (addr : ℕ) (width : Width) (rest : List PartRecord) (said : PartRecord) (k : ℕ) →
      addr % bytes_of width ≡ 0 → k < bytes_of width → part_of (said ∷ rest) addr (bytes_of width) 0 k ≡ Some (said, k)
  unfolding part_of
  moved_by_one addr width rest said k aligned within = grind (arith, nat_tests)

  read_whole : (said : EventRecord) (access : Access) (after : AfterStep) (k : ℕ) → is_write access.kind ≡ false →
      said.addr ≡ access.addr → said.bytes ≡ bytes_of access.width → access.addr % bytes_of access.width ≡ 0 →
      access.addr < address_count → k < bytes_of access.width →
      byte (with_roms roms said (record_said (memory_answer setup before access) after)).value k
      ≡ byte_read roms setup before access.kind access.smm (access.addr + k)
  unfolding memory_answer record_said bus_said blank byte_told part_answer area_of part_said
  read_whole said access after k reads addr count aligned address within =
      let target : Target = memory_target setup before access in
      let denial : Option Denial = memory_denial setup before access in
      let told : ReplyRecord = bus_said (Some (value_of access)) target denial after in
      let reply : record_said (memory_answer setup before access) after ≡ told =
      ap (λ (value : Option ℕ). bus_said value target denial after)
      (cond-false (is_write access.kind) None (Some (value_of access)) reads) in
      let found : part_of (parts_said told) said.addr said.bytes 0 k ≡ Some (of_access access, k) =
      rw (addr, count)
      (moved_by_one access.addr access.width (no_part ∷ no_part ∷ no_part ∷ []) (of_access access) k aligned within) in
      let last : access.addr + k < address_count = ends access.width access.addr k aligned address within in
      rw reply (
      value_told roms bytes.given said told k refl (few access.width k within)
      ∙ ap (λ (by : Option (PartRecord × ℕ)). byte_by roms by (byte (value_of access) k)) found
      ∙ byte_of_part access k (byte (value_of access) k) aligned within last refl
      )
    where
      few : (width : Width) (k : ℕ) → k < bytes_of width → k < 8
      few width k within = grind arith

      ends : (width : Width) (addr k : ℕ) → addr % bytes_of width ≡ 0 → addr < address_count → k < bytes_of width →
          addr + k < address_count
      ends width addr k aligned address within = grind arith

  -- ---- a wide access

  -- the records after those of the parts
  abbrev others_of : Parts → List PartRecord
  others_of (parts.Two a b) = no_part ∷ no_part ∷ []
  others_of (parts.Three a b c) = no_part ∷ []
  others_of (parts.Four a b c d) = []

  wide_is : (they : Parts) (value : ℕ) (after : AfterStep) →
      let told = wide_said they (Some value) after in
      (parts_said told ≡ map of_part (parts_list they) ++ others_of they) × (told.has_value ≡ 1) × (told.value ≡ value)
  unfolding wide_said blank
  wide_is (parts.Two a b) value after = (refl, refl, refl)
  wide_is _ value after = (refl, refl, refl)

  read_by_part : (said : EventRecord) (access : WideAccess) (they : Parts) (after : AfterStep) (k : ℕ) →
      said.addr ≡ access.addr → said.bytes ≡ access.bytes → access.addr + k < address_count → k < 8 →
      map of_part (parts_list they) ≡ map of_access (parts_of access) →
      Moves access of_access value_of (others_of they) (IsPart access) (parts_of access) 0 k →
      byte (with_roms roms said (wide_said they (Some (joined value_of (parts_of access))) after)).value k
      ≡ byte_read roms setup before access.kind access.smm (access.addr + k)
  unfolding byte_told
  read_by_part said access they after k addr count last few each by =
      let whole : ℕ = joined value_of (parts_of access) in
      let told : ReplyRecord = wide_said they (Some whole) after in
      let is = wide_is they whole after in
      let start : k ≡ k - 0 = omega arith in
      let old : byte told.value k ≡ byte (value_of by.part) by.place =
      ap (λ (n : ℕ). byte n k) is.2 ∙ ap (λ (i : ℕ). byte whole i) start ∙ by.value_is in
      let found : part_of (parts_said told) said.addr said.bytes 0 k ≡ Some (of_access by.part, by.place) =
      rw (addr, count, is.0, each) by.found in
      let there : by.part.addr + by.place < address_count = omega (arith, by.address, last) in
      value_told roms bytes.given said told k is.1 few
      ∙ ap (λ (it : Option (PartRecord × ℕ)). byte_by roms it (byte told.value k)) found
      ∙ byte_of_part by.part by.place (byte told.value k) by.is.legal.aligned by.within there old
      ∙ rw (by.is.kind, by.is.smm, by.address) refl

  moved_by : (access : WideAccess) (rest : List PartRecord) (k : ℕ) → AreParts access (parts_of access) →
      k < access.bytes → Moves access of_access value_of rest (IsPart access) (parts_of access) 0 k
  moved_by access rest k cut within =
      let start : access.addr + 0 ≡ access.addr = omega arith in
      let all : access.bytes - 0 ≡ access.bytes = omega arith in
      let fit : (part : Access) → IsPart access part → value_of part < 256 ^ bytes_of part.width =
      λ part it.
      value_fits setup before bytes.rom (memory_target setup before part) part.addr part.width (in_memory part) in
      moves access of_access value_of rest (IsPart access) fit 4 0 k (parts_of access) (rw (start, all) refl) cut.each
      (rw start cut.covers) (omega arith) within

  read_in_wide : (said : EventRecord) (access : WideAccess) (reply : Reply) (after : AfterStep) (k : ℕ) →
      is_write access.kind ≡ false → said.addr ≡ access.addr → said.bytes ≡ access.bytes →
      IsInRange setup (Wide access) → IsAnswer setup before (Wide access) reply → k < access.bytes →
      byte (with_roms roms said (record_said reply after)).value k
      ≡ byte_read roms setup before access.kind access.smm (access.addr + k)
  unfolding record_said wide_value area_of part_said
  read_in_wide said access (replies.Parts they value) after k reads addr count legal answer within =
      let whole : ℕ = joined value_of (parts_of access) in
      let is : value ≡ Some whole = answer.value_is ∙ cond-false (is_write access.kind) None (Some whole) reads in
      let each : map of_part (parts_list they) ≡ map of_access (parts_of access) =
      rw answer.each (map-map of_part (part_answer setup before) (parts_of access)) in
      let last : access.addr + k < address_count = omega (arith, legal.ends, within) in
      rw is
      (read_by_part said access they after k addr count last (omega (arith, legal.bytes, within)) each
      (moved_by access (others_of they) k (cut_into_parts access legal) within))
  read_in_wide said access _ after k reads addr count legal answer within = absurd answer

-- ---- the laws

pub reads_byte_by_byte : ReadsByteByByte
reads_byte_by_byte setup before roms said (Memory access) read reply after k fits bytes says answer within =
    let whole : WideAccess =
    record { kind = access.kind; bytes = bytes_of access.width; smm = access.smm; addr = access.addr; value = 0 } in
    let is : (is_write access.kind ≡ false) × (whole ≡ read) = grind (arith, nat_tests, says.reads) in
    rw (answer, ← is.1)
    (read_whole setup before roms fits bytes said access after k is.0 (rw (← is.1) at says.addr)
    (rw (← is.1) at says.bytes) says.range.aligned (rw (← is.1) at says.address) (rw (← is.1) at within))
reads_byte_by_byte setup before roms said (Wide access) read reply after k fits bytes says answer within =
    let is : (is_write access.kind ≡ false) × (access ≡ read) = grind (arith, nat_tests, says.reads) in
    rw (← is.1)
    (read_in_wide setup before roms fits bytes said access reply after k is.0 (rw (← is.1) at says.addr)
    (rw (← is.1) at says.bytes) says.range answer (rw (← is.1) at within))
reads_byte_by_byte setup before roms said _ read reply after k fits bytes says answer within =
    let none : ◌≡◌ {A = Option WideAccess} None (Some read) = says.reads in absurd (cc)

pub others_stay : OtherRepliesStay
others_stay roms event reply none = grind (arith, nat_tests)

pub value_changes : OnlyValueChanges
value_changes roms event reply = grind (arith, nat_tests)
