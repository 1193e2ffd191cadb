-- The ranges as they are built, from the first address on: the last of them may still go on. A step goes to a later
-- address, which need not be an edge.
use Rattle.board_prelude.proofs.{common_steps, cases_lt, All-push, Area, Setup, Bytes, address_count, six_areas}
use Rattle.board_prelude.proofs.{MapRange, Tiles, NeighboursDiffer, IsRight, IsFlatMapOf, Contains, nat_tests}
use Rattle.board_prelude.proofs.{length-map, length_push}
use Rattle.std.proofs.Common.{◌≡◌, ◌≢◌, ℕ, ◌+◌, ◌-◌, ◌<◌, ◌≤◌, inl, inr, List, [], ◌∷◌, ◌++◌, length, refl, sym, ◌∙◌}
use Rattle.std.proofs.Common.{arith, append_assoc, map, nat_lt, filter}
use Rattle.addr_decode.specs.Edges.{SameAreas, edges_of, edges_after}
use Rattle.addr_decode.specs.MapRegs.{MapBytes, StandsFor}
use Rattle.map_builder.specs.Map.{most_ranges, IsOfSomeBoard, IsMapOf}
use Rattle.map_builder.specs.Ranges.{ContinuesAt, range_of}
use Rattle.map_builder.specs.Build.{IsBuilt, IsWhole}
use Rattle.std.proofs.lemmas.List.{map_push}
use Rattle.pci_bars.specs.Cards.{AreFitted}
use Rattle.addr_decode.proofs.EdgeSearchLemmas.{contains_cases}
use Rattle.addr_decode.proofs.EdgeCounts.{no_more, few_edges_after}
use Rattle.addr_decode.proofs.EdgeLaws.{areas_change_at_edges}
use Rattle.map_builder.specs.declared.range.Range.{Range}

pub ruleset build_steps = (nat_tests, common_steps, length-map)

abbrev pub range : ℕ → ℕ → List Area → MapRange
range lo hi areas = record { lo = lo; hi = hi; areas = areas }

-- ---- the last range cut at an address, and another from there on

module _ (last : MapRange) (addr : ℕ) (areas : List Area) where
  abbrev cut : List MapRange
  cut = range last.lo (addr - 1) last.areas ∷ range addr last.hi areas ∷ []

  tiles_cut : (from : ℕ) (ranges : List MapRange) → last.lo < addr → addr ≤ last.hi →
      Tiles from (ranges ++ last ∷ []) → Tiles from (ranges ++ cut)
  tiles_cut from [] above below tiles = (tiles.0, omega arith, (omega arith, below, tiles.2))
  tiles_cut from (here ∷ later) above below tiles =
      (tiles.0, tiles.1, tiles_cut (here.hi + 1) later above below tiles.2)

  differ_cut : (ranges : List MapRange) → areas ≢ last.areas → NeighboursDiffer (ranges ++ last ∷ []) →
      NeighboursDiffer (ranges ++ cut)
  differ_cut [] other differ = ((λ same. other (sym same)), (tt, tt))
  differ_cut (here ∷ []) other differ = (differ.0, differ_cut [] other differ.1)
  differ_cut (here ∷ next ∷ later) other differ = (differ.0, differ_cut (next ∷ later) other differ.1)

-- ---- edges above an address

-- where as many lie above the higher address as above the lower, none lies between them
none_between : (low high : ℕ) (edges : List ℕ) → low ≤ high →
    length (filter (nat_lt low) edges) ≤ length (filter (nat_lt high) edges) →
    (edge : ℕ) → Contains edges edge → low < edge → high < edge
none_between low high [] order as_many edge (k, within, is) above = absurd (omega arith)
none_between low high (first ∷ later) order as_many edge has above =
    let more = no_more low high later order in
    let fewer : length (filter (nat_lt low) later) ≤ length (filter (nat_lt high) later) = grind (arith, nat_tests) in
    elim (contains_cases first edge later has) [
      | inl here ↦ grind (arith, nat_tests)
      | inr there ↦ none_between low high later order fewer edge there above
    ]

-- other areas cost an edge
fewer_left : (setup : Setup) (bytes : Bytes) (addr next : ℕ) → addr ≤ next → next < address_count →
    six_areas setup bytes next ≢ six_areas setup bytes addr →
    edges_after setup bytes next < edges_after setup bytes addr
fewer_left setup bytes addr next order address other =
    elim (cases_lt (edges_after setup bytes next) (edges_after setup bytes addr)) [
      | inl fewer ↦ fewer
      | inr as_many ↦
          absurd (other (areas_change_at_edges setup bytes addr next order address
          (λ edge there above. none_between addr next (edges_of setup bytes) order as_many edge there.listed above)))
    ]

-- ---- what holds of the ranges at each step

-- every board that has these registers has these areas at an address
abbrev pub AreasAt : MapBytes → ℕ → List Area → Type 0
AreasAt regs addr areas = (setup : Setup) (bytes : Bytes) → StandsFor setup bytes regs →
    areas ≡ six_areas setup bytes addr

-- and the same areas from one address to below another
abbrev pub StaySame : MapBytes → (addr end : ℕ) → Type 0
StaySame regs addr end = (setup : Setup) (bytes : Bytes) → StandsFor setup bytes regs → SameAreas setup bytes addr end

pub one_address : (regs : MapBytes) (addr end : ℕ) → end ≡ addr + 1 → StaySame regs addr end
one_address regs addr end next setup bytes stands x low high = let one : x ≡ addr = omega arith in rw one refl

pub same_at_each : (regs : MapBytes) (lo hi : ℕ) (areas : List Area) → lo ≤ hi →
    ((x : ℕ) → lo ≤ x → x ≤ hi → AreasAt regs x areas) → StaySame regs lo (hi + 1)
same_at_each regs lo hi areas order each = grind (arith, nat_tests, each)

pub is_built_first : {regs : MapBytes} (areas : List Area) → AreasAt regs 0 areas →
    IsBuilt regs [] (range 0 0xFFFF_FFFF areas) 0
is_built_first areas at_first = record {
  built = grind (arith, nat_tests);
  of_board = λ setup bytes stands. grind (arith, nat_tests, at_first setup bytes stands);
  few = λ board. omega (arith, few_edges_after board.setup board.bytes 0 board.cards);
}

-- they need no step where the areas stay the same
pub built_over : {regs : MapBytes} {ranges : List MapRange} {last : MapRange} {addr hi : ℕ} → addr ≤ hi →
    StaySame regs addr (hi + 1) → IsBuilt regs ranges last addr → IsBuilt regs ranges last hi
built_over {last = last} {addr = addr} {hi = hi} order same is =
    let begun = is.built.begun in
    let begun_on : last.lo ≤ hi = omega arith in
    record {
      built = assumption is.built;
      of_board = λ setup bytes stands.
          let was = is.of_board setup bytes stands in
          record {
            right = was.right;
            so_far = λ x low high. grind (arith, nat_tests, was.so_far x, was.so_far addr, same setup bytes stands x);
          };
      few = λ board. omega (arith, is.few board, no_more addr hi (edges_of board.setup board.bytes) order);
    }

-- the last range ends, and another begins
built_cut : {regs : MapBytes} {ranges : List MapRange} {last : MapRange} {addr next : ℕ} (areas : List Area) →
    next ≡ addr + 1 → next < address_count → AreasAt regs next areas → areas ≢ last.areas →
    IsBuilt regs ranges last addr →
    IsBuilt regs (ranges ++ range last.lo (next - 1) last.areas ∷ []) (range next 0xFFFF_FFFF areas) next
built_cut {ranges = ranges} {last = last} {addr = addr} {next = next} areas joined address at_next other is =
    let ended : MapRange = range last.lo (next - 1) last.areas in
    let begun = is.built.begun in
    record {
      built = grind (arith, nat_tests, common_steps, append_assoc, tiles_cut, differ_cut);
      of_board = λ setup bytes stands.
          let so_far = (is.of_board setup bytes stands).so_far in
          record {
            right = All-push (IsRight setup bytes) ranges ended (is.of_board setup bytes stands).right
                (record { at_each = λ x low high. so_far x low (omega arith) });
            so_far = λ x low high.
                let here : x ≡ next = omega arith in rw here (sym (at_next setup bytes stands));
          };
      few = λ board.
          let here = (is.of_board board.setup board.bytes board.stands).so_far addr begun (omega arith) in
          let fewer = fewer_left board.setup board.bytes addr next (omega arith) address
          (λ alike. other (at_next board.setup board.bytes board.stands ∙ alike ∙ here)) in
          omega (arith, length_push ranges ended, is.few board, fewer);
    }

-- on through a range that begins after an address, up to another up to which it is right
pub built_range : {regs : MapBytes} {ranges ranges' : List MapRange} {last last' : MapRange} {addr hi : ℕ} (lo : ℕ)
    (areas : List Area) → lo ≡ addr + 1 → lo ≤ hi → hi < address_count →
    ((x : ℕ) → lo ≤ x → x ≤ hi → AreasAt regs x areas) → ContinuesAt ranges ranges' last last' lo areas →
    IsBuilt regs ranges last addr → IsBuilt regs ranges' last' hi
built_range {regs} {last = last} {addr = addr} {hi = hi} lo areas joined order address each
    (inl (same, is, last_is)) built =
    rw (is, last_is) (built_over (omega arith) (λ setup bytes stands x low high.
    grind (arith, nat_tests, each x, (built.of_board setup bytes stands).so_far addr, built.built.begun)) built)
built_range {regs} {hi = hi} lo areas joined order address each (inr (other, is, last_is)) built =
    rw (is, last_is) (built_over order (same_at_each regs lo hi areas order each)
    (built_cut areas joined (omega arith) (each lo (omega arith) order) other built))

-- on to a later address, below which the areas stay the same
pub built_step : {regs : MapBytes} {ranges ranges' : List MapRange} {last last' : MapRange} {addr next : ℕ}
    (areas : List Area) → addr < next → next < address_count → StaySame regs addr next → AreasAt regs next areas →
    ContinuesAt ranges ranges' last last' next areas → IsBuilt regs ranges last addr → IsBuilt regs ranges' last' next
built_step {regs} {next = next} areas above address same at_next on built =
    let joined : next ≡ next - 1 + 1 = omega arith in
    built_range _ _ joined (omega arith) address (λ x low high. let here : x ≡ next = omega arith in rw here at_next) on
    (built_over (omega arith) (rw joined at same) built)

-- ---- the ranges built up to the last address

-- the last of them ends there
pub is_whole : {regs : MapBytes} (board : IsOfSomeBoard regs) (ranges : List Range) (last : Range) →
    IsBuilt regs (map range_of ranges) (range_of last) 0xFFFF_FFFF → IsWhole regs (ranges ++ last ∷ [])
is_whole board ranges last is = record {
  tiles = rw (map_push range_of ranges last) is.built.tiles;
  is_map = λ setup bytes stands.
      let of_board = is.of_board setup bytes stands in
      rw (map_push range_of ranges last) (record {
        tiles = is.built.tiles;
        right = All-push (IsRight setup bytes) (map range_of ranges) (range_of last) of_board.right
            (record { at_each = λ x low high. of_board.so_far x low (omega (arith, is.built.open_end)) });
        least = is.built.least;
      });
  few = omega (arith, length_push ranges last, length-map ranges range_of, is.few board);
}

-- ranges that are a map
pub are_map_of : {regs : MapBytes} (ranges : List Range) → AreFitted regs.cards → IsOfSomeBoard regs →
    Tiles 0 (map range_of ranges) → ((setup : Setup) (bytes : Bytes) → StandsFor setup bytes regs →
    IsFlatMapOf setup bytes (map range_of ranges)) → length ranges ≤ most_ranges → IsMapOf regs (map range_of ranges)
are_map_of ranges fitted board tiles is_map few =
    let few_of : length (map range_of ranges) ≤ most_ranges = omega (arith, length-map ranges range_of) in assumption
