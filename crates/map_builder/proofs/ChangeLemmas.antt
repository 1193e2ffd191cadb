-- After a change the ranges of a map are right again for each address outside the bounds of the changed windows.
use Rattle.std.proofs.Common.{◌≡◌, ℕ, ◌<◌, ◌≤◌, Bool, true, false, List, [], ◌++◌, Option, refl, sym, ◌∙◌}
use Rattle.std.proofs.Common.{ap, arith, IfSome, ◌||◌, not, is_some, subst}
use Rattle.board_prelude.proofs.{list_any, Width, Reg, MapChange, Store, Setup, touches_map, Bytes, address_count}
use Rattle.board_prelude.proofs.{six_areas, MapRange, nat_tests, false≢true}
use Rattle.pci_bars.specs.Cards.{CardBytes, AreFitted, cards_of}
use Rattle.addr_decode.proofs.CardLemmas.{no_low_card}
use Rattle.addr_decode.proofs.NameLemmas.{names_touch}
use Rattle.addr_decode.specs.declared.register.MapRegister.{MapRegister}
use Rattle.addr_decode.specs.MapRegister.{names_from, names_of}
use Rattle.addr_decode.specs.MapRegs.{MapBytes, StandsFor}
use Rattle.addr_decode.specs.Edges.{edges_after}
use Rattle.map_builder.specs.declared.range.Changed.{Changed}
use Rattle.map_builder.specs.Map.{IsOfSomeBoard, IsMapOf, Mapped}
use Rattle.map_builder.specs.Build.{IsMapWhere, IsBeside}
use Rattle.map_builder.specs.Windows.{sorted}
use Rattle.map_builder.specs.Sorted.{Rise, rows_in}
use Rattle.map_builder.specs.Applied.{AreChanged, IsApplied, IsStored}
use Rattle.map_builder.specs.Changed.{after, rest_on_registers, name_windows, windows_covered, changed_windows}
use Rattle.map_builder.specs.Changed.{most_rows, is_card_name}
use Rattle.map_builder.specs.Rows.{AreMoved}
use Rattle.map_builder.specs.Unchanged.{IsHeldAt, IsSameByte}
use Rattle.map_builder.proofs.BoundsLemmas.{covered_ordered, changed_ordered}
use Rattle.map_builder.proofs.SortedLemmas.{rise_sorted, outside_sorted, beside_sorted, rows_few, sorted_twice}
use Rattle.map_builder.proofs.MovedRows.{CoversRows, rows_keep, moved_within}
use Rattle.map_builder.proofs.KeptLemmas.{same_bytes, top_after, changes_keep}
use Rattle.map_builder.proofs.SameBoards.{boards_same, untouched_areas}
use Rattle.map_builder.proofs.RebuildLemmas.{all_right, range_below}

-- the registers of a board before a change and after it
abbrev pub Next : (old new : MapBytes) → MapChange → Type 0
Next old new change =
    (setup : Setup) (bytes : Bytes) → StandsFor setup bytes old → StandsFor setup (after setup change bytes) new

-- the areas of an address of a board stay
abbrev pub Stay : {regs : MapBytes} → IsOfSomeBoard regs → MapChange → (addr : ℕ) → Type 0
Stay board change addr =
    six_areas board.setup (after board.setup change board.bytes) addr ≡ six_areas board.setup board.bytes addr

module _ {old new : MapBytes} (change : MapChange) (next : Next old new change) where
  -- the board of a map after a change
  pub board_after : IsOfSomeBoard old → IsOfSomeBoard new
  board_after board = record {
    setup = board.setup;
    bytes = after board.setup change board.bytes;
    cards = board.cards;
    top = top_after board.setup board.bytes change board.top;
    stands = next board.setup board.bytes board.stands;
  }

  -- the ranges of a map are those of the new registers wherever the areas stay
  pub where_kept : {ranges : List MapRange} {Out : ℕ → Type 0} (is_map : IsMapOf old ranges) →
      ((addr : ℕ) → addr < address_count → Out addr → Stay is_map.board change addr) → IsMapWhere new Out ranges
  where_kept {ranges} is_map keeps =
      let board = is_map.board in
      let was_map = is_map.map board.setup board.bytes board.stands in
      record {
        tiles = is_map.tiles;
        least = was_map.least;
        right = λ setup bytes now k d within. record {
          at_each = λ addr low high out.
              sym (boards_same (next board.setup board.bytes board.stands) now board.cards addr)
              ∙ keeps addr (omega (arith, range_below 0 ranges is_map.tiles k d within)) out
              ∙ (was_map.right k d within).at_each addr low high;
        };
      }

  -- a change that covers no byte on which the map depends leaves the map
  pub untouched_map : {ranges : List MapRange} (is_map : IsMapOf old ranges) →
      touches_map is_map.board.setup change ≡ false → AreFitted new.cards → IsMapOf new ranges
  untouched_map {ranges} is_map not fitted =
      let board = is_map.board in
      record {
        fitted = fitted;
        board = board_after board;
        tiles = is_map.tiles;
        map = all_right new ranges (where_kept is_map
            (λ addr address out. untouched_areas board.setup board.bytes change board.cards not addr));
        few = is_map.few;
      }

-- each register keeps its byte, on each board that has the registers before
abbrev pub Idle : (old : MapBytes) → MapChange → Type 0
Idle old change = (setup : Setup) (bytes : Bytes) → StandsFor setup bytes old → after setup change bytes ≡ bytes

pub keeps_byte : {old new : MapBytes} (change : MapChange) {before later : Option ℕ} → Next old new change →
    IsSameByte before later →
    ((setup : Setup) (bytes : Bytes) → StandsFor setup bytes old → IfSome before (IsHeldAt change bytes)) →
    ((setup : Setup) (bytes : Bytes) → StandsFor setup bytes new → IfSome later (IsHeldAt change bytes)) →
    Idle old change
keeps_byte change next same held held' setup bytes stands =
    let each = same_bytes setup bytes change same.byte (rw same.before_is at (held setup bytes stands))
    (rw same.later_is at (held' setup _ (next setup bytes stands))) in
    λ i reg. each reg i

-- ---- the windows that were found

-- those of registers of the bridges rest on nothing
name_fixed : (setup setup' : Setup) (bytes bytes' : Bytes) (name : Option MapRegister) → is_card_name name ≡ false →
    name_windows setup bytes name ≡ name_windows setup' bytes' name
name_fixed setup setup' bytes bytes' name bridge = grind (arith, nat_tests)

fixed_same : (setup : Setup) (bytes bytes' : Bytes) (change : MapChange) →
    rest_on_registers (names_of setup.cards change) ≡ false →
    windows_covered setup bytes change ≡ windows_covered setup bytes' change
unfolding windows_covered
fixed_same setup bytes bytes' change fixed = grind (arith, nat_tests, name_fixed)

module _ (setup : Setup) (bytes : Bytes) (change : MapChange) where
  abbrev covered : Bytes → List Changed
  covered it = windows_covered setup it change

  -- the same after the change
  abbrev pub AreSame : Type 0
  AreSame = covered (after setup change bytes) ≡ covered bytes

  -- when sorted they are those that change
  abbrev pub AreFound : List Changed → Type 0
  AreFound all = sorted all ≡ sorted (changed_windows setup bytes change)

  -- once is then as good as twice
  found_once : {all : List Changed} → all ≡ covered bytes → AreSame → AreFound all
  found_once once same = rw (once, same) (sym (sorted_twice (covered bytes) (covered_ordered setup bytes change)))

  -- as they are pushed: by what the registers held, and again by what they hold, unless that is known to be the same
  pub pushed_found : {first all : List Changed} (kept same : Bool) → (kept ≡ true → AreSame) →
      same ≡ (kept || not (rest_on_registers (names_of setup.cards change))) → first ≡ covered bytes →
      (same ≡ true → all ≡ first) → (same ≡ false → all ≡ first ++ covered (after setup change bytes)) → AreFound all
  pushed_found kept false keeps same_is is once twice = rw (twice refl, is) refl
  pushed_found true true keeps same_is is once twice = found_once (once refl ∙ is) (keeps refl)
  pushed_found false true keeps same_is is once twice =
      found_once (once refl ∙ is) (fixed_same setup (after setup change bytes) bytes change (grind (arith, nat_tests)))

-- ---- the windows that are built anew

-- they rise and lie in those that change, and beside them each address keeps its areas
pub record Chosen {old : MapBytes} (board : IsOfSomeBoard old) (change : MapChange) (windows : List Changed) : Type 0
  where
    pub rise : Rise windows
    pub few : (setup : Setup) (bytes : Bytes) → StandsFor setup bytes old →
        rows_in (edges_after setup (after setup change bytes)) windows ≤ most_rows setup bytes change
    pub keeps : (addr : ℕ) → addr < address_count → IsBeside windows addr → Stay board change addr
    pub within : (setup : Setup) (bytes : Bytes) (addr : ℕ) → StandsFor setup bytes old →
        IsBeside (changed_windows setup bytes change) addr → IsBeside windows addr

module _ {old new : MapBytes} (change : MapChange) (next : Next old new change) (board : IsOfSomeBoard old)
    {windows : List Changed} where
  -- none, where the register keeps its byte; what moves of them, where rows alone are stored; else those that change
  pub chosen : (all : List Changed) (kept alone : Bool) → (alone ≡ true → CoversRows (cards_of old.cards) change) →
      ((setup : Setup) (bytes : Bytes) → StandsFor setup bytes old →
      sorted all ≡ sorted (changed_windows setup bytes change)) →
      (kept ≡ true → Idle old change) → (kept ≡ true → windows ≡ []) →
      (kept ≡ false → alone ≡ false → windows ≡ sorted all) →
      (kept ≡ false → alone ≡ true → AreMoved old.drb new.drb windows) → Chosen board change windows
  chosen all true alone is_rows all_is same none others rows =
      rw (none refl) (record {
        rise = tt;
        few = λ setup bytes stands. omega arith;
        keeps = λ addr address out.
            ap (λ it. six_areas board.setup it addr) (same refl board.setup board.bytes board.stands);
        within = λ setup bytes addr stands out. tt;
      })
  chosen all false true is_rows all_is same none others rows =
      let moved = rows refl refl in
      let rows = λ (setup : Setup) (bytes : Bytes) (stands : StandsFor setup bytes old).
      subst (λ cards. CoversRows cards change) (sym stands.cards.0) (is_rows refl) in
      let within = λ (setup : Setup) (bytes : Bytes) (stands : StandsFor setup bytes old).
      moved_within setup bytes (after setup change bytes) change windows (rows setup bytes stands) moved in
      record {
        rise = (within board.setup board.bytes board.stands).0;
        few = λ setup bytes stands. (within setup bytes stands).1;
        keeps = λ addr address out.
            rows_keep old new board.setup board.bytes change addr (rows board.setup board.bytes board.stands)
            board.cards board.stands (next board.setup board.bytes board.stands) (moved.beside addr out);
        within = λ setup bytes addr stands out. (within setup bytes stands).2 addr out;
      }
  chosen all false false is_rows all_is same none others rows =
      let is : (setup : Setup) (bytes : Bytes) → StandsFor setup bytes old →
      windows ≡ sorted (changed_windows setup bytes change) =
      λ setup bytes stands. others refl refl ∙ all_is setup bytes stands in
      let here = is board.setup board.bytes board.stands in
      record {
        rise = rw here (rise_sorted _ (changed_ordered board.setup board.bytes change));
        few = λ setup bytes stands. rw (is setup bytes stands)
            (rows_few setup (after setup change bytes) _ (changed_ordered setup bytes change));
        keeps = λ addr address out. changes_keep board.setup board.bytes change addr board.cards board.top address
            (outside_sorted addr _ (rw here at out));
        within = λ setup bytes addr stands out. rw (is setup bytes stands) (beside_sorted addr _ out);
      }

  -- so they are what a change changed, of each board that has the registers
  pub are_changed : Chosen board change windows → (setup : Setup) (bytes : Bytes) → StandsFor setup bytes old →
      AreChanged setup bytes change windows
  are_changed are setup bytes stands = record {
    rise = are.rise;
    beside = λ addr address out.
        sym (boards_same (next board.setup board.bytes board.stands) (next setup bytes stands) board.cards addr)
        ∙ are.keeps addr address out
        ∙ boards_same board.stands stands board.cards addr;
    within = λ addr out. are.within setup bytes addr stands out;
  }

-- the names of the registers that a store covers say whether it touches the map of a board with these cards
pub names_touched : (setup : Setup) (cards : List CardBytes) (reg : Reg) (width : Width) (value : ℕ)
    (names : List (Option MapRegister)) → AreFitted cards → setup.cards ≡ cards_of cards →
    names ≡ names_from (cards_of cards) reg width → list_any is_some names ≡ touches_map setup (Store reg width value)
names_touched setup cards reg width value names fitted same named =
    rw (named, ← same) (names_touch setup reg width value (no_low_card setup cards 0 (omega arith) fitted.each same)
    (no_low_card setup cards 1 (omega arith) fitted.each same))

-- a change that touches the map of each board with its cards is a store
pub stored_if : {old new : Mapped} {store : MapChange} {told : Changed} → IsApplied old new store told →
    ((setup : Setup) → setup.cards ≡ cards_of old.regs.cards → touches_map setup store ≡ true) → IsStored old new store
stored_if changed touched = record {
  stands = changed.stands;
  cards = changed.cards;
  same_cards = changed.same_cards;
  version = λ setup same. rw (touched setup same) changed.version;
  windows = λ setup bytes stands is. changed.windows setup bytes stands;
  same_windows = λ setup same not. absurd (false≢true (sym not ∙ touched setup same));
  map = changed.map;
}
