-- The memory map and the denials in the order of the code are those of the definitions.
use Rattle.std.proofs.Common.{◌≡◌, ◌≤◌, ◌↔◌, ℕ, Bool, false, true, Option, Some, None, refl, arith, unwrap_or, [], ◌∷◌}
use Rattle.std.proofs.Common.{option_map, IsNone, IfSome, inl, inr, nat_lt, if◌then◌else◌, sym, ◌∙◌}
use Rattle.board_prelude.proofs.{nat_tests, Area, Denial, Kind, top_of, memory_shut, rom_unselected, cases_lt}
use Rattle.board_prelude.proofs.{abort_denial, rom_denial, denial_in, denial_of, Setup, Window, first_of, lt-ltb}
use Rattle.board_prelude.proofs.{line_where, is_smram_range, is_shadow_range, card_area, area_under, Bytes, lies_in}
use Rattle.board_prelude.proofs.{row_of, is_shadowed, memory_claim, area_of, xbcs as select_register, is_in_hole}
use Rattle.board_prelude.proofs.{is_bios_selected, is_smram_open, Fetch, Read, Write, six_areas, upper_memory}
use Rattle.std.proofs.lemmas.Bool.{false≢true, le-ltb}
use Rattle.board_base.specs.declared.target.Area.TheVariants.{Dram, Smram, Rom, Abort}
use Rattle.host_bridge.proofs.RowLemmas.{none_above_top}
use Rattle.addr_decode.specs.Memory.{dram_area, above_dram, beside_dram, board_denial, card_denial, plain_row}
use Rattle.addr_decode.specs.Master.{master_area}
use Rattle.addr_decode.specs.MapRegs.{MapBytes, StandsFor}

no_dram : (rom : Bool) (claim : Option Window) →
    first_of (line_where rom Rom ∷ option_map card_area claim ∷ []) Abort ≡ above_dram None rom claim
no_dram rom claim = grind arith

-- where DRAM answers nothing denies
abbrev pub unless_dram : Option Area → Option Denial → Option Denial
unless_dram (Some area) denial = None
unless_dram None denial = denial

undenied :
    (row : Option ℕ) (opened shadowed hole : Bool) (addr : ℕ) (kind : Kind) (abort rom : Denial) (beside : Area) →
    denial_in (unwrap_or (dram_area row opened shadowed hole addr) beside) kind abort rom
    ≡ unless_dram (dram_area row opened shadowed hole addr) (denial_in beside kind abort rom)
undenied row opened shadowed hole addr kind abort rom beside = grind (arith, nat_tests)

module _ (setup : Setup) (bytes : Bytes) (addr : ℕ) (kind : Kind) where
  -- where DRAM answers
  abbrev pub dram_by : (opened : Bool) → Option Area
  dram_by opened = dram_area (row_of bytes addr) opened (is_shadowed bytes addr kind) (is_in_hole bytes addr) addr

  in_order : (opened : Bool) →
      area_under (row_of bytes addr) opened (is_shadowed bytes addr kind) (is_in_hole bytes addr)
      (is_bios_selected bytes addr) (memory_claim setup bytes addr) addr
      ≡ unwrap_or (dram_by opened) (beside_dram setup bytes addr)
  in_order opened =
      let none = no_dram (is_bios_selected bytes addr) (memory_claim setup bytes addr) in grind (arith, nat_tests)

  pub area_in_order : (smm : Bool) → area_of setup bytes addr kind smm
      ≡ unwrap_or (dram_by (is_smram_open bytes kind smm)) (beside_dram setup bytes addr)
  unfolding area_of
  area_in_order smm = in_order (is_smram_open bytes kind smm)

  -- to a bus master SMRAM never answers
  pub master_in_order :
      master_area setup bytes addr kind ≡ unwrap_or (dram_by false) (beside_dram setup bytes addr)
  unfolding master_area
  master_in_order = in_order false

  pub denial_in_order : (smm : Bool) → denial_of setup bytes addr kind smm
      ≡ unless_dram (dram_by (is_smram_open bytes kind smm)) (denial_in (beside_dram setup bytes addr) kind
      (abort_denial (top_of bytes) (memory_shut setup bytes addr) (rom_unselected setup bytes addr) addr)
      (rom_denial (bytes select_register)))
  unfolding denial_of
  denial_in_order smm =
      rw (area_in_order smm) (undenied (row_of bytes addr) (is_smram_open bytes kind smm)
      (is_shadowed bytes addr kind) (is_in_hole bytes addr) addr kind _ _ (beside_dram setup bytes addr))

-- where no row of ordinary DRAM stands, the hole does not count
pub dram_elsewhere : (bytes : Bytes) (addr : ℕ) (opened shadowed : Bool) → plain_row bytes addr ≡ None →
    dram_area (row_of bytes addr) opened shadowed true addr
    ≡ dram_area (row_of bytes addr) opened shadowed (is_in_hole bytes addr) addr
dram_elsewhere bytes addr opened shadowed none = grind (arith, nat_tests)

-- in the range of SMRAM the top of DRAM stands for the row
reaches_smram : (row : Option ℕ) (top addr : ℕ) (opened shadowed hole : Bool) → IsNone row ↔ (top ≤ addr) →
    is_smram_range addr ≡ true →
    dram_area row opened shadowed hole addr ≡ (if nat_lt addr top then line_where opened Smram else None)
reaches_smram None top addr opened shadowed hole none inside =
    let above : top ≤ addr = none.0 refl in grind (arith, nat_tests)
reaches_smram (Some row) top addr opened shadowed hole none inside =
    elim (cases_lt addr top) [
      | inl below ↦ rw (inside, lt-ltb addr top below) refl
      | inr above ↦ absurd (false≢true (sym (none.1 above)))
    ]

pub smram_dram : (bytes : Bytes) (addr : ℕ) (opened shadowed hole : Bool) → is_smram_range addr ≡ true →
    dram_area (row_of bytes addr) opened shadowed hole addr
    ≡ (if nat_lt addr (top_of bytes) then line_where opened Smram else None)
smram_dram bytes addr opened shadowed hole inside =
    reaches_smram (row_of bytes addr) (top_of bytes) addr opened shadowed hole (none_above_top bytes addr) inside

pub plain_outside : (bytes : Bytes) (addr : ℕ) → lies_in upper_memory addr ≡ false →
    plain_row bytes addr ≡ (if is_in_hole bytes addr then None else row_of bytes addr)
plain_outside bytes addr outside = rw outside refl

no_smram : (addr : ℕ) → lies_in upper_memory addr ≡ false → is_smram_range addr ≡ false
no_smram addr outside = grind (arith, nat_tests)

no_shadow : (addr : ℕ) → lies_in upper_memory addr ≡ false → is_shadow_range addr ≡ false
no_shadow addr outside = grind (arith, nat_tests)

-- a plain row has the address, whatever the access
pub plain_dram : (bytes : Bytes) (addr row : ℕ) (opened shadowed : Bool) → plain_row bytes addr ≡ Some row →
    dram_area (row_of bytes addr) opened shadowed (is_in_hole bytes addr) addr ≡ Some (Dram row)
plain_dram bytes addr row opened shadowed is = grind (arith, nat_tests)

is_outside : (bytes : Bytes) (addr row : ℕ) → plain_row bytes addr ≡ Some row → lies_in upper_memory addr ≡ false
is_outside bytes addr row is = grind (arith, nat_tests)

-- where there is none, DRAM answers in the windows and in SMRAM alone
closed_dram : (row : Option ℕ) (addr : ℕ) (opened shadowed : Bool) → is_shadow_range addr ≡ false →
    (is_smram_range addr ≡ true → opened ≡ false) → dram_area row opened shadowed true addr ≡ None
closed_dram row addr opened shadowed no_shadow closed = grind (arith, nat_tests)

pub none_elsewhere : (bytes : Bytes) (addr : ℕ) (opened shadowed : Bool) → plain_row bytes addr ≡ None →
    is_shadow_range addr ≡ false → (is_smram_range addr ≡ true → opened ≡ false) →
    dram_area (row_of bytes addr) opened shadowed (is_in_hole bytes addr) addr ≡ None
none_elsewhere bytes addr opened shadowed none no_shadow closed =
    sym (dram_elsewhere bytes addr opened shadowed none)
    ∙ closed_dram (row_of bytes addr) addr opened shadowed no_shadow closed

-- the area that each access reaches, and what denies it, of each board that has the registers
module _ (regs : MapBytes) (addr : ℕ) where
  pub plain_areas :
      (found : Option ℕ) →
      ((setup : Setup) (bytes : Bytes) → StandsFor setup bytes regs → found ≡ plain_row bytes addr) →
      IfSome found (λ row.
      (setup : Setup) (bytes : Bytes) (kind : Kind) (smm : Bool) → StandsFor setup bytes regs →
      area_of setup bytes addr kind smm ≡ Dram row)
  plain_areas None is = tt
  plain_areas (Some row) is = λ setup bytes kind smm stands.
      rw (
        area_in_order,
        plain_dram bytes addr row (is_smram_open bytes kind smm) (is_shadowed bytes addr kind)
            (sym (is setup bytes stands)),
      ) refl

  pub plain_denials :
      (found : Option ℕ) →
      ((setup : Setup) (bytes : Bytes) → StandsFor setup bytes regs → found ≡ plain_row bytes addr) →
      IfSome found (λ row.
      (setup : Setup) (bytes : Bytes) (kind : Kind) (smm : Bool) → StandsFor setup bytes regs →
      denial_of setup bytes addr kind smm ≡ None)
  plain_denials None is = tt
  plain_denials (Some row) is = λ setup bytes kind smm stands.
      rw (
        denial_in_order,
        plain_dram bytes addr row (is_smram_open bytes kind smm) (is_shadowed bytes addr kind)
            (sym (is setup bytes stands)),
      ) refl

pub ruleset memory_map = (nat_tests, area_in_order, denial_in_order)

-- ---- denials

abbrev pub after_board : Option Denial → (shut rom : Option Window) → ℕ → Denial
after_board (Some denial) shut rom addr = denial
after_board None shut rom addr =
    card_denial (option_map (λ window. window.dev) shut) (option_map (λ window. window.dev) rom) addr

pub denials_in_order : (top : ℕ) (shut rom : Option Window) (addr : ℕ) →
    abort_denial top shut rom addr ≡ after_board (board_denial top addr) shut rom addr
unfolding board_denial
denials_in_order top shut rom addr = grind (arith, nat_tests)

-- ---- the areas of all six accesses

-- at an address in the range of SMRAM
module _ (setup : Setup) (bytes : Bytes) (addr : ℕ) (inside : is_smram_range addr ≡ true) where
  abbrev pub smram_or : Kind → Bool → Area
  smram_or kind smm =
      unwrap_or (if nat_lt addr (top_of bytes) then line_where (is_smram_open bytes kind smm) Smram else None)
      (beside_dram setup bytes addr)

  in_smram : (kind : Kind) (smm : Bool) → area_of setup bytes addr kind smm ≡ smram_or kind smm
  in_smram kind smm =
      rw (
        area_in_order,
        smram_dram bytes addr (is_smram_open bytes kind smm) (is_shadowed bytes addr kind)
            (is_in_hole bytes addr) inside,
      ) refl

  pub areas_in_smram : six_areas setup bytes addr
      ≡ smram_or Fetch false ∷ smram_or Read false ∷ smram_or Write false
      ∷ smram_or Fetch true ∷ smram_or Read true ∷ smram_or Write true
      ∷ []
  areas_in_smram =
      rw (
        in_smram Fetch false,
        in_smram Read false,
        in_smram Write false,
        in_smram Fetch true,
        in_smram Read true,
        in_smram Write true,
      ) refl

-- outside A0000h to BFFFFh the area of an access is that of a read or a write outside SMM
pub areas_beside_smram : (setup : Setup) (bytes : Bytes) (addr : ℕ) → is_smram_range addr ≡ false →
    six_areas setup bytes addr
    ≡ area_of setup bytes addr Read false ∷ area_of setup bytes addr Read false ∷ area_of setup bytes addr Write false
    ∷ area_of setup bytes addr Read false ∷ area_of setup bytes addr Read false ∷ area_of setup bytes addr Write false
    ∷ []
unfolding area_of
areas_beside_smram setup bytes addr beside = rw beside refl

-- and outside the shadow windows too that of a read
areas_beside_windows : (setup : Setup) (bytes : Bytes) (addr : ℕ) → is_smram_range addr ≡ false →
    is_shadow_range addr ≡ false →
    six_areas setup bytes addr
    ≡ area_of setup bytes addr Read false ∷ area_of setup bytes addr Read false ∷ area_of setup bytes addr Read false
    ∷ area_of setup bytes addr Read false ∷ area_of setup bytes addr Read false ∷ area_of setup bytes addr Read false
    ∷ []
unfolding area_of
areas_beside_windows setup bytes addr beside closed = rw (beside, closed) refl

areas_alike : (setup : Setup) (bytes : Bytes) (addr : ℕ) (area : Area) → lies_in upper_memory addr ≡ false →
    area_of setup bytes addr Read false ≡ area →
    six_areas setup bytes addr ≡ area ∷ area ∷ area ∷ area ∷ area ∷ area ∷ []
areas_alike setup bytes addr area outside is =
    rw (areas_beside_windows setup bytes addr (no_smram addr outside) (no_shadow addr outside), is) refl

module _ (setup : Setup) (bytes : Bytes) (addr : ℕ) where
  pub areas_of_row : (row : ℕ) → plain_row bytes addr ≡ Some row →
      six_areas setup bytes addr ≡ Dram row ∷ Dram row ∷ Dram row ∷ Dram row ∷ Dram row ∷ Dram row ∷ []
  areas_of_row row is =
      areas_alike setup bytes addr (Dram row) (is_outside bytes addr row is)
      (rw (area_in_order, plain_dram bytes addr row (is_smram_open bytes Read false) (is_shadowed bytes addr Read) is)
      refl)

  pub areas_beside : (beside : Area) → beside ≡ beside_dram setup bytes addr → lies_in upper_memory addr ≡ false →
      plain_row bytes addr ≡ None →
      six_areas setup bytes addr ≡ beside ∷ beside ∷ beside ∷ beside ∷ beside ∷ beside ∷ []
  areas_beside beside is outside none =
      areas_alike setup bytes addr beside outside
      (rw (
        area_in_order,
        none_elsewhere bytes addr (is_smram_open bytes Read false) (is_shadowed bytes addr Read) none
            (no_shadow addr outside) (λ inside. absurd (false≢true (sym (no_smram addr outside) ∙ inside))),
      ) (sym is))
