-- A cell holds the byte of the last entry that put one there, and a wide access to DRAM reads and writes the bytes from
-- its address on.
use Rattle.board_prelude.proofs.{nat_tests, All-head, All-tail, Entry, Cell, stored_of, cases_lt, Width, One}
use Rattle.board_prelude.proofs.{WideAccess, Target, bytes_of, Wide, Setup, byte, wide, part_at, parts_of, joined}
use Rattle.board_prelude.proofs.{DramCell, CardCell, first_cell, memory_put, parts_put, entry_put, is_write, dram_byte}
use Rattle.board_prelude.proofs.{memory_target, part_answer, value_at, wide_value, IsAnswer, made, total, is_cut}
use Rattle.board_prelude.proofs.{further}
use Rattle.std.proofs.Common.{◌≡◌, ℕ, List, [], ◌∷◌, ◌++◌, Some, None, refl, ◌∙◌, ap, arith, unwrap_or, suc, ◌+◌, ◌-◌}
use Rattle.std.proofs.Common.{◌*◌, ◌/◌, ◌%◌, ◌^◌, ◌≤◌, ◌<◌, ◌⊎◌, inl, inr, true, Option, sym, All, map}
use Rattle.board_laws.specs.StoreLaws.{put_by, LastStays, NothingStored, OutsideGivesOnes, WideStored, low_first}
use Rattle.board_laws.specs.StoreLaws.{WideReads}
use native.Mathlib.Numerals.{unary_clauses}
use Rattle.board_base.specs.declared.access.Width.TheVariants.{Two, Four}
use Rattle.board_base.specs.declared.access.Access.{Access}

-- an entry that puts a byte in a cell, and one that does not
pub stored-put : (entry : Entry) (before : List Entry) (cell : Cell) (written : ℕ) → put_by cell entry ≡ Some written →
    stored_of (entry ∷ before) cell ≡ written
unfolding stored_of
stored-put entry before cell written put = ap (λ it. unwrap_or it (stored_of before cell)) put

pub stored-left : (entry : Entry) (before : List Entry) (cell : Cell) → put_by cell entry ≡ None →
    stored_of (entry ∷ before) cell ≡ stored_of before cell
unfolding stored_of
stored-left entry before cell left = ap (λ it. unwrap_or it (stored_of before cell)) left

pub last_stays : LastStays
last_stays [] older entry cell written put left = stored-put entry older cell written put
last_stays (first ∷ newer) older entry cell written put left =
    stored-left first (newer ++ entry ∷ older) cell (All-head (λ e. put_by cell e ≡ None) first newer left)
    ∙ last_stays newer older entry cell written put (All-tail (λ e. put_by cell e ≡ None) first newer left)

pub nothing_stored : NothingStored
unfolding stored_of
nothing_stored [] cell left = refl
nothing_stored (entry ∷ before) cell left =
    stored-left entry before cell (All-head (λ e. put_by cell e ≡ None) entry before left)
    ∙ nothing_stored before cell (All-tail (λ e. put_by cell e ≡ None) entry before left)

-- ---- bases whose bytes the board does not keep

pub outside_gives_ones : OutsideGivesOnes
outside_gives_ones setup before dev base bits off place x7 below is = grind (arith, nat_tests)

-- ---- reads

value_at-dram : (setup : Setup) (before : List Entry) (target : Target) (addr : ℕ) (width : Width) →
    first_cell target addr ≡ Some (DramCell addr) →
    value_at setup before target addr width ≡ wide (dram_byte setup before) addr width
value_at-dram setup before x2 addr width lands = grind (arith, nat_tests)

low-part :
    (byte_at : ℕ → ℕ) (from : ℕ) (width : Width) (count : ℕ) →
    wide byte_at from width + 256 ^ bytes_of width * low_first byte_at (from + bytes_of width) count
    ≡ low_first byte_at from (bytes_of width + count)
low-part byte_at from One count = simp unary_clauses (grind arith)
low-part byte_at from _ count = simp unary_clauses (grind arith)

abbrev Lands : Setup → List Entry → Access → Type 0
Lands setup before part = first_cell (memory_target setup before part) part.addr ≡ Some (DramCell part.addr)

joined-wide : (setup : Setup) (before : List Entry) (access : WideAccess) (from : ℕ) (widths : List Width) →
    All (Lands setup before) (made access from widths) →
    joined (λ part. value_at setup before (memory_target setup before part) part.addr part.width)
    (made access from widths) ≡ low_first (dram_byte setup before) from (total widths)
unfolding made
joined-wide setup before access from [] lands = refl
joined-wide setup before access from (width ∷ later) lands =
    rw (
      value_at-dram setup before _ from width (All-head (Lands setup before) _ _ lands),
      joined-wide setup before access (from + bytes_of width) later (All-tail (Lands setup before) _ _ lands),
    ) (low-part (dram_byte setup before) from width (total later))

pub wide_reads : WideReads
unfolding wide_value
wide_reads setup before access legal reads lands =
    let cut = is_cut access legal in
    rw (reads, cut.parts, joined-wide setup before access access.addr cut.widths (rw cut.parts at lands), cut.total_is)
    refl

-- ---- writes

-- a cell that is none of the bytes of DRAM from one address to another
abbrev IsApart : (from to : ℕ) → Cell → Type 0
IsApart from to (DramCell addr) = (addr < from) ⊎ (to ≤ addr)
IsApart from to _ = Unit {0}

apart-parts : (cell : Cell) (from near far : ℕ) → IsApart from (from + (near + far)) cell →
    IsApart from (from + near) cell × IsApart (from + near) (from + near + far) cell
apart-parts x0 from near far apart = grind (arith, nat_tests)

module _ (access : Access) (target : Target) (writes : is_write access.kind ≡ true)
    (lands : first_cell target access.addr ≡ Some (DramCell access.addr)) where
  memory_put-within : (addr : ℕ) → access.addr ≤ addr → addr < access.addr + bytes_of access.width →
      memory_put access target (DramCell addr) ≡ Some (byte access.value (addr - access.addr))
  memory_put-within addr from below = rw (writes, lands) (grind (arith, nat_tests))

  memory_put-apart : (cell : Cell) → IsApart access.addr (access.addr + bytes_of access.width) cell →
      memory_put access target cell ≡ None
  memory_put-apart x2 apart = grind (arith, nat_tests)

-- byte k of the low bytes of a number is its own byte k
byte-low : (width : Width) (n k : ℕ) → k < bytes_of width → byte (n % 256 ^ bytes_of width) k ≡ byte n k
byte-low One n (suc k) below = absurd (omega arith)
byte-low Two n (suc (suc k)) below = absurd (omega arith)
byte-low Four n (suc (suc (suc (suc k)))) below = absurd (omega arith)
byte-low _ n _ below = omega arith

-- the byte that a part puts in a cell is that of the whole
byte-part : (access : WideAccess) (from addr : ℕ) (width : Width) → access.addr ≤ from → from ≤ addr →
    addr < from + bytes_of width →
    byte (part_at access from width).value (addr - from) ≡ byte access.value (addr - access.addr)
byte-part access from addr width start above below =
    let place : addr - access.addr ≡ (from - access.addr) + (addr - from) = omega arith in
    byte-low width (access.value / 256 ^ (from - access.addr)) (addr - from) (omega arith)
    ∙ sym (ap (λ (n : ℕ). n % 256) (further access.value (from - access.addr) (addr - from)))
    ∙ sym (ap (byte access.value) place)

module _ (setup : Setup) (before : List Entry) (access : WideAccess) where
  -- what the parts put in a cell, each by its answer
  abbrev put_by_parts : List Access → Cell → Option ℕ
  put_by_parts parts cell = parts_put parts (map (part_answer setup before) parts) cell

  put-apart : (from : ℕ) (cell : Cell) (widths : List Width) → is_write access.kind ≡ true →
      All (Lands setup before) (made access from widths) → IsApart from (from + total widths) cell →
      put_by_parts (made access from widths) cell ≡ None
  unfolding made parts_put part_answer
  put-apart from cell [] writes lands apart = refl
  put-apart from cell (width ∷ later) writes lands apart =
      let part = part_at access from width in
      let both = apart-parts cell from (bytes_of width) (total later) apart in
      rw (put-apart (from + bytes_of width) cell later writes (All-tail (Lands setup before) part _ lands) both.1)
      (memory_put-apart part (memory_target setup before part) writes (All-head (Lands setup before) part _ lands) cell
      both.0)

  put-within : (from addr : ℕ) (widths : List Width) → is_write access.kind ≡ true → All (Lands setup before)
      (made access from widths) → access.addr ≤ from → from ≤ addr → addr < from + total widths →
      put_by_parts (made access from widths) (DramCell addr) ≡ Some (byte access.value (addr - access.addr))
  unfolding made parts_put part_answer
  put-within from addr [] writes lands start above below = absurd (omega arith)
  put-within from addr (width ∷ later) writes lands start above below =
      let part = part_at access from width in
      let others = All-tail (Lands setup before) part _ lands in
      elim (cases_lt addr (from + bytes_of width)) [
        | inl here ↦
            rw (put-apart (from + bytes_of width) (DramCell addr) later writes others (inl here))
            (memory_put-within part (memory_target setup before part) writes
            (All-head (Lands setup before) part _ lands) addr above here
            ∙ ap (λ (n : ℕ). Some n) (byte-part access from addr width start above here))
        | inr past ↦
            rw (put-within (from + bytes_of width) addr later writes others (omega arith) past (omega arith)) refl
      ]

  -- what the reply to a wide access puts in a cell
  put-answered : (entry : Entry) (cell : Cell) → entry.event ≡ Wide access →
      IsAnswer setup before (Wide access) entry.reply →
      entry_put entry.event entry.reply cell ≡ put_by_parts (parts_of access) cell
  put-answered entry cell is answer = grind (arith, nat_tests)

pub wide_stored : WideStored
wide_stored setup before entry access next is legal writes lands =
    let cut = is_cut access legal in
    let answer = rw is at next.answer in
    let landed = rw cut.parts at lands in
    let put = λ (cell : Cell). rw cut.parts at (put-answered setup before access entry cell is answer) in
    let left = λ (cell : Cell) (apart : IsApart access.addr (access.addr + total cut.widths) cell).
    stored-left entry before cell
    (put cell ∙ put-apart setup before access access.addr cell cut.widths writes landed apart) in
    record {
      within = λ k below.
          let place : access.addr + k - access.addr ≡ k = omega arith in
          stored-put entry before (DramCell (access.addr + k)) (byte access.value k)
          (put (DramCell (access.addr + k))
          ∙ put-within setup before access access.addr (access.addr + k) cut.widths writes landed (omega arith)
          (omega arith) (omega (arith, cut.total_is))
          ∙ ap (λ (j : ℕ). Some (byte access.value j)) place);
      outside = λ addr apart. left (DramCell addr) (rw cut.total_is apart);
      cards = λ dev base off. left (CardCell dev base off) tt;
    }
