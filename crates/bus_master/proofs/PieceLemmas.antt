-- What the definition comes to is the same before and after each piece.
use Rattle.std.proofs.Common.{◌≡◌, ◌≢◌, ℕ, ◌+◌, ◌-◌, ◌*◌, ◌/◌, ◌%◌, ◌≤◌, ◌<◌, Bool, true, false, not, ◌&&◌, List, []}
use Rattle.std.proofs.Common.{◌∷◌, Some, None, inl, inr, refl, sym, ap, ◌∙◌, arith, ◌==◌, if◌then◌else◌}
use Rattle.board_prelude.proofs.{cases_Bool, ne_eqb, nat_tests, Kind, Read, Area, Medium, Setup, Bytes, is_smram_range}
use Rattle.board_base.specs.declared.access.Width.TheVariants.{Four}
use Rattle.addr_decode.specs.Master.{master_area}
use Rattle.board_chipset.proofs.MasterSteps.{IsOffDram, off_dram}
use Rattle.bus_master.specs.declared.done.End.{End}
use Rattle.bus_master.specs.declared.done.End.TheVariants.{Exact, Longer, Shorter, Sector}
use Rattle.bus_master.specs.declared.piece.Piece.{Piece}
use Rattle.bus_master.specs.declared.piece.Stretch.{Stretch}
use Rattle.bus_master.specs.Cells.{Cells}
use Rattle.bus_master.specs.Transfer.{Moving, address_after, answered, ended, is_used_up, kind_of, master_value}
use Rattle.bus_master.specs.Transfer.{next_moved, next_sector, ready_for, region_found, region_taken, sector_tested}
use Rattle.bus_master.specs.Transfer.{table_tested, transferred, words_moved}
use Rattle.bus_master.specs.Pieces.{AreNext, ComesToTheTransfer, Going, HasPassed, IfMove, IsDescriptor, IsEnd}
use Rattle.bus_master.specs.Pieces.{IsMemory, IsMove, IsStretch, Point, abort_at, all_done, described, is_missing}
use Rattle.bus_master.specs.Pieces.{once_done, outcome, standing}
use Rattle.bus_master.proofs.WordLemmas.{all_copied, copied_is, reached_by, reached_here, ready_here, words_add}
use Rattle.bus_master.proofs.WordLemmas.{words_stay}

-- some words, and then the others
parted : (setup : Setup) (bytes : Bytes) (going : Going) (cells : Cells) (medium : Medium) (words : ℕ) →
    words ≤ going.words →
    outcome setup bytes going cells medium ≡ words_moved setup bytes going.direction going.lba (going.words - words)
    (words_moved setup bytes going.direction going.lba words (standing going cells medium))
unfolding outcome
parted setup bytes going cells medium words some =
    let count : going.words ≡ going.words - words + words = omega arith in
    ap (λ n. words_moved setup bytes going.direction going.lba n (standing going cells medium)) count
    ∙ words_add setup bytes going.direction going.lba (going.words - words) words (standing going cells medium)

first_word : (setup : Setup) (bytes : Bytes) (going : Going) (cells : Cells) (medium : Medium) → 1 ≤ going.words →
    outcome setup bytes going cells medium ≡ words_moved setup bytes going.direction going.lba (going.words - 1)
    (next_moved setup bytes going.direction going.lba (standing going cells medium))
unfolding words_moved
first_word setup bytes going cells medium some = parted setup bytes going cells medium 1 some

module _ (setup : Setup) (bytes : Bytes) (going : Going) (cells : Cells) (medium : Medium) where
  abbrev now : Moving
  now = standing going cells medium

  abbrev moves : ℕ → Moving → Moving
  moves words moving = words_moved setup bytes going.direction going.lba words moving

  -- ---- the end

  ends_so : (end : End) → 1 ≤ going.words → next_moved setup bytes going.direction going.lba now ≡ ended end now →
      IsEnd (outcome setup bytes going cells medium) going cells medium end
  ends_so end some next = grind (arith, nat_tests, first_word, words_stay)

  -- all words were moved
  pub ends_after_all : (end : End) → going.words ≡ 0 →
      end ≡ (if is_used_up going.place && going.place.is_last then Exact else Longer) →
      IsEnd (outcome setup bytes going cells medium) going cells medium end
  unfolding outcome words_moved
  ends_after_all end none is = rw none (record { kept = refl; disk = refl; place = refl; ends = sym is })

  pub ends_over : 1 ≤ going.words → (is_used_up going.place && going.place.is_last) ≡ true →
      IsEnd (outcome setup bytes going cells medium) going cells medium Shorter
  unfolding next_moved ready_for table_tested
  ends_over some over = ends_so Shorter some (rw over refl)

  pub ends_missing : 1 ≤ going.words → (is_used_up going.place && going.place.is_last) ≡ false →
      is_missing going.lba going.place medium ≡ true →
      IsEnd (outcome setup bytes going cells medium) going cells medium (Sector (next_sector going.lba going.place))
  unfolding next_moved ready_for table_tested sector_tested
  ends_missing some over missing = ends_so (Sector (next_sector going.lba going.place)) some (rw (over, missing) refl)

  module _ (passed : HasPassed going medium) where
    pub ends_at_base : (end : End) → going.place.left ≡ 0 →
        Some end ≡ abort_at setup bytes Read going.place.table →
        IsEnd (outcome setup bytes going cells medium) going cells medium end
    unfolding next_moved ready_for table_tested sector_tested region_found answered
    ends_at_base end used ends = ends_so end passed.some (rw (passed.over, passed.sector, used, sym ends) refl)

    pub ends_at_count : (end : End) → going.place.left ≡ 0 →
        None ≡ abort_at setup bytes Read going.place.table →
        Some end ≡ abort_at setup bytes Read (address_after going.place.table 4) →
        IsEnd (outcome setup bytes going cells medium) going cells medium end
    unfolding next_moved ready_for table_tested sector_tested region_found answered
    ends_at_count end used first ends =
        ends_so end passed.some (rw (passed.over, passed.sector, used, sym first, sym ends) refl)

    pub ends_at_word : (end : End) → going.place.left ≢ 0 →
        Some end ≡ abort_at setup bytes (kind_of going.direction) going.place.addr →
        IsEnd (outcome setup bytes going cells medium) going cells medium end
    unfolding next_moved ready_for table_tested sector_tested region_found answered
    ends_at_word end left ends =
        ends_so end passed.some (rw (passed.over, passed.sector, ne_eqb going.place.left 0 left, sym ends) refl)

    -- the region of a descriptor is in use once it is read
    described_first : going.place.left ≡ 0 → None ≡ abort_at setup bytes Read going.place.table →
        None ≡ abort_at setup bytes Read (address_after going.place.table 4) →
        ready_for setup bytes going.lba now ≡ region_taken setup bytes now
    unfolding ready_for table_tested sector_tested region_found answered
    described_first used first second = rw (passed.over, passed.sector, used, sym first, sym second) refl

    -- a descriptor is read, and nothing else is done
    pub described_same : going.place.left ≡ 0 → None ≡ abort_at setup bytes Read going.place.table →
        None ≡ abort_at setup bytes Read (address_after going.place.table 4) →
        IsDescriptor setup bytes going cells medium going.place.table
    unfolding next_moved region_taken
    described_same used first second =
        let base = master_value setup bytes cells going.place.table Four in
        let count = master_value setup bytes cells (address_after going.place.table 4) Four in
        let after = described base count going in
        let taken : next_moved setup bytes going.direction going.lba now
        ≡ next_moved setup bytes going.direction going.lba (standing after cells medium) =
        rw (
          described_first used first second,
          ready_here setup bytes going.direction going.lba cells medium after.place (grind (arith, nat_tests))
              passed.sector,
        ) refl in
        record {
          here = refl;
          same =
              first_word setup bytes going cells medium passed.some ∙ ap (moves (going.words - 1)) taken
              ∙ sym (first_word setup bytes after cells medium passed.some);
        }

-- ---- words that begin a sector are moved only where it can be read

pub of_any_move : (P : Type 0) (piece : Piece) → P → IfMove piece (λ stretch. P)
of_any_move P piece holds = grind (arith, nat_tests)

pub begins_readable : (word : ℕ) (readable : Bool) → (word == 0 && not readable) ≡ false → word ≡ 0 → readable ≡ true
begins_readable word readable passed first = grind (arith, nat_tests)

-- ---- words of a stretch

module _ (setup : Setup) (bytes : Bytes) (going : Going) (cells : Cells) (medium : Medium) (stretch : Stretch)
    (is : IsStretch going stretch) (passed : HasPassed going medium) where
  abbrev area_at : ℕ → Area
  area_at addr = master_area setup bytes addr (kind_of going.direction)

  -- words are moved, and nothing else is done
  pub move_is : going.place.moved % 2 ≡ 0 → stretch.area ≡ area_at going.place.addr →
      None ≡ abort_at setup bytes (kind_of going.direction) going.place.addr →
      ((i : ℕ) → i < stretch.words → area_at (address_after going.place.addr (2 * i)) ≡ area_at going.place.addr) →
      IsMove setup bytes going cells medium stretch
  unfolding outcome
  move_is whole here answers areas =
      let start = standing going cells medium in
      let reached : reached_by setup bytes going.direction going.lba start ≡ start =
      reached_here _ _ _ _ cells _ _ (ne_eqb going.place.left 0
      (λ (e : going.place.left ≡ 0). omega (arith, e, is.left, is.some))) passed.sector answers in
      record {
        area = λ i below. rw is.addr (areas i below ∙ sym here);
        same =
            parted setup bytes going cells medium _ is.most
            ∙ ap (words_moved setup bytes going.direction going.lba (going.words - stretch.words))
            (all_copied _ _ _ going.lba _ {place = going.place} (rw reached refl) (rw reached refl) _ is.left whole
            (omega (arith, is.word, is.within)) answers areas _ is.some (omega arith)
            ∙ rw reached
            (copied_is setup bytes going.direction going.lba start refl refl _ is.some));
      }

-- ---- SMRAM

not_both : (area : Area) → IsMemory area → IsOffDram area → ⊥
not_both area memory off = grind (arith, nat_tests)

odd_outside : (addr i : ℕ) → addr % 2 ≡ 0 → is_smram_range (address_after addr (2 * (i / 2))) ≡ false →
    is_smram_range (address_after addr i) ≡ false
odd_outside addr i evens outside = grind (arith, nat_tests)

pub outside_smram : (setup : Setup) (bytes : Bytes) (kind : Kind) (addr words : ℕ) (area : Area) → addr % 2 ≡ 0 →
    ((i : ℕ) → i < words → master_area setup bytes (address_after addr (2 * i)) kind ≡ area) → IsMemory area →
    (i : ℕ) → i < 2 * words → is_smram_range (address_after addr i) ≡ false
outside_smram setup bytes kind addr words area evens areas memory i below =
    odd_outside addr i evens
    (elim (cases_Bool (is_smram_range (address_after addr (2 * (i / 2))))) [
      | inl inside ↦ absurd (not_both area memory
          (rw (areas (i / 2) (omega arith)) at (off_dram setup bytes (address_after addr (2 * (i / 2))) kind inside)))
      | inr outside ↦ outside
    ])

-- ---- one piece after another

module _ (setup : Setup) (bytes : Bytes) where
  abbrev outcome_at : Point → Moving
  outcome_at point = outcome setup bytes point.going point.cells point.medium

  all_same : (pieces : List Piece) (point : Point) → AreNext setup bytes pieces point →
      outcome_at point ≡ outcome_at (all_done setup bytes pieces point)
  unfolding AreNext all_done once_done
  all_same [] point next = refl
  all_same (piece ∷ later) point next =
      (grind (arith, nat_tests, next.0)) ∙ all_same later (once_done setup bytes piece point) next.1

-- what is begun comes to the transfer
pub comes_to_the_transfer : ComesToTheTransfer
unfolding outcome transferred
comes_to_the_transfer setup bytes master lba count cells medium pieces end next ended =
    rw (sym (all_same _ _ _ _ next)) at ended

-- `next_piece` is proved by these
pub ruleset next_piece_rules = (begins_readable, ends_after_all, ends_missing, ends_over, of_any_move)
