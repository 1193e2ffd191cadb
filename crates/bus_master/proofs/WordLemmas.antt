-- Words one after another.
use Rattle.std.proofs.Common.{◌≡◌, ℕ, zero, suc, ◌+◌, ◌-◌, ◌*◌, ◌/◌, ◌%◌, ◌≤◌, ◌<◌, false, Option, Some, None, refl}
use Rattle.std.proofs.Common.{sym, ap, ◌∙◌, arith, lit≤}
use Rattle.board_prelude.proofs.{ne_eqb, and_left, nat_tests, Kind, Width, Area, Denial, Medium, word_at, Setup, Bytes}
use Rattle.board_prelude.proofs.{Cell}
use Rattle.board_base.specs.declared.target.Area.TheVariants.{Abort as NobodysArea}
use Rattle.ata_pio.specs.Words.{with_word}
use Rattle.addr_decode.specs.Master.{master_area}
use Rattle.board_chipset.specs.declared.store.Store.{Store}
use Rattle.bus_master.specs.declared.done.End.{End}
use Rattle.bus_master.specs.declared.direction.Direction.{Direction}
use Rattle.bus_master.specs.declared.direction.Direction.TheVariants.{ToMemory, ToDisk}
use Rattle.bus_master.specs.Cells.{Cells, put_in}
use Rattle.bus_master.specs.Transfer.{Moving, TransferPlace, ◌and_then◌, abort_in, address_after, answered, is_used_up}
use Rattle.bus_master.specs.Transfer.{kind_of, master_value, medium_of, moved_on, next_moved, next_sector, next_word}
use Rattle.bus_master.specs.Transfer.{ready_for, region_found, sector_tested, table_tested, word_moved, words_moved}
use Rattle.board_chipset.specs.Masters.{master_target}
use Rattle.bus_master.specs.Stores.{cells_of, HasSameShape, IsCell}
use Rattle.bus_master.specs.UnderWay.{CameOn, StandsAt}
use Rattle.board_chipset.specs.Stores.{IsStoreOf}
use Rattle.bus_master.specs.Pieces.{abort_at, copied, is_missing, went_on}
use Rattle.bus_master.proofs.HeldTargets.{master_value_same}
use Rattle.bus_master.proofs.StepLemmas.{stands_skipped, taken, answered_stands}

-- ---- a store with the same shape is one of the same board

pub same_store : {setup : Setup} {bytes : Bytes} {old new : Store} → IsStoreOf setup bytes old → HasSameShape old new →
    IsStoreOf setup bytes new
same_store of same = grind (arith, nat_tests)

pub same_shape : (store : Store) → HasSameShape store store
same_shape store = grind (arith, nat_tests)

-- ---- one word

pub word_stands : {setup : Setup} {bytes : Bytes} {store : Store} → IsStoreOf setup bytes store →
    {place : TransferPlace} {moving : Moving} → StandsAt moving store place None → (lba : ℕ) (new : Store)
    (direction : Direction) (area : Area) → place.addr % 2 ≡ 0 →
    area ≡ master_area setup bytes place.addr (kind_of direction) →
    (direction ≡ ToMemory → area ≡ master_area setup bytes place.addr Kind.Write → (cell : Cell) → IsCell cell →
    cells_of new cell
    ≡ put_in setup (master_target setup bytes Kind.Write place.addr) place.addr Width.Two
    (word_at (medium_of store.disk) (next_sector lba place) (next_word place)) (cells_of store) cell) →
    (direction ≡ ToMemory → new.disk ≡ store.disk) →
    (direction ≡ ToDisk → area ≡ master_area setup bytes place.addr Kind.Read → medium_of new.disk
    ≡ with_word (medium_of store.disk) (next_sector lba place) (next_word place)
    (master_value setup bytes (cells_of store) place.addr Width.Two)) →
    (direction ≡ ToDisk → (cell : Cell) → cells_of new cell ≡ cells_of store cell) →
    StandsAt (word_moved setup bytes direction lba moving) new (moved_on place) None
unfolding word_moved
word_stands of is lba new direction area aligned reached memory disk word cells =
    grind (arith, nat_tests, master_value_same)

-- somebody answers in an area wherever in it the access is
answers_in : (area : Area) (addr other : ℕ) (denial denial' : Option Denial) → None ≡ abort_in area addr denial →
    None ≡ abort_in area other denial'
answers_in NobodysArea addr other denial denial' is = absurd (cc)
answers_in _ addr other denial denial' is = refl

module _ (setup : Setup) (bytes : Bytes) (direction : Direction) (lba : ℕ) where
  -- ---- a transfer that has ended moves no more

  pub words_stay : (words : ℕ) (moving : Moving) (end : End) → Some end ≡ moving.end →
      words_moved setup bytes direction lba words moving ≡ moving
  unfolding words_moved next_moved ready_for
  words_stay zero moving end is = refl
  words_stay (suc words) moving end is = rw (words_stay words moving end is) (grind (arith, nat_tests))

  pub words_add : (more words : ℕ) (moving : Moving) →
      words_moved setup bytes direction lba (more + words) moving
      ≡ words_moved setup bytes direction lba more (words_moved setup bytes direction lba words moving)
  unfolding words_moved
  words_add zero words moving = grind arith
  words_add (suc more) words moving =
      let one : suc more + words ≡ suc (more + words) = omega arith in rw (one, words_add more words moving) refl

  pub no_words : {store : Store} {place : TransferPlace} (moving : Moving) → StandsAt moving store place None →
      StandsAt (words_moved setup bytes direction lba 0 moving) store place None
  unfolding words_moved
  no_words moving is = is

  module _ {most : ℕ} {store : Store} {old new : TransferPlace} (words : ℕ) (moving : Moving) where
    -- the words so far and then some more
    pub came_further : CameOn setup bytes direction lba most
        (words_moved setup bytes direction lba words moving) store old new None →
        old.moved ≡ 2 * words → StandsAt (words_moved setup bytes direction lba (new.moved / 2) moving) store new None
    came_further on count =
        let total : new.moved / 2 ≡ on.words + words = omega (arith, on.moved refl) in
        rw (total, words_add on.words words moving) on.stands

    -- or an end, after which no more words are moved
    pub came_to_end : (total : ℕ) (end : End) →
        CameOn setup bytes direction lba most (words_moved setup bytes direction lba words moving) store old new
        (Some end) →
        words + most ≤ total → StandsAt (words_moved setup bytes direction lba total moving) store new (Some end)
    came_to_end total end on few =
        let far = total - (on.words + words) in
        let count : total ≡ far + (on.words + words) = omega (arith, on.few) in
        let here =
        words_moved setup bytes direction lba on.words (words_moved setup bytes direction lba words moving) in
        rw (count, words_add far (on.words + words) moving)
        (rw (words_add on.words words moving, words_stay far here end on.stands.ends) on.stands)

  -- ---- words of one stretch

  -- what a word needs, and whether somebody answers
  unfoldable pub reached_by : Moving → Moving
  reached_by moving =
      ready_for setup bytes lba moving
      and_then (λ ready. answered setup bytes (kind_of direction) ready.place.addr ready)

  module _ {store : Store} {place : TransferPlace} (moving : Moving) where
    pub ends_before : {end : End} → StandsAt (ready_for setup bytes lba moving) store place (Some end) →
        StandsAt (words_moved setup bytes direction lba 1 moving) store place (Some end)
    unfolding words_moved next_moved
    ends_before is =
        stands_skipped (word_moved setup bytes direction lba)
        (stands_skipped (λ ready. answered setup bytes (kind_of direction) ready.place.addr ready) is)

    module _ (ready : StandsAt (ready_for setup bytes lba moving) store place None) where
      pub reached_stands : (end : Option End) → end ≡ abort_at setup bytes (kind_of direction) place.addr →
          StandsAt (reached_by moving) store place end
      unfolding reached_by
      reached_stands end ends =
          let here = ap (λ (p : TransferPlace). abort_at setup bytes (kind_of direction) p.addr) ready.come in
          grind (arith, nat_tests, answered_stands ready _ _ _ _ _ (ends ∙ here))

      pub ends_unanswered : {end : End} → Some end ≡ abort_at setup bytes (kind_of direction) place.addr →
          StandsAt (words_moved setup bytes direction lba 1 moving) store place (Some end)
      unfolding words_moved next_moved reached_by
      ends_unanswered {end} ends = stands_skipped (word_moved setup bytes direction lba) (reached_stands _ ends)

    pub one_word : {old : TransferPlace} {most : ℕ} {end : End} → 1 ≤ most →
        StandsAt (words_moved setup bytes direction lba 1 moving) store place (Some end) →
        CameOn setup bytes direction lba most moving store old place (Some end)
    one_word some is = record { words = 1; some = lit≤ tt; few = some; stands = is; moved = λ none. absurd (cc) }

  -- where nothing stands in its way, a word is reached
  module _ (cells : Cells) (medium : Medium) (place : TransferPlace) (left : is_used_up place ≡ false)
      (there : is_missing lba place medium ≡ false) where
    abbrev here : Moving
    here = record { cells = cells; medium = medium; place = place; end = None }

    pub ready_here : ready_for setup bytes lba here ≡ here
    unfolding ready_for table_tested sector_tested region_found
    ready_here = rw (left, there, left) refl

    module _ (answers : None ≡ abort_at setup bytes (kind_of direction) place.addr) where
      pub reached_here : reached_by here ≡ here
      unfolding reached_by answered
      reached_here = rw (ready_here, sym answers) refl

      next_word_is : next_moved setup bytes direction lba here ≡ word_moved setup bytes direction lba here
      unfolding next_moved reached_by
      next_word_is = rw reached_here refl

  -- ---- the words of a stretch are copied one after another

  module _ (moving : Moving) where
    abbrev after : ℕ → Moving
    after words = copied setup bytes direction lba words moving

    copied_to : {place : TransferPlace} → place ≡ moving.place → None ≡ moving.end → (words : ℕ) →
        ((after (suc words)).place ≡ went_on (suc words) place) × ((after (suc words)).end ≡ None)
    unfolding copied word_moved
    copied_to come ends zero = grind (arith, nat_tests)
    copied_to come ends (suc words) =
        let so_far = copied_to come ends words in
        (ap moved_on so_far.0 ∙ (grind arith), (grind (arith, nat_tests, so_far.1)))

    pub copied_is : {place : TransferPlace} → place ≡ moving.place → None ≡ moving.end → (words : ℕ) → 1 ≤ words →
        after words
        ≡ record { cells = (after words).cells; medium = (after words).medium; place = went_on words place; end = None }
    copied_is come ends zero some = absurd (omega arith)
    copied_is come ends (suc words) some = let to = copied_to come ends words in rw (← to.0, ← to.1) refl

  -- the first word is reached at once, and nothing comes before a later one
  module _ (moving : Moving) {place : TransferPlace} (come : place ≡ (reached_by moving).place)
      (ends : None ≡ (reached_by moving).end) (most : ℕ) (left : 2 * most ≤ place.left) (whole : place.moved % 2 ≡ 0)
      (within : next_word place + most ≤ 256)
      (answers : None ≡ abort_at setup bytes (kind_of direction) place.addr)
      (areas : (i : ℕ) → i < most → master_area setup bytes (address_after place.addr (2 * i)) (kind_of direction)
      ≡ master_area setup bytes place.addr (kind_of direction))
    where
      first_word : next_moved setup bytes direction lba moving
          ≡ word_moved setup bytes direction lba (reached_by moving)
      unfolding next_moved reached_by
      first_word = taken (reached_by moving) (word_moved setup bytes direction lba) ends

      later_word : (words : ℕ) → 1 ≤ words → words < most →
          next_moved setup bytes direction lba (after (reached_by moving) words)
          ≡ word_moved setup bytes direction lba (after (reached_by moving) words)
      later_word words some below =
          rw (copied_is (reached_by moving) come ends words some)
          (next_word_is (after (reached_by moving) words).cells (after (reached_by moving) words).medium
          (went_on words place)
          (ne_eqb (place.left - 2 * words) 0 (λ (e : place.left - 2 * words ≡ 0). omega (arith, e, left)))
          (and_left _ _ (ne_eqb (next_word (went_on words place)) 0
          (λ (e : next_word (went_on words place) ≡ 0). omega (arith, e, whole, within))))
          (rw (areas words below)
          (answers_in _ _ _ _ _ answers)))

      pub all_copied : (words : ℕ) → 1 ≤ words → words ≤ most →
          words_moved setup bytes direction lba words moving
          ≡ copied setup bytes direction lba words (reached_by moving)
      unfolding words_moved copied
      all_copied zero some below = absurd (omega arith)
      all_copied (suc zero) some below = first_word
      all_copied (suc (suc words)) some below =
          ap (next_moved setup bytes direction lba) (all_copied (suc words) (omega arith) (omega arith))
          ∙ later_word (suc words) (omega arith) below
