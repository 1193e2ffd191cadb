-- Bytes that are written from outside the bus leave line 4 as it is.
use Rattle.std.proofs.Common.{◌≡◌, ℕ, List, [], ◌∷◌, ◌++◌, map, refl, ◌∙◌, Result, Ok, Err, OnOk, OnErr, arith}
use Rattle.std.proofs.lemmas.Result.{on_ok_weaker}
use Rattle.board_prelude.proofs.{length-map, Entry, irq_of}
use Rattle.board_chipset.specs.Chipset.{Running, IsLeftBy}
use Rattle.board_chipset.specs.Loads.{WriteInTurn, WriteAll, WriteClockByte}
use Rattle.board_chipset.proofs.LoadSteps.{some_entries, some_clock_entries}
use Rattle.uart_16550.specs.Com1.{com1_irq}
use Rattle.uart_16550.specs.Serial.{Serial, AreOwn, IsLeftBy as IsPortLeftBy}
use Rattle.std.proofs.lemmas.Bool.Decides.{nat_tests}

-- ---- entries that are not the port's own

pub own_with : (entries history : List Entry) → AreOwn entries → AreOwn history → AreOwn (entries ++ history)
own_with [] history own before = before
own_with (entry ∷ entries) history own before = (own.0, own_with entries history own.1 before)

-- an entry as one of processor 0
abbrev pub by_processor : Entry → Entry
by_processor entry = record entry { actor = 0 }

pub own_by : (entries : List Entry) → AreOwn (map by_processor entries)
own_by [] = tt
own_by (entry ∷ entries) = (λ is. absurd (cc is), own_by entries)

-- ---- what writes from outside, and does not set line 4

-- what is written, and how a history goes on with it
pub record IsWriting (later : List Entry → List Entry → List Entry) (Write : List Entry → List Entry → Type 0) :
    Type 0 where
  pub line : (entries history : List Entry) → Write entries history →
      irq_of (later entries history) com1_irq ≡ irq_of history com1_irq
  pub own : (entries history : List Entry) → AreOwn entries → AreOwn history → AreOwn (later entries history)
  pub some : (history : List Entry) → AreOwn history → (entries : List Entry) × Write entries history × AreOwn entries

-- entries in a row that do so are some as entries of processor 0 too
pub writes_in_turn : (Write : List Entry → Type 0) →
    ((entries history : List Entry) → Write entries → irq_of (entries ++ history) com1_irq ≡ irq_of history com1_irq) →
    ((entries : List Entry) → Write entries → Write (map by_processor entries)) →
    ((entries : List Entry) × Write entries) →
    IsWriting (λ entries history. entries ++ history) (λ entries history. Write entries)
writes_in_turn Write line by some = record {
  line = line;
  own = own_with;
  some = λ history own. (map by_processor some.0, by some.0 some.1, own_by some.0);
}

module _ {later : List Entry → List Entry → List Entry} {Write : List Entry → List Entry → Type 0}
    (writing : IsWriting later Write) (old new : Serial Running) (same : old.com1 ≡ new.com1) where
  abbrev LeavesChipset : Type 0
  LeavesChipset =
      (history entries : List Entry) → IsLeftBy old.board history → Write entries history →
      IsLeftBy new.board (later entries history)

  abbrev LeavesPort : Type 0
  LeavesPort =
      (history entries : List Entry) → IsPortLeftBy IsLeftBy old history → Write entries history → AreOwn entries →
      IsPortLeftBy IsLeftBy new (later entries history)

  leaves : LeavesChipset → LeavesPort
  leaves left history entries was all own = grind (arith, nat_tests)

  pub written : {E : Type 0} (result : Result (Unit {0}) E) → OnOk result LeavesChipset → OnOk result LeavesPort
  written result = on_ok_weaker result leaves

  -- so it goes on, where a call that was refused has changed nothing
  pub written_on : {E : Type 0} (result : Result (Unit {0}) E) → OnOk result LeavesChipset →
      OnErr result (new.board ≡ old.board) → (history : List Entry) → IsPortLeftBy IsLeftBy old history →
      (after : List Entry) × IsPortLeftBy IsLeftBy new after
  written_on (Ok done) left still history was =
      let some = writing.some history was.own in
      (later some.0 history, leaves left history some.0 was some.1 some.2)
  written_on (Err bad) left still history was = (history, rw (still, ← same) was)

-- ---- bytes of the DRAM

module _ (addr : ℕ) (bytes : List ℕ) where
  line_in_turn : (entries history : List Entry) → WriteInTurn addr bytes entries →
      irq_of (entries ++ history) com1_irq ≡ irq_of history com1_irq
  unfolding WriteInTurn irq_of
  line_in_turn [] history each = refl
  line_in_turn (entry ∷ entries) history each = rw (each.0.event) (line_in_turn entries history each.1)

  in_turn_by : (entries : List Entry) → WriteInTurn addr bytes entries →
      WriteInTurn addr bytes (map by_processor entries)
  unfolding WriteInTurn
  in_turn_by [] each = tt
  in_turn_by (entry ∷ entries) each =
      let is = each.0 in (
        rw (length-map entries by_processor) (record {
          smm = is.smm;
          target = is.target;
          denial = is.denial;
          event = is.event;
          reply = is.reply;
          in_dram = is.in_dram;
        }),
        in_turn_by entries each.1,
      )

  pub writes_dram : IsWriting (λ entries history. entries ++ history) (λ entries history. WriteAll addr bytes entries)
  writes_dram =
      writes_in_turn _ (λ entries history all. line_in_turn _ history all.each) (λ entries all. record {
        all = length-map entries by_processor ∙ all.all;
        each = in_turn_by _ all.each;
      }) (some_entries addr bytes)

-- ---- a byte of the clock

-- there are such entries, and none is the port's own
own_clock_entries : (history : List Entry) (address byte : ℕ) → AreOwn history →
    (later : List Entry) × WriteClockByte history address byte later × AreOwn later
own_clock_entries history address byte own =
    let puts = (some_clock_entries history address byte).1 in (
      by_processor puts.back ∷ by_processor puts.to_byte ∷ by_processor puts.to_address ∷ history,
      record {
        to_address = by_processor puts.to_address;
        to_byte = by_processor puts.to_byte;
        back = by_processor puts.back;
        are_last = refl;
        first = record { event = puts.first.event; reached = puts.first.reached };
        second = record { event = puts.second.event; reached = puts.second.reached };
        third = record { event = puts.third.event; reached = puts.third.reached };
      },
      (λ is. absurd (cc is), (λ is. absurd (cc is), (λ is. absurd (cc is), own))),
    )

pub writes_clock : (address byte : ℕ) →
    IsWriting (λ later history. later) (λ later history. WriteClockByte history address byte later)
unfolding irq_of
writes_clock address byte = record {
  line = λ later history puts. rw (puts.are_last, puts.first.event, puts.second.event, puts.third.event) refl;
  own = λ later history own before. own;
  some = λ history own. own_clock_entries history address byte own;
}
