-- What a transfer tells is that of the definition over what the history left.
use Rattle.std.proofs.lemmas.Bool.Decides.{nat_tests}
use Rattle.std.proofs.Common.{ap, add-one, ◌≡◌, ℕ, ◌<◌, List, [], ◌++◌, length, refl, slice_index, Result, Ok, Err}
use Rattle.std.proofs.Common.{IfOk, zero, suc, ◌+◌, ◌-◌, ◌*◌, ◌≤◌, take, drop, add-suc, add-zero, arith, ◌∷◌}
use Rattle.std.proofs.Common.{append_assoc, OnOk}
use Rattle.board_prelude.proofs.{Entry, Setup, installed, byte_of, disk_of, Cell, space}
use Rattle.dram_store.specs.Dram.{IsDramOf}
use Rattle.dram_store.proofs.DramLemmas.{read_stored}
use Rattle.pci_bars.specs.Contents.{IsContentsOf}
use Rattle.board_chipset.specs.declared.store.Store.{Store}
use Rattle.bus_master.specs.declared.done.Done.{Done}
use Rattle.bus_master.specs.Registers.{Master}
use Rattle.bus_master.specs.Transfer.{Moving, done_of, master_after, with_medium}
use Rattle.bus_master.specs.Stores.{cells_of, transfer_of, IsCell}
use Rattle.command_words.specs.declared.transfer.Transfer.{Transfer}
use Rattle.command_texts.specs.Laws.{RomsAreRead}
use Rattle.command_texts.specs.Transfers.{AreCellsAfter, HasTransferText, started, sum_below, disk_sum, ended_line}
use Rattle.command_texts.specs.Transfers.{sums_line}
use Rattle.std.proofs.lemmas.List.{get_or_past, get_or-take, get_or-drop, length-take}

-- ---- sums of bytes, in parts

pub sum_below_more : (count : ℕ) (byte_at : ℕ → ℕ)
    → sum_below (count + 1) byte_at ≡ sum_below count byte_at + byte_at count
unfolding sum_below
sum_below_more count byte_at = ap (λ (n : ℕ). sum_below n byte_at) (add-one count)

pub sum_below-same : (count : ℕ) (byte_at other : ℕ → ℕ) → ((k : ℕ) → k < count → byte_at k ≡ other k) →
    sum_below count byte_at ≡ sum_below count other
unfolding sum_below
sum_below-same zero byte_at other same = refl
sum_below-same (suc count) byte_at other same =
    rw (sum_below-same count byte_at other (λ k below. same k (omega (arith, below))), same count (omega arith)) refl

-- the bytes below, and those from there on
sum_below-append : (first more : ℕ) (byte_at : ℕ → ℕ) →
    sum_below (first + more) byte_at ≡ sum_below first byte_at + sum_below more (λ k. byte_at (first + k))
unfolding sum_below
sum_below-append first zero byte_at = simp add-zero
sum_below-append first (suc more) byte_at = rw add-suc (omega (arith, sum_below-append first more byte_at))

-- bytes past the end of a list count nothing
sum_below-past : (bytes : List ℕ) (more : ℕ) →
    sum_below (length bytes + more) (slice_index bytes) ≡ sum_below (length bytes) (slice_index bytes)
unfolding sum_below
sum_below-past bytes zero = simp add-zero
sum_below-past bytes (suc more) =
    rw add-suc (omega (arith, sum_below-past bytes more, get_or_past bytes (length bytes + more) 0 (omega arith)))

-- one part more, each of as many bytes. What is not kept of it is 0
pub part_added : (size i : ℕ) (byte_at : ℕ → ℕ) (part : List ℕ) → length part ≤ size →
    ((k : ℕ) → k < size → byte_at (i * size + k) ≡ slice_index part k) →
    sum_below (i * size) byte_at + sum_below (length part) (slice_index part) ≡ sum_below ((i + 1) * size) byte_at
part_added size i byte_at part within same =
    let past = sum_below-past part (size - length part) in
    let this = sum_below-same size (λ k. byte_at (i * size + k)) (slice_index part) same in
    grind (arith, nat_tests, sum_below-append (i * size) size byte_at)

-- the bytes of a part that is cut out of a list
pub cut_byte : (size i k : ℕ) (bytes : List ℕ) → k < size →
    slice_index bytes (i * size + k) ≡ slice_index (take size (drop (size * i) bytes)) k
cut_byte size i k bytes below = grind (arith, nat_tests, get_or-take, get_or-drop)

pub cut_length : (size i : ℕ) (bytes : List ℕ) → length (take size (drop (size * i) bytes)) ≤ size
cut_length size i bytes = grind (arith, nat_tests, length-take)

-- ---- what is told

pub cells_left : (setup : Setup) (history : List Entry) (store : Store) → IsDramOf setup history store.dram →
    IsContentsOf setup history store.contents → AreCellsAfter setup history (cells_of store)
cells_left setup history store dram contents = grind (arith, nat_tests, read_stored)

-- and of the expansion ROMs they are no other
pub roms_are_read : RomsAreRead
roms_are_read setup history cells are dev off = are.roms dev off

pub transfer_told : (setup : Setup) (history : List Entry) (transfer : Transfer) (old new : Store)
    (master after : Master) (done : Done) (status dram disk : ℕ) (text : List ℕ) (moving : Moving) →
    moving ≡ transfer_of setup (byte_of setup history) master transfer.lba transfer.count old →
    master ≡ started transfer → old.disk ≡ disk_of setup history → AreCellsAfter setup history (cells_of old) →
    length new.dram ≡ installed setup → done ≡ done_of moving → after ≡ master_after master moving →
    new.disk ≡ with_medium old.disk moving.medium →
    ((cell : Cell) → IsCell cell → cells_of new cell ≡ moving.cells cell) → status ≡ after.status →
    dram ≡ sum_below (length new.dram) (slice_index new.dram) → disk ≡ disk_sum new.disk →
    text ≡ ended_line done status ++ sums_line dram disk → HasTransferText setup history transfer text
transfer_told setup history transfer old new master after done status dram disk text moving moved begun left stored size
    done_told registers disk_left cells status_told dram_told disk_told lines =
    grind (arith, nat_tests, sum_below-same)

pub ok_then : {T E : Type 0} {P Q : T → Type 0} (result : Result T E) → IfOk result P → ((x : T) → P x → Q x)
    → IfOk result Q
ok_then (Ok x) is more = more x is
ok_then (Err fault) is more = tt

-- four pieces, one after another
pub abort_added : {T E : Type 0} (result : Result T E) (old one two three new first second last : List ℕ) →
    one ≡ old ++ first → two ≡ one ++ second → three ≡ two ++ space ∷ [] → OnOk result (new ≡ three ++ last) →
    OnOk result (new ≡ old ++ (first ++ second ++ space ∷ last))
abort_added result old one two three new first second last a b c d = grind (arith, nat_tests, append_assoc)

-- `dram_sum` is proved by these
pub ruleset dram_sum_rules = (part_added, nat_tests)
