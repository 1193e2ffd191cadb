-- Bytes that are put into the stores one after the other.
use Rattle.std.proofs.Common.{◌≡◌, ℕ, suc, ◌+◌, ◌<◌, List, [], length, get_or, drop, Option, arith}
use Rattle.board_prelude.proofs.{nat_tests, drop-cons, nil_from_length, option_or, Cell, memory_put, parts_put}
use Rattle.pci_bars.specs.Contents.{held}
use Rattle.board_stores.specs.declared.stores.Stores.{Stores}
use Rattle.board_stores.specs.declared.cut.Cycle.{Cycle}
use Rattle.board_stores.specs.Puts.{ArePut}
use Rattle.board_stores.specs.Ready.{IsReady}
use Rattle.board_stores.specs.Cycles.{accesses, answers}

-- bytes put after others stand over them
pub put_then : (first later : Cell → Option ℕ) (old mid new : Stores) → ArePut first old mid → ArePut later mid new →
    ArePut (λ cell. option_or (later cell) (first cell)) old new
put_then first later old mid new before after = grind (arith, nat_tests)

-- what cycles leave
abbrev pub cycles_put : List Cycle → Cell → Option ℕ
cycles_put cycles = parts_put (accesses cycles) (answers cycles)

pub none_put : (stores : Stores) → ArePut (cycles_put []) stores stores
unfolding parts_put
none_put stores = grind (arith, nat_tests)

pub put_at : (cycles : List Cycle) (i : ℕ) (d : Cycle) (old mid new : Stores) → i < length cycles →
    ArePut (memory_put (get_or cycles i d).access (get_or cycles i d).answer.target) old mid →
    ArePut (cycles_put (drop (i + 1) cycles)) mid new → ArePut (cycles_put (drop i cycles)) old new
unfolding parts_put
put_at cycles i d old mid new within first rest =
    let one : i + 1 ≡ suc i = omega arith in
    rw (drop-cons cycles i d within)
    (put_then _ _ _ _ _ first (rw one at rest))

-- ---- the cycles that are left can still be done

pub ready_after : (rom : List ℕ) (old new : List (List ℕ)) (cycle : Cycle) →
    ((dev base : ℕ) → length (held new dev base) ≡ length (held old dev base)) →
    IsReady rom old cycle.access cycle.answer → IsReady rom new cycle.access cycle.answer
ready_after rom old new cycle same ready = grind (arith, nat_tests, nil_from_length)
