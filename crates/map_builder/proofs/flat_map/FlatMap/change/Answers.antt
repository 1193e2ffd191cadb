use Rattle.std.proofs.Common.{◌≡◌, true, ap, arith, refl}
use Rattle.board_prelude.proofs.{length-map, Setup, Bytes, MapChange}
use Rattle.pci_bars.specs.Cards.{cards_of}
use Rattle.addr_decode.specs.MapRegister.{names_of}
use Rattle.addr_decode.specs.MapRegs.{StandsFor, map_bytes}
use Rattle.map_builder.specs.Ranges.{range_of}
use Rattle.map_builder.specs.Changed.{after, windows_covered}
use Rattle.map_builder.specs.Rows.{stores_rows}
use Rattle.map_builder.proofs.BuildLemmas.{are_map_of}
use Rattle.map_builder.proofs.ChangeLemmas.{board_after, where_kept, are_changed, keeps_byte, pushed_found, AreFound}
use Rattle.map_builder.proofs.ChangeLemmas.{Idle, Chosen, chosen}
use Rattle.map_builder.proofs.SortedLemmas.{bounds_sorted}
use Rattle.map_builder.proofs.flat_map.FlatMap.change.Given.{Over}
use Rattle.map_builder.proofs.flat_map.FlatMap.change.Goals.{After-choose_windows}
use Rattle.map_builder.proofs.flat_map.FlatMap.change.Goals as goal

module _ (g : Over) (c : After-choose_windows g) where
  -- the names are those of the registers before
  named : c.args.names.now ≡ names_of (cards_of c.self.inside.regs.cards.items) c.args.change.now
  named = rw (← c.self.view_is) at c.requires.names

  -- where the registers are known to keep what they hold, they do
  keeps : c.is_same_byte-kept.result ≡ true → Idle (map_bytes c.self.inside.regs) c.args.change.now
  keeps kept =
      keeps_byte _ c.apply_named.ensures.stands (c.is_same_byte-kept.ensures.same kept)
      (c.byte_alone-before.ensures.held c.args.change.now named)
      (c.byte_alone.ensures.held c.args.change.now (rw c.apply_named.ensures.same_cards named))

  -- the windows that were pushed are those that change, of each board that has the registers
  found : (setup : Setup) (bytes : Bytes) → StandsFor setup bytes (map_bytes c.self.inside.regs) →
      AreFound setup bytes c.args.change.now c.push_again.new.windows.items
  found setup bytes stands =
      let change : MapChange = c.args.change.now in
      let now = c.apply_named.ensures.stands setup bytes stands in
      pushed_found setup bytes change c.is_same_byte-kept.result c.keeps_windows-same.result
      (λ is. ap (λ it. windows_covered setup it change) (keeps is setup bytes stands))
      (rw (stands.cards.0, ← named) c.keeps_windows-same.ensures.keeps)
      (rw c.truncate.ensures.items at (c.push_covered.ensures.windows setup bytes stands)) c.push_again.ensures.same
      (λ move. c.push_again.ensures.windows move setup (after setup change bytes) now)

  -- and so those are chosen that are built anew
  choice : Chosen c.self.invariant.board c.args.change.now c.choose_windows.new.chosen.items
  choice = chosen c.args.change.now c.apply_named.ensures.stands c.self.invariant.board c.as_slice.result.now
      c.is_same_byte-kept.result (stores_rows c.args.names.now)
      (λ is. rw named at is) (λ setup bytes stands. rw c.as_slice.ensures.items (found setup bytes stands)) keeps
      c.choose_windows.ensures.none c.choose_windows.ensures.others c.choose_windows.ensures.rows

pub rebuild-requires : goal.rebuild-requires
rebuild-requires g c =
    let is = choice g (goal.at.rebuild-requires g c).After-choose_windows in
    record {
      cards = c.apply_named.ensures.fitted;
      board = board_after _ c.apply_named.ensures.stands c.self.invariant.board;
      rise = rw c.as_slice-2.ensures.items is.rise;
      beside = rw c.as_slice-2.ensures.items (where_kept _ c.apply_named.ensures.stands c.self.invariant is.keeps);
      few = omega (arith, c.self.invariant.few, length-map c.self.inside.ranges.items range_of);
    }

pub invariant_of-self : goal.invariant_of-self
invariant_of-self g c =
    are_map_of _ c.apply_named.ensures.fitted (board_after _ c.apply_named.ensures.stands c.self.invariant.board)
    c.rebuild.ensures.tiles c.rebuild.ensures.map c.rebuild.ensures.few

pub returns-clause-applied : goal.returns-clause-applied
returns-clause-applied g c =
    let chosen = (goal.at.returns-clause-applied g c).After-choose_windows in
    rw (← c.self.view_is) (record {
      stands = c.apply_named.ensures.stands;
      cards = c.apply_named.ensures.cards;
      same_cards = c.apply_named.ensures.same_cards;
      version = refl;
      map = c.rebuild.ensures.map;
      changed = λ setup bytes stands.
          rw (
            c.unwrap_or.ensures,
            c.bounds_of.ensures.bounds,
            c.as_slice-3.ensures.items,
            ← bounds_sorted,
            found g chosen
                setup bytes stands,
            bounds_sorted,
          ) refl;
      windows = are_changed c.args.change.now c.apply_named.ensures.stands c.self.invariant.board (choice g chosen);
    })

pub returns-clause-rows : goal.returns-clause-rows
returns-clause-rows g c = λ setup bytes stands.
    let here = rw (← c.self.view_is) at stands in
    let new : Bytes = after setup c.args.change.now bytes in
    let rows = rw c.as_slice-2.ensures.items
    at (c.rebuild.ensures.rows setup new (c.apply_named.ensures.stands setup bytes here)) in
    omega (arith, (choice g (goal.at.returns-clause-rows g c).After-choose_windows).few setup bytes here)
