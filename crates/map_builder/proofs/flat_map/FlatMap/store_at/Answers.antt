use Rattle.std.proofs.Common.{◌≡◌, ◌∙◌, refl, sym}
use Rattle.board_prelude.proofs.{false≢true, MapChange, Setup, Store, touches_map}
use Rattle.pci_bars.specs.Cards.{cards_of}
use Rattle.map_builder.proofs.ChangeLemmas.{names_touched, stored_if, untouched_map}
use Rattle.map_builder.proofs.flat_map.FlatMap.store_at.Goals.{After-touch_map}
use Rattle.map_builder.proofs.flat_map.FlatMap.store_at.Goals as goal

module _ (c : After-touch_map) where
  abbrev store : MapChange
  store = Store c.args.register.now.reg c.args.width c.args.value

  -- a store of a setup with these cards touches the map where it was found so
  found : (setup : Setup) → setup.cards ≡ cards_of c.self.inside.regs.cards.items →
      touches_map setup store ≡ c.touch_map.result
  found setup same =
      sym (c.touch_map.ensures.touched
      ∙ names_touched setup c.self.inside.regs.cards.items c.args.register.now.reg c.args.width c.args.value
      c.as_slice.result.now c.self.invariant.fitted same (rw c.as_slice.ensures.value c.names_at-names.ensures.named))

pub returns-then-touch_map : goal.returns-then-touch_map
returns-then-touch_map c = record {
  stored =
      let here = (goal.at.returns-then-touch_map c).After-touch_map in
      stored_if c.uncounted.ensures.applied
      (λ setup same. found here setup (rw (← c.self.view_is) at same) ∙ c.if-touch_map.true);
}

pub invariant_of-self : goal.invariant_of-self
invariant_of-self c =
    let here = (goal.at.invariant_of-self c).After-touch_map in
    let board = c.self.invariant.board in
    untouched_map (store here) c.apply_named.ensures.stands c.self.invariant
    (found here board.setup board.stands.cards.0 ∙ c.if-touch_map.false) c.apply_named.ensures.fitted

pub returns-else-touch_map : goal.returns-else-touch_map
returns-else-touch_map c = record {
  stored =
      let here = (goal.at.returns-else-touch_map c).After-touch_map in
      let board = c.self.invariant.board in
      rw (← c.self.view_is) (record {
        stands = c.apply_named.ensures.stands;
        cards = c.apply_named.ensures.cards;
        same_cards = c.apply_named.ensures.same_cards;
        version = λ setup same. rw (found here setup same ∙ c.if-touch_map.false) refl;
        windows = λ setup bytes stands is.
            absurd (false≢true (sym (found here setup stands.cards.0 ∙ c.if-touch_map.false) ∙ is));
        same_windows = λ setup same not. refl;
        map = (untouched_map (store here) c.apply_named.ensures.stands c.self.invariant
            (found here board.setup board.stands.cards.0 ∙ c.if-touch_map.false) c.apply_named.ensures.fitted).map;
      });
}
