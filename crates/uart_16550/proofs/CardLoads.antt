-- Bytes that are written to a card from outside the bus leave line 4 as it is.
use Rattle.std.proofs.Common.{◌≡◌, ℕ, List, [], ◌∷◌, ◌++◌, map, None, refl, ◌∙◌}
use Rattle.board_prelude.proofs.{length-map, Event, Memory, Port, Entry, line_set, irq_of}
use Rattle.board_chipset.specs.CardLoads.{WriteCardInTurn, WriteCard, WritesByte}
use Rattle.board_chipset.proofs.CardLoadSteps.{some_card_entries}
use Rattle.uart_16550.specs.Com1.{com1_irq}
use Rattle.uart_16550.proofs.Loads.{IsWriting, by_processor, writes_in_turn}

no_line : (byte line : ℕ) (event : Event) → WritesByte byte event → line_set line event ≡ None
no_line byte line (Memory access) is = refl
no_line byte line (Port access) is = refl
no_line byte line _ is = absurd is

module _ (dev base off : ℕ) (bytes : List ℕ) where
  line_in_turn : (entries history : List Entry) → WriteCardInTurn dev base off bytes entries →
      irq_of (entries ++ history) com1_irq ≡ irq_of history com1_irq
  unfolding WriteCardInTurn irq_of
  line_in_turn [] history each = refl
  line_in_turn (entry ∷ entries) history each =
      rw (no_line _ com1_irq entry.event each.0.event) (line_in_turn entries history each.1)

  in_turn_by : (entries : List Entry) → WriteCardInTurn dev base off bytes entries →
      WriteCardInTurn dev base off bytes (map by_processor entries)
  unfolding WriteCardInTurn
  in_turn_by [] each = tt
  in_turn_by (entry ∷ entries) each = (
    rw (length-map entries by_processor)
        (record { denial = each.0.denial; event = each.0.event; reply = each.0.reply }),
    in_turn_by entries each.1,
  )

  pub writes_card :
      IsWriting (λ entries history. entries ++ history) (λ entries history. WriteCard dev base off bytes entries)
  writes_card =
      writes_in_turn _ (λ entries history all. line_in_turn _ history all.each) (λ entries all. record {
        all = length-map entries by_processor ∙ all.all;
        each = in_turn_by _ all.each;
      }) (some_card_entries dev base off bytes)
