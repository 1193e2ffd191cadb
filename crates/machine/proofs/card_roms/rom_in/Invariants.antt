use Rattle.std.proofs.Common.{◌≡◌, ◌==◌, find, drop}
use Rattle.machine.proofs.card_roms.rom_in.Given as goal

abbrev pub invariant-loop-card : goal.invariant-loop-card
invariant-loop-card l =
    find (λ card. card.dev == l.dev) (drop l.card-index l.cards) ≡ find (λ card. card.dev == l.dev) l.cards
