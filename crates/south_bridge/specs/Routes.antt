-- The route control registers among a board's register bytes.
use Rattle.std.specs.Prelude.{◌≡◌, map}
use Rattle.board_prelude.specs.{Routes, Bytes, pirq, pirqs}

-- these are the bytes of PIRQRCA to PIRQRCD
abbrev pub AreRoutesIn : Bytes → Routes → Type 0
AreRoutesIn bytes routes = routes ≡ map (λ k. bytes (pirq k)) pirqs
