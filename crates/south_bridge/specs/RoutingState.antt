-- The state of the route control registers, and of the edge/level control registers, as bytes.
use Rattle.std.specs.Prelude.{ℕ, ◌≡◌, ◌<◌, List, [], ◌∷◌, length}
use Rattle.std.specs.Int.{w8}
use Rattle.byte_fields.specs.Fields.{Reading, gives, ◌>>=◌, within, plain}
use Rattle.device_spec.specs.Routing.{Routes}
use Rattle.device_spec.specs.Elcr.{Triggers}

-- PIRQRCA to PIRQRCD

abbrev pub IsRoutes : Routes → Type 0
IsRoutes routes = length routes ≡ 4

abbrev pub routes_bytes : Routes → List ℕ
routes_bytes routes = routes

abbrev pub routes_fields : Reading Routes
routes_fields = plain 4

-- the byte of 4D0h, and that of 4D1h

pub record AreTriggers (triggers : Triggers) : Type 0 where
  pub low : triggers.low < 256
  pub high : triggers.high < 256

abbrev pub triggers_bytes : Triggers → List ℕ
triggers_bytes triggers = triggers.low ∷ triggers.high ∷ []

unfoldable pub triggers_fields : Reading Triggers
triggers_fields = do
  low ← within w8 0 255
  high ← within w8 0 255
  gives (record { low = low; high = high })
