-- That these have at most one proof, so that types may keep them.
use Rattle.std.specs.Prelude.{ℕ, List}
use Rattle.std.proofs.Props.{props}
use Rattle.board_prelude.specs.{Entry, Setup}
use Rattle.map_builder.specs.Map.{Mapped}
use Rattle.map_publish.specs.Props.{HoldsRom-prop}
use Rattle.board_live.specs.Known.{IsMapOpened, AreFew}

pub Opens-prop : (setup : Setup) (opened : List Entry) (map : Mapped) → IsProp (IsMapOpened setup opened map)
Opens-prop setup opened map = hlevel (props, HoldsRom-prop)

pub AreFew-prop : (callers : ℕ) (history : List Entry) → IsProp (AreFew callers history)
AreFew-prop callers history = hlevel props
