-- A call of the bus, with the reply that it got.
use Rattle.std.specs.Prelude.{ℕ, ◌≡◌, List}
use Rattle.board_prelude.specs.{Event, Reply, Entry, MapChange, Setup}
use Rattle.run_order.specs.Trace.{IsGone}

-- the entry that a call added has this reply
pub record HasGone (setup : Setup) (actor : ℕ) (seen : List Entry) (older : List MapChange) (event : Event)
    (reply : Reply) (now : List Entry) (known : List MapChange) : Type 0 where
  pub gone : IsGone setup actor seen older event now known
  pub reply_is : gone.entry.reply ≡ reply
