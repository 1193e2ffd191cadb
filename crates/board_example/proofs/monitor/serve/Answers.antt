use Rattle.std.proofs.Common.{◌≡◌, List, [], ◌∷◌, ◌++◌, refl, sym, subst, append_assoc, Result, Ok, Err, IfOk, OnErr}
use Rattle.board_prelude.proofs.{Event, Reply, Entry}
use Rattle.board_chipset.specs.declared.in_range.OutOfRange.{OutOfRange}
use Rattle.board_chipset.specs.Chipset.{Running, IsLeftBy}
use Rattle.board_example.proofs.monitor.serve.Goals as goal

-- the history after an exit
served : (old mid new : Running) (event : Event) (result : Result Reply OutOfRange) →
    IfOk result (λ reply. (history : List Entry) (entry : Entry) → IsLeftBy old history → entry.event ≡ event →
    entry.reply ≡ reply → IsLeftBy mid (entry ∷ history)) → OnErr result (mid ≡ old) →
    ((history : List Entry) → IsLeftBy mid history → (more : List Entry) × IsLeftBy new (more ++ history)) →
    (history : List Entry) → IsLeftBy old history → (more : List Entry) × IsLeftBy new (more ++ history)
served old mid new event (Ok reply) ok err after history left =
    let entry : Entry = record { actor = 0; seq = 0; event = event; reply = reply } in
    let (more, now) = after (entry ∷ history) (ok history entry left refl refl) in (
      more ++ (entry ∷ []),
      subst (IsLeftBy new) (sym (append_assoc more (entry ∷ []) history)) now,
    )
served old mid new event (Err fault) ok err after history left =
    after history (subst (λ (it : Running). IsLeftBy it history) (sym err) left)

pub returns-clause-left : goal.returns-clause-left
returns-clause-left c =
    served c.args.chipset.now c.ask-reply.new.self c.acknowledged-vector.new.chipset c.args.event.now
    c.ask-reply.result c.ask-reply.ensures.left c.ask-reply.ensures.unchanged c.acknowledged-vector.ensures.left
