-- The pieces of a line that was read are those of its entry.
use Rattle.std.proofs.Common.{◌≡◌, ℕ, Option, Some, List, ◌∷◌, sym, ap, subst, ◌∙◌}
use Rattle.board_prelude.proofs.{Event, Reply, Entry, space, value_bytes, reply_text, line_text}
use Rattle.script_spec.specs.Grammar.{IsEventForm}
use Rattle.script_spec.specs.WellFormed.{HasShape, IsWellFormed}
use Rattle.script_spec.specs.Items.{ask}
use Rattle.script_spec.specs.Entries.{Pieces, parse_pieces, parse_actor}
use Rattle.script_spec.proofs.Chains.{some_is}
use Rattle.script_spec.proofs.LineReading.{one_item}
use Rattle.script_spec.proofs.LogLaws.{replied_text, pieces, line_pieces, actor_said, asked_said}
use Rattle.logs.specs.Asked.{IsAsked}
use Rattle.logs.proofs.AskedReading.{ask_is}

-- ---- the pieces of a line that was read

-- and say what it has
pub record Says (version : ℕ) (entry : Entry) (processor text answer : List ℕ) : Type 0 where
  pub actor : parse_actor processor ≡ Some entry.actor
  pub asked : IsAsked version text entry.seq entry.event
  pub replied : answer ≡ replied_text entry

pub line_read : (version n : ℕ) (entry : Entry) (line actor asked replied : List ℕ) → IsWellFormed version entry
    → line ≡ line_text n entry → Some (record { actor = actor; asked = asked; replied = replied }) ≡ parse_pieces line
    → Says version entry actor asked replied
line_read version n entry line actor asked replied formed is read =
    let are = some_is _ (pieces entry) (rw (read, is) (line_pieces version n entry formed)) in
    record {
      actor = ap (λ (p : Pieces). parse_actor p.actor) are ∙ actor_said entry.actor formed.actor;
      asked = subst (λ (p : Pieces). IsAsked version p.asked entry.seq entry.event) (sym are) (record {
        has = asked_said version entry formed;
        fits = record { named = formed.named; placed = formed.placed };
      });
      replied = ap (λ (p : Pieces). p.replied) are;
    }

-- a statement asks one thing
pub asked_once : (version seq other : ℕ) (text : List ℕ) (event asked : Event) → IsAsked version text seq event
    → IsAsked version text other asked → (event ≡ asked) × (seq ≡ other)
asked_once version seq other text event asked one two =
    ask_is seq other event asked (one_item version text (ask seq event) (ask other asked) one.has two.has)

pub reply_found : (version : ℕ) (entry : Entry) (event : Event) (text : List ℕ) (found : Option Reply)
    → ((version : ℕ) (reply : Reply) → IsEventForm version event → HasShape event reply
    → text ≡ space ∷ reply_text (value_bytes event) reply
    → found ≡ Some reply)
    → IsWellFormed version entry → event ≡ entry.event → text ≡ replied_text entry → found ≡ Some entry.reply
reply_found version entry event text found reads formed same is =
    reads version entry.reply (rw same formed.form) (rw same formed.shape) (rw same is)
