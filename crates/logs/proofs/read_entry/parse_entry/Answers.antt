use Rattle.std.proofs.Common.{◌∙◌, refl}
use Rattle.script_spec.proofs.Chains.{some_is}
use Rattle.script_spec.proofs.LogLaws.{pieces, line_pieces}
use Rattle.logs.proofs.LineBack.{line_read, asked_once, reply_found}
use Rattle.logs.proofs.read_entry.parse_entry.Goals as goal
use Rattle.scripts.proofs.StraightLemmas.{none_some}

pub returns-in_err-actor-clause-found : goal.returns-in_err-actor-clause-found
returns-in_err-actor-clause-found c = λ n entry formed is.
    absurd (none_some (pieces entry)
    (rw (c.in_err-actor.ensures.pieces, is) (line_pieces c.args.version n entry formed)))

pub returns-in_err-actor-2-clause-found : goal.returns-in_err-actor-2-clause-found
returns-in_err-actor-2-clause-found c = λ n entry formed is.
    let read = line_read c.args.version n entry c.args.line.now _ _ _ formed is c.in_ok-actor.ensures.pieces in
    absurd (none_some entry.actor (c.in_err-actor-2.ensures.actor ∙ read.actor))

pub returns-in_err-seq-clause-found : goal.returns-in_err-seq-clause-found
returns-in_err-seq-clause-found c = λ n entry formed is.
    let read = line_read c.args.version n entry c.args.line.now _ _ _ formed is c.in_ok-actor.ensures.pieces in
    absurd (c.in_err-seq.ensures.asked entry.seq entry.event read.asked)

pub returns-in_err-reply-clause-found : goal.returns-in_err-reply-clause-found
returns-in_err-reply-clause-found c = λ n entry formed is.
    let read = line_read c.args.version n entry c.args.line.now _ _ _ formed is c.in_ok-actor.ensures.pieces in
    let once = asked_once c.args.version _ _ _ _ _ c.in_ok-seq.ensures.asked read.asked in
    absurd (none_some entry.reply (reply_found c.args.version entry c.in_ok-seq.event _ _
    c.in_err-reply.ensures.found formed once.0 read.replied))

pub returns-clause-found : goal.returns-clause-found
returns-clause-found c = λ n entry formed is.
    let read = line_read c.args.version n entry c.args.line.now _ _ _ formed is c.in_ok-actor.ensures.pieces in
    let once = asked_once c.args.version _ _ _ _ _ c.in_ok-seq.ensures.asked read.asked in
    let actor = some_is _ entry.actor (c.in_ok-actor-2.ensures.actor ∙ read.actor) in
    let found = reply_found c.args.version entry _ _ _ c.in_ok-reply.ensures.found formed once.0 read.replied in
    rw (actor, once.1, some_is _ entry.reply found, once.0) refl
