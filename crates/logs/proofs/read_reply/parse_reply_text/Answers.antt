use Rattle.std.proofs.Common.{◌∙◌, ap}
use Rattle.script_spec.specs.Fields.{fields_of}
use Rattle.script_spec.specs.Replies.{parse_spaced_reply}
use Rattle.script_spec.proofs.ReplyBack.{reply_read}
use Rattle.logs.proofs.read_reply.parse_reply_text.Goals as goal

pub returns-clause-found : goal.returns-clause-found
returns-clause-found c = λ version reply form shape is.
    c.parse_spaced_reply.ensures.reply
    ∙ ap (parse_spaced_reply c.args.event.now) (c.of-fields.ensures.all ∙ ap fields_of is)
    ∙ reply_read c.args.event.now reply shape
