-- The replies to accesses, as those to events.
use Rattle.board_prelude.specs.{Reply, Bus}
use Rattle.board_spec.specs.declared.event.Reply.TheVariants as replies
use Rattle.board_chipset.specs.declared.bus_reply.BusReply.{BusReply}
use Rattle.board_chipset.specs.declared.bus_reply.WideReply.{WideReply}

abbrev pub reply_of : BusReply → Reply
reply_of said = Bus said.value said.target said.denial

abbrev pub wide_reply_of : WideReply → Reply
wide_reply_of said = replies.Parts said.parts said.value
