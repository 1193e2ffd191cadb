use Rattle.std.proofs.Common.{◌∙◌, refl}
use Rattle.board_prelude.proofs.{port_target_of}
use Rattle.addr_decode.proofs.PortLemmas.{onboard_target}
use Rattle.addr_decode.proofs.ports.find_port.Goals as goal

pub returns-then-is_config_data-clause-decoded : goal.returns-then-is_config_data-clause-decoded
unfolding port_target_of
returns-then-is_config_data-clause-decoded c = λ setup bytes stands ide.
    c.config_port.ensures.decoded setup bytes (rw c.deref.ensures.0 stands.cards)
    ∙ rw (← c.if-is_config_data.ensures.data) refl

pub returns-in-Answers-clause-decoded : goal.returns-in-Answers-clause-decoded
returns-in-Answers-clause-decoded c = λ setup bytes stands ide.
    onboard_target setup bytes _ _ c.args.port c.args.width _ _ _ _ c.if-is_config_data.ensures.data
    (c.chip_selects.ensures.byte bytes stands.singles) ide c.in-Answers.ensures.response

pub returns-in-Denied-clause-decoded : goal.returns-in-Denied-clause-decoded
returns-in-Denied-clause-decoded c = λ setup bytes stands ide.
    c.claimed_or.ensures.decoded setup bytes
    (rw c.deref-in-Denied.ensures.0 stands.cards)
    ∙ onboard_target setup bytes _ _ c.args.port c.args.width _ _ _ _ c.if-is_config_data.ensures.data
    (c.chip_selects.ensures.byte bytes stands.singles) ide c.in-Denied.ensures.response

pub returns-in-Absent-clause-decoded : goal.returns-in-Absent-clause-decoded
returns-in-Absent-clause-decoded c = λ setup bytes stands ide.
    c.other_port.ensures.decoded setup bytes
    (rw c.deref-in-Absent.ensures.0 stands.cards)
    ∙ onboard_target setup bytes _ _ c.args.port c.args.width _ _ _ _ c.if-is_config_data.ensures.data
    (c.chip_selects.ensures.byte bytes stands.singles) ide c.in-Absent.ensures.response
