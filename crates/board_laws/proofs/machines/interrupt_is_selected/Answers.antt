use Rattle.board_laws.proofs.PicLaws.{interrupt_selected, selected_interrupts}
use Rattle.board_laws.proofs.machines.interrupt_is_selected.Goals as goal

pub returns : goal.returns
returns c = record { only = interrupt_selected; wherever = selected_interrupts }
