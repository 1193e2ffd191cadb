use Rattle.board_main.proofs.answers.write_answer.Goals as goal

pub returns-in-Help : goal.returns-in-Help
returns-in-Help g c = record { put = rw c.in-Help.is c.put_three.ensures.put }
