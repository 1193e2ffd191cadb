use Rattle.board_commands.proofs.texts.text_alone.Goals as goal

pub returns-in-Check-clause-stops : goal.returns-in-Check-clause-stops
returns-in-Check-clause-stops c = rw c.in-Check.is (c.verdict.ensures.stops c.in-Check.script.now c.in-Check.log.now)

pub returns-in-Resume-clause-text : goal.returns-in-Resume-clause-text
returns-in-Resume-clause-text c = rw c.in-Resume.is (c.resume.ensures.text c.in-Resume.image.now c.in-Resume.script.now)

pub returns-in-Resume-clause-done : goal.returns-in-Resume-clause-done
returns-in-Resume-clause-done c = rw c.in-Resume.is (c.resume.ensures.done c.in-Resume.image.now c.in-Resume.script.now)

pub returns-in-Resume-clause-stops : goal.returns-in-Resume-clause-stops
returns-in-Resume-clause-stops c =
    rw c.in-Resume.is (c.resume.ensures.stops c.in-Resume.image.now c.in-Resume.script.now)
