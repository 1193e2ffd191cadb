use Rattle.command_texts.proofs.replay.verdict_on_log.Goals as goal

pub returns-clause-text : goal.returns-clause-text
returns-clause-text c =
    let log = c.in_ok-count.ensures.log in
    record { legal = log.0; said = rw log.1 at c.in_ok-text.ensures.text }
