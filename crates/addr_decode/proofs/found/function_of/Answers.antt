use Rattle.addr_decode.proofs.found.function_of.Goals as goal

pub returns-in-1-clause-exists : goal.returns-in-1-clause-exists
returns-in-1-clause-exists c = λ setup same. rw c.in-1.is (c.function_1.ensures.exists setup)
