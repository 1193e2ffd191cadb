use Rattle.std.proofs.Common.{◌≡◌, ◌∙◌, true, false, sym, refl}
use Rattle.board_spec.specs.Registers.{is_hard_value}
use Rattle.board_chipset.proofs.StateSteps.{follows}
use Rattle.board_chipset.proofs.registers.Registers.write_control.Goals as goal

pub returns-then-hard-clause-registers : goal.returns-then-hard-clause-registers
returns-then-hard-clause-registers c = λ setup history entry put has.
    let hard : is_hard_value c.args.self.now.control c.args.byte ≡ true =
    sym c.write-hard.ensures.hard ∙ c.if-hard.true in
    follows put has (rw hard c.reset.ensures.address) (c.reset.ensures.control ∙ c.write-hard.ensures.byte)
    (rw hard (c.reset.ensures.kept setup _ has.kept)) (rw hard c.reset.ensures.version)
    (rw hard (c.reset.ensures.windows setup _ has.kept.map)) c.reset.ensures.flat

pub returns-else-hard-clause-registers : goal.returns-else-hard-clause-registers
returns-else-hard-clause-registers c = λ setup history entry put has.
    let soft : is_hard_value c.args.self.now.control c.args.byte ≡ false =
    sym c.write-hard.ensures.hard ∙ c.if-hard.false in
    follows put has (rw soft refl) c.write-hard.ensures.byte (rw soft has.kept) (rw soft refl) (rw soft refl)
    has.flat

pub returns-else-hard-clause-sound : goal.returns-else-hard-clause-sound
returns-else-hard-clause-sound c = λ setup sound.
    record { bytes = sound.bytes; kept = sound.kept; address = sound.address; flat = sound.flat }
