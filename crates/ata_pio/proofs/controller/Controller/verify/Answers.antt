use Rattle.std.proofs.Common.{sym, ap, ◌∙◌, ◌≡◌, ◌≢◌, Err, Ok, ◌+◌}
use Rattle.ata_pio.proofs.Verifies.{verified-fails, verified-more, verified-end}
use Rattle.device_spec.specs.Ata.State.{Registers}
use Rattle.device_spec.specs.Ata.Address.{left_of, counted, named, naming}
use Rattle.device_spec.specs.Ata.Commands.{readable, finished, verified}
use Rattle.ata_pio.specs.View.{medium_of, registers_of, drive_of, error_of}
use Rattle.ata_pio.proofs.controller.Controller.verify.Goals as goal

pub returns-in-Err-clause-verified : goal.returns-in-Err-clause-verified
returns-in-Err-clause-verified c =
    let now = c.loop-sector.self in
    let is : readable (medium_of c.args.sectors.now) (named (registers_of now.task)) ≡ Err (error_of c.in-Err.fault) =
    rw (← c.sector.ensures.sector) (sym c.in-Err.ensures.readable) in
    c.fail.ensures.failed ∙ sym (verified-fails (medium_of c.args.sectors.now) _ _ (drive_of now) is)
    ∙ c.loop-sector.invariant

pub returns-then-self-eq0-clause-verified : goal.returns-then-self-eq0-clause-verified
returns-then-self-eq0-clause-verified c =
    let now = c.loop-sector.self in
    let m = medium_of c.args.sectors.now in
    let is : readable m (named (registers_of now.task)) ≡ Ok c.in-Ok.sector =
    rw (← c.sector.ensures.sector) (sym c.in-Ok.ensures.readable) in
    let last : left_of (registers_of now.task) ≡ 0 = sym (ap (λ (r : Registers). r.count) c.count_down.ensures.counted)
    ∙ c.if-self-eq0.true in
    c.finish.ensures.finished
    ∙ ap (λ (r : Registers). finished (record (drive_of now) { registers = r })) c.count_down.ensures.counted
    ∙ sym (ap (λ left. verified m left (drive_of now)) last ∙ verified-end m c.in-Ok.sector (drive_of now) is)
    ∙ c.loop-sector.invariant

pub loop-sector-preserved : goal.loop-sector-preserved
loop-sector-preserved c =
    let now = c.loop-sector.self in
    let m = medium_of c.args.sectors.now in
    let is : readable m (named (registers_of now.task)) ≡ Ok c.in-Ok.sector =
    rw (← c.sector.ensures.sector) (sym c.in-Ok.ensures.readable) in
    let more : left_of (registers_of now.task) ≢ 0 =
    λ e. c.if-self-eq0.false (ap (λ (r : Registers). r.count) c.count_down.ensures.counted ∙ e) in
    let moved : registers_of c.name.new.self ≡ naming (counted (registers_of now.task)) (c.in-Ok.sector + 1) =
    c.name.ensures.named ∙ ap (λ (r : Registers). naming r (c.in-Ok.sector + 1)) c.count_down.ensures.counted in
    ap (λ (r : Registers). verified m (left_of r) (record (drive_of now) { registers = r })) moved
    ∙ sym (verified-more m c.in-Ok.sector (drive_of now) is more)
    ∙ c.loop-sector.invariant
