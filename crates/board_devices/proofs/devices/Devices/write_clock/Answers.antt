use Rattle.std.proofs.Common.{rules, ◌≡◌, ◌∙◌, ℕ, refl, ap}
use Rattle.board_base.specs.declared.target.Dev.TheVariants.{Clock}
use Rattle.board_devices.specs.Steps.{after_write}
use Rattle.board_devices.specs.Outside.{byte_out}
use Rattle.board_devices.proofs.DeviceLemmas.{port_asked, write_as, lined_as}
use Rattle.board_devices.proofs.devices.Devices.write_clock.Goals as goal

pub returns-clause-devices : goal.returns-clause-devices
returns-clause-devices c = λ setup history entry is writes.
    let old = c.args.self.now in
    let value : c.from.result ≡ c.args.byte = search rules in
    let after : c.write_port.new.self ≡ after_write Clock (byte_out c.args.port c.args.byte) old =
    c.write_port.ensures.after ∙ ap (λ (v : ℕ). after_write Clock (byte_out c.args.port v) old) value in
    lined_as (port_asked writes.reaches) is tt tt (after ∙ write_as writes.reaches refl old) c.settle.ensures.others
    c.settle.ensures.pair writes.routes_are
