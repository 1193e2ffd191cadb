use Rattle.std.proofs.Common.{◌≡◌, ◌∙◌, ℕ, Some, subst, ap, sym}
use Rattle.board_prelude.proofs.{false≢true, kept_address, config_register, is_enabled}
use Rattle.addr_decode.specs.Selection.{existing}
use Rattle.addr_decode.specs.Found.{decoded_as}
use Rattle.addr_decode.proofs.PortLemmas.{selected_target}
use Rattle.addr_decode.proofs.ports.config_port.Goals as goal

pub returns-in-Some-clause-decoded : goal.returns-in-Some-clause-decoded
returns-in-Some-clause-decoded c = λ setup bytes are.
    selected_target setup (kept_address c.args.confadd) c.args.port c.in-Some.selected
    (decoded_as c.selected_port.result)
    (λ off.
    false≢true
    (sym (c.in-Some.ensures.none.1 (ap (λ (address : ℕ). is_enabled address) c.kept.ensures.kept ∙ off))))
    (subst (λ (address : ℕ). config_register setup address c.args.port ≡ existing setup (Some c.in-Some.selected))
    c.kept.ensures.kept (c.in-Some.ensures.register setup))
    (c.selected_port.ensures.decoded setup bytes are)
