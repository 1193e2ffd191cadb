use Rattle.std.proofs.Common.{◌≡◌, ◌∙◌, ◌+◌, ◌-◌, ℕ, ap, arith}
use Rattle.board_prelude.proofs.{Setup, Bytes, nat_tests}
use Rattle.addr_decode.specs.Memory.{plain_row}
use Rattle.addr_decode.specs.MapRegs.{StandsFor, map_bytes}
use Rattle.board_stores.proofs.RowLemmas.{all_in_row}
use Rattle.board_stores.proofs.row.row_of_all.Goals as goal

pub returns-then-eq : goal.returns-then-eq
returns-then-eq c =
    let same : c.plain_row-first.result ≡ c.plain_row-last.result =
    grind (arith, nat_tests, c.if-eq.ensures, c.if-eq.true) in
    record {
      answers =
          all_in_row c.args.access.now c.requires.wide c.plain_row-first.result c.plain_row-last.result
          (λ (setup : Setup) (bytes : Bytes). StandsFor setup bytes (map_bytes c.args.regs.now)) same
          c.plain_row-first.ensures.row
          (λ setup bytes stands. c.plain_row-last.ensures.row setup bytes stands
          ∙ ap (λ (n : ℕ). plain_row bytes (c.args.access.now.addr + (n - 1))) c.from.ensures);
    }
