use Rattle.std.proofs.Common.{sym, ◌∙◌, ap, arith, decimal}
use Rattle.std.specs.Result.{result_ok}
use Rattle.std.proofs.lemmas.Fmt.{parse-decimal, IsAscii-decimal}
use Rattle.log_check.proofs.TextCuts.{the_value}
use Rattle.board_prelude.proofs.{nat_tests, IsUtf8-from_ascii}
use Rattle.log_check.proofs.field.number.Goals as goal

pub returns-in_err-ok : goal.returns-in_err-ok
returns-in_err-ok c = record {
  number = λ number small is.
      let utf8 = IsUtf8-from_ascii (decimal number) (IsAscii-decimal number (omega (arith, small))) in
      grind (arith, nat_tests);
}

pub returns : goal.returns
returns c = record {
  number = λ number small is.
      let read =
      the_value _ _ c.from_utf8.result c.in_ok-ok.field-0 c.from_utf8.ensures.cases (sym c.in_ok-ok.ensures.value) in
      let parsed =
      parse-decimal 8 number c.in_ok-ok.field-0.now c.parse.result small (omega (arith, small)) (read.0 ∙ is)
      c.parse.ensures.value.0 in
      c.ok-2.ensures.value ∙ ap result_ok parsed;
}
