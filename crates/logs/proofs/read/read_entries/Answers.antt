use Rattle.std.proofs.lemmas.Bool.Decides.{nat_tests}
use Rattle.std.proofs.Common.{[], ◌∷◌, length, subst, arith, MatchOption, length-append, ap, ◌∙◌, reverse}
use Rattle.board_prelude.proofs.{reverse-append, All-cons, line_feed, line_text, lines_text}
use Rattle.script_spec.specs.WellFormed.{IsWellFormed}
use Rattle.logs.specs.Reading.{HasEntry, HasNoEntry}
use Rattle.logs.proofs.ReadLines.{lines_more}
use Rattle.logs.proofs.read.read_entries.Goals as goal

pub loop-rest-init : goal.loop-rest-init
unfolding lines_text
loop-rest-init c = grind (arith, nat_tests, lines_text)

pub loop-rest-preserved : goal.loop-rest-preserved
loop-rest-preserved c =
    let version = c.args.version in
    let n = c.loop-rest.n in
    let rest = c.loop-rest.rest.now in
    let entries = c.loop-rest.entries.items in
    let entry = c.in-Some.entry in
    let after = c.in-Some.after.now in
    let has = subst (λ read. MatchOption read (HasNoEntry version n rest) (λ p. HasEntry version n rest p.0 p.1.now))
    c.in-Some.is c.in_ok-entry.ensures.exact in
    rw c.in_ok-push.ensures.items (record {
      cut = lines_more version n c.args.lines.now rest after entries entry c.loop-rest.invariant.place
          c.loop-rest.invariant.cut has;
      each = rw (reverse-append entries (entry ∷ []))
          (All-cons (IsWellFormed version) entry (reverse entries) has.formed c.loop-rest.invariant.each);
      place = omega (arith, c.loop-rest.invariant.place, length-append entries (entry ∷ []));
      room =
          let line = ap length has.line ∙ length-append (line_text n entry) (line_feed ∷ after) in
          omega (arith, line, c.loop-rest.invariant.room, length-append entries (entry ∷ []));
    })
