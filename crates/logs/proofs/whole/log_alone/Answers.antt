use Rattle.logs.proofs.Join.{whole_of_lines}
use Rattle.logs.proofs.whole.log_alone.Goals as goal

pub returns : goal.returns
returns c = record {
  text = whole_of_lines c.args.version c.args.entries.now _ _ _ c.whole.result c.in_ok-text.ensures.bytes
      c.in_ok-push_heading.ensures.appended c.in_ok-push_entries.ensures.appended c.whole.ensures.bytes;
}
