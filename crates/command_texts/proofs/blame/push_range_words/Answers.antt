use Rattle.std.proofs.Common.{rules, arith, string_bytes, string_len}
use Rattle.board_prelude.proofs.{range_text, line_feed}
use Rattle.map_builder.specs.Map.{range_of}
use Rattle.command_texts.proofs.TextLines.{last_gone}
use Rattle.command_texts.proofs.blame.push_range_words.Goals as goal

pub returns : goal.returns
returns c = record {
  appended =
      last_gone (string_bytes c.args.text.now) (string_bytes c.push_range.new.text) (string_bytes c.pop.new.self)
      (range_text (range_of c.args.range.now)) (string_len c.push_range.new.text) line_feed
      c.in_ok-push_range.ensures.appended
      (omega arith) (search rules) c.pop.ensures.ascii_bytes;
}
