use Rattle.make_script.proofs.CountLemmas.{count-more}
use Rattle.make_script.proofs.counts.Counts.with.Goals as goal

pub returns : goal.returns
returns c = record {
  counts = λ history are.
      let now = c.args.entry.now in
      let found = c.of_reply-marks.result in
      let marks = c.of_reply-marks.ensures.marks in
      record {
        dram = count-more _ now history found.dram _ _ marks.dram are.dram c.from.ensures;
        shadow = count-more _ now history found.shadow _ _ marks.shadow are.shadow c.from-2.ensures;
        smram = count-more _ now history found.smram _ _ marks.smram are.smram c.from-3.ensures;
        rom = count-more _ now history found.rom _ _ marks.rom are.rom c.from-4.ensures;
        card = count-more _ now history found.card _ _ marks.card are.card c.from-5.ensures;
        config = count-more _ now history found.config _ _ marks.config are.config c.from-6.ensures;
        device = count-more _ now history found.device _ _ marks.device are.device c.from-7.ensures;
        abort = count-more _ now history found.abort _ _ marks.abort are.abort c.from-8.ensures;
        denied = count-more _ now history found.denied _ _ marks.denied are.denied c.from-9.ensures;
        looks = count-more _ now history c.is_look.result _ _ c.is_look.ensures.look are.looks c.from-10.ensures;
      };
}
