use Rattle.std.proofs.Common.{rules, ◌≡◌, [], ◌∷◌, ◌++◌, ◌∙◌}
use Rattle.board_prelude.proofs.{All-push}
use Rattle.map_publish.proofs.publisher.viewers.Goals as goal

pub loop-preserved : goal.loop-preserved
loop-preserved c =
    let before = c.loop.viewers.items in
    let viewer = c.in_ok-viewer.viewer in
    let added : c.push.new.self.items ≡ before ++ viewer ∷ [] = search rules in
    record {
      front = c.viewer.ensures.same ∙ c.loop.invariant.front;
      count = search rules;
      each = rw added (All-push (λ viewer. viewer.front ≡ c.args.publisher.now.front) before viewer
          c.loop.invariant.each (c.in_ok-viewer.ensures.viewer ∙ c.loop.invariant.front));
    }
