use Rattle.map_publish.specs.Changes.{bytes_after}
use Rattle.map_publish.specs.Lists.{changes_of}
use Rattle.map_publish.proofs.viewer.Viewer.find.Goals as goal

pub returns-clause-look : goal.returns-clause-look
returns-clause-look c =
    let viewer = c.args.self.now in
    record {
      version = rw (c.version.ensures.version, c.find-span.ensures.same) viewer.seen.same;
      span = λ setup bytes stands. c.find-span.ensures.span setup
          (bytes_after setup (changes_of viewer.front.seen.log) bytes) (viewer.seen.flat setup bytes stands);
    }
