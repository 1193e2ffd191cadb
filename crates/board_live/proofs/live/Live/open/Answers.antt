use Rattle.std.proofs.Common.{rules, ◌≡◌, ◌+◌, Option, Some, length, map, reverse, sym, ap, ◌∙◌, arith}
use Rattle.board_prelude.proofs.{range_with_len, reverse-reverse, length-map, map_writes_of}
use Rattle.std.proofs.lemmas.List.FromFn.{length-range_with_len}
use Rattle.std.proofs.lemmas.List.Elements.{All-weaker}
use Rattle.bus_turn.specs.Passes.{opened_of as opened_by, part_of}
use Rattle.map_publish.specs.declared.viewer.Viewer.{Viewer}
use Rattle.map_publish.specs.Lists.{opened_of}
use Rattle.board_live.specs.declared.cpu.Cpu.{Cpu}
use Rattle.board_live.specs.declared.shared.Origin.{Origin}
use Rattle.board_live.specs.Known.{IsMapOpened}
use Rattle.board_live.specs.Origins.{origin_in}
use Rattle.board_live.specs.Steps.{board_of, opened_with}
use Rattle.board_live.specs.Passes.{callers_in, opened_in, setup_in, IsViewerFor}
use Rattle.board_live.specs.Callers.{IsNew, IsNewOf}
use Rattle.board_live.proofs.Standing.{stands_after}
use Rattle.board_live.proofs.Opening.{opened_viewer, any_numbered}
use Rattle.board_live.proofs.live.Live.open.Goals as goal

pub shared-requires-clause-opens : goal.shared-requires-clause-opens
shared-requires-clause-opens g c =
    let board = g.B.Steps.standing c.deref.result.now in
    let map : opened_of c.in-Ok-new.publisher.value.front.seen.log ≡ c.map.result.now = search rules in
    let opens : IsMapOpened board.setup board.entries (opened_of c.in-Ok-new.publisher.value.front.seen.log) =
    rw map (record {
      stands = stands_after board.setup board.entries c.map.result.now.regs c.map.ensures.stands;
      version = c.map.ensures.version;
    }) in
    rw c.deref.ensures at opens

pub callers-cpus-requires-clause-viewers : goal.callers-cpus-requires-clause-viewers
callers-cpus-requires-clause-viewers g c =
    let pass = c.in-Ok-open-2.pass in let shared = c.shared.result in
    let viewer_of = λ (viewer : Viewer).
    opened_viewer pass shared viewer (search rules) (search rules) (search rules) in
    All-weaker (λ (viewer : Viewer). viewer.front ≡ shared.publisher.value.front) (IsViewerFor pass)
    (λ viewer front. viewer_of viewer front (search rules)) c.in-Ok-open.viewers.items (search rules)

pub returns-in-Ok-open-2-clause-opened : goal.returns-in-Ok-open-2-clause-opened
returns-in-Ok-open-2-clause-opened g c =
    let board = g.B.Steps.standing c.args.board in let pass = c.in-Ok-open-2.pass in let shared = c.shared.result in
    let cpus = c.callers-cpus.result.items in
    let part : part_of pass ≡ Some (opened_with shared) = search rules in
    let opened : opened_by pass ≡ reverse board.entries = search rules in
    let history : opened_in pass ≡ board.entries = ap reverse opened ∙ reverse-reverse board.entries in
    let callers : shared.callers ≡ c.args.n = search rules in
    let many : callers_in pass ≡ c.args.n = ap (λ (o : Option Origin). (origin_in o).callers) part ∙ callers in
    let its : (board_of shared).setup ≡ board.setup = search rules in
    let setup : setup_in pass ≡ board.setup = ap (λ (o : Option Origin). (origin_in o).setup) part ∙ its in
    let numbers : map (λ (cpu : Cpu _ g.B.Steps). cpu.number) cpus ≡ range_with_len 0 c.args.n =
    c.callers-cpus.ensures.numbers ∙ ap (range_with_len 0) many in
    let count : length cpus ≡ c.args.n =
    sym (length-map cpus (λ (cpu : Cpu _ g.B.Steps). cpu.number))
    ∙ (ap length numbers ∙ length-range_with_len 0 c.args.n) in
    record {
      all = record {
        opened = opened_with shared;
        own = c.callers-cpus.ensures.own;
        same = All-weaker (IsNewOf pass) (λ (cpu : Cpu _ g.B.Steps). part_of cpu.pass ≡ Some (opened_with shared))
            (λ cpu new. new.part ∙ part) cpus c.callers-cpus.ensures.new;
        count = count ∙ sym callers;
        some = omega (arith, count, c.requires.few.some);
        each = λ number below.
            let same : 0 + number ≡ number = omega arith in
            rw same at (any_numbered 0 cpus (numbers ∙ ap (range_with_len 0) (sym count)) number below);
      };
      numbers = numbers;
      new = All-weaker (IsNewOf pass) (IsNew board)
          (λ cpu new. record {
            setup = ap (λ (o : Option Origin). (origin_in o).setup) new.part ∙ setup;
            seen = new.seen ∙ history;
            known = new.known ∙ λ k. map_writes_of (setup k) (history k);
          }) cpus c.callers-cpus.ensures.new;
    }
