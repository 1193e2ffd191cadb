use Rattle.std.proofs.Common.{ap, rules, arith}
use Rattle.board_prelude.proofs.{Entry}
use Rattle.map_publish.proofs.Changes.{opened_same}
use Rattle.board_live.proofs.Histories.{oldest_added, writes_few, published_added, published_version, is_stepped}
use Rattle.board_live.proofs.Limits.{few_entries, few_added}
use Rattle.board_live.proofs.shared.Shared.step.Goals as goal

pub reserve-requires : goal.reserve-requires
reserve-requires g c =
    grind (arith, few_entries _ _ c.args.self.now.few, ap g.B.Steps.standing c.deref_mut.ensures.value)

pub publish-requires : goal.publish-requires
publish-requires g c =
    let shared = c.args.self.now in let board = g.B.Steps.standing shared.board.value in
    let log = shared.publisher.value.front.seen.log in
    let version = published_version board.setup shared.opened board.entries log shared.published shared.opens.version in
    let few = few_entries _ _ shared.few in
    grind (arith, few, writes_few board.setup board.entries, version, c.deref_mut-2.ensures.value)

pub invariant_of-self-2 : goal.invariant_of-self-2
invariant_of-self-2 g c =
    let shared = c.args.self.now in let board = g.B.Steps.standing shared.board.value in
    let standing = g.B.Steps.standing in
    let stepped = is_stepped (standing c.reserve.new.self).spare (ap standing c.deref_mut.ensures.value) (search rules)
    (ap standing c.deref_mut-3.ensures.value) c.step-reply.ensures.entry in
    let log = shared.publisher.value.front.seen.log in let later = c.publish.new.publisher.front.seen.log in
    let lent = c.deref_mut-2.result.now.front in
    let opened = opened_same lent.seen.log later (omega (arith, lent.begun)) c.publish.ensures.later in
    let few = λ (entry : Entry). few_added shared.callers entry board.entries shared.few in
    let old = λ (entry : Entry). oldest_added shared.opened entry board.entries shared.within in
    let published = λ (entry : Entry). published_added board.setup shared.opened board.entries entry log later
    shared.within shared.published in
    let opens = shared.opens in let within = shared.within in let change = c.map_change-change.ensures in
    let told = c.publish.ensures in let was = c.deref_mut-2.ensures in let is = c.deref-2.ensures in
    grind (arith, stepped, opened, few, old, published, opens, within, change, told, was, is, c.requires)

pub returns-clause-same : goal.returns-clause-same
returns-clause-same g c =
    let shared = c.args.self.now in let old = oldest_added shared.opened in
    let standing = g.B.Steps.standing in
    let stepped = is_stepped (standing c.reserve.new.self).spare (ap standing c.deref_mut.ensures.value) (search rules)
    (ap standing c.deref_mut-3.ensures.value) c.step-reply.ensures.entry in
    grind (arith, stepped, old, shared.within, c.publish.ensures, c.deref_mut-2.ensures)
