use Rattle.std.proofs.Common.{◌≡◌, ◌+◌, ◌++◌, ◌∷◌, [], map, drop, arith, refl}
use Rattle.std.proofs.lemmas.List.{length-map, length-append}
use Rattle.map_builder.specs.Ranges.{range_of}
use Rattle.map_builder.specs.Find.{range_at}
use Rattle.map_builder.specs.Build.{IsWhole, IsBuiltUpTo}
use Rattle.map_builder.proofs.BuildLemmas.{is_whole}
use Rattle.map_builder.proofs.RebuildLemmas.{whole_from, rest_of}
use Rattle.map_builder.proofs.build.finish.Goals.{After-range_at-last}
use Rattle.map_builder.proofs.build.finish.Goals as goal

pub push-requires : goal.push-requires
push-requires c =
    omega (arith, c.requires.kept.built.few c.requires.kept.board, length-map c.args.ranges.now.items range_of)

pub returns-then-after-eq-LAST_ADDRESS : goal.returns-then-after-eq-LAST_ADDRESS
returns-then-after-eq-LAST_ADDRESS c =
    let end : c.args.after ≡ 0xFFFF_FFFF = omega arith in
    record {
      whole = λ regs board built agrees.
          rw c.push.ensures.items (is_whole board c.args.ranges.now.items c.args.last (rw end at built));
    }

pub range_at-last-requires-clause-room : goal.range_at-last-requires-clause-room
range_at-last-requires-clause-room c =
    omega (arith, c.requires.kept.built.few c.requires.kept.board, length-map c.args.ranges.now.items range_of)

whole : (c : After-range_at-last) (kept : IsBuiltUpTo (map range_of c.args.ranges.now.items) (range_of c.args.last)
    (map range_of c.args.before.now) c.args.after 0xFFFF_FFFF) →
    IsWhole kept.regs ((c.range_at-last.new.ranges.items ++ record c.range_at-last.result {
      hi = (range_at c.args.before.now c.index_from-index.result).hi;
    } ∷ []) ++ drop (c.index_from-index.result + 1) c.args.before.now)
whole c kept =
    whole_from c.args.after 0xFFFF_FFFF _ _ (omega arith) (omega arith) kept.agrees c.index_from-index.ensures.holds
    c.range_at-last.ensures.goes_on kept.built kept.board refl

pub push-requires-2 : goal.push-requires-2
push-requires-2 c =
    let all = whole (goal.at.push-requires-2 c).After-range_at-last c.requires.kept in
    omega (arith, simp length-append at all.few)

pub extend-requires : goal.extend-requires
extend-requires c =
    let all = whole (goal.at.extend-requires c).After-range_at-last c.requires.kept in
    simp (c.push-2.ensures.items, rest_of c.args.before.now (c.index_from-index.result + 1), length-append)
    (omega (arith, simp length-append at all.few))

pub returns : goal.returns
returns c = record {
  whole = λ regs board built agrees.
      rw (c.extend.ensures.items, c.push-2.ensures.items, rest_of c.args.before.now (c.index_from-index.result + 1))
      (whole (goal.at.returns c).After-range_at-last
      (record { regs = regs; board = board; built = built; agrees = agrees }));
}
