use Rattle.std.proofs.Common.{rules, ◌≡◌, ◌++◌, ◌*◌, None, length, ◌∙◌, refl, map, flat_map, arith}
use Rattle.board_spec.specs.Ranges.{boundary_unit}
use Rattle.addr_decode.specs.Edges.{edges_of, fixed_edges}
use Rattle.addr_decode.specs.EdgeSearch.{ends_of_card, nearest}
use Rattle.addr_decode.specs.MapRegs.{StandsFor, map_bytes}
use Rattle.addr_decode.proofs.EdgeSearchLemmas.{IsLeast, edges_seen, in_two, least_above, is_next, is_last}
use Rattle.addr_decode.proofs.FixedEdgeLemmas.{first_is_nearest}
use Rattle.addr_decode.proofs.EdgeLaws.{same_to_next}
use Rattle.addr_decode.proofs.EdgeCounts.{fewer_after}
use Rattle.addr_decode.proofs.edges.next_edge.Goals as goal

seen : (c : goal.After-see_rows) → c.see_rows.new.self.edge
    ≡ nearest c.args.addr None (fixed_edges ++ (flat_map ends_of_card c.args.regs.now.cards.items
    ++ map (λ b. b * boundary_unit) c.args.regs.now.drb))
unfolding fixed_edges
seen c =
    in_two c.args.addr c.args.addr None c.fixed_above.result _ fixed_edges _ refl
    (c.fixed_above.ensures.first ∙ first_is_nearest c.args.addr 0 fixed_edges (search arith))
    (in_two _ _ _ _ _ _ _ c.see_cards.ensures.same (rw c.deref.ensures.0 at c.see_cards.ensures.nearest)
    c.see_rows.ensures.nearest)

found : (c : goal.After-see_rows) (setup : _) (bytes : _) → StandsFor setup bytes (map_bytes c.args.regs.now) →
    IsLeast c.args.addr (edges_of setup bytes) None c.see_rows.new.self.edge
found c setup bytes stands =
    let eight : length c.args.regs.now.drb ≡ 8 = search rules in
    edges_seen setup bytes c.args.regs.now.drb c.args.regs.now.cards.items c.args.addr _ eight stands.rows
    c.requires.cards.each stands.cards (seen c)

-- src/edges.rt:46:1
pub returns-clause-above : goal.returns-clause-above
returns-clause-above c = least_above _ _ _ (seen c)

pub returns-clause-next : goal.returns-clause-next
returns-clause-next c = λ setup bytes stands. is_next setup bytes c.args.addr _ (found c setup bytes stands)

pub returns-clause-last : goal.returns-clause-last
returns-clause-last c = λ setup bytes stands. is_last setup bytes c.args.addr _ (found c setup bytes stands)

pub returns-clause-equal : goal.returns-clause-equal
returns-clause-equal c = λ setup bytes stands.
    same_to_next setup bytes c.args.addr _ (returns-clause-next c setup bytes stands)
    (returns-clause-last c setup bytes stands).0

pub returns-clause-fewer : goal.returns-clause-fewer
returns-clause-fewer c = λ setup bytes stands.
    fewer_after setup bytes c.args.addr _ (returns-clause-next c setup bytes stands)
