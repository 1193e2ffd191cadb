-- The map registers depend on the map writes alone.
use Rattle.std.proofs.Common.{◌≡◌, ℕ, ◌+◌, ◌-◌, ◌<◌, ◌≤◌, inl, inr, Bool, true, false, List, [], ◌∷◌, ◌++◌, Option}
use Rattle.std.proofs.Common.{Some, None, refl, arith, take, if◌then◌else◌, option_and_then}
use Rattle.std.specs.List.{list_any}
use Rattle.std.specs.Option.{option_to_list}
use Rattle.board_base.specs.declared.access.Width.{Width}
use Rattle.board_base.specs.declared.target.Reg.{Reg}
use Rattle.board_base.specs.Access.{bytes_of}
use Rattle.board_spec.specs.Setup.{Setup}
use Rattle.board_spec.specs.Registers.{covers, changed_byte, byte_with, byte_of, register_change}
use Rattle.board_spec.specs.MapWrites.{is_map_byte, reg_after, touches_map, map_change_of, map_writes_of}
use Rattle.board_spec.specs.MapWrites.{registers_after}
use Rattle.board_spec.specs.Laws.{MapWritesDecide}
use Rattle.std.proofs.lemmas.Bool.{cases_Bool}
use Rattle.std.proofs.lemmas.Bool.Decides.{nat_tests}
use Rattle.board_spec.specs.declared.map_change.MapChange.{MapChange}
use Rattle.board_spec.specs.declared.map_change.MapChange.TheVariants.{Store, Reset}

record Covered (at reg : Reg) (width : Width) : Type 0 where
  pub dev : at.dev ≡ reg.dev
  pub fun : at.fun ≡ reg.fun
  pub above : at.off ≤ reg.off
  pub below : reg.off < at.off + bytes_of width

same_reg : (at reg : Reg) (width : Width) → Covered at reg width → reg_after at (reg.off - at.off) ≡ reg
same_reg at reg width h = grind arith

any_covered : (p : ℕ → Bool) (width : Width) (k : ℕ) → k < bytes_of width → p k ≡ true →
    list_any p (take (bytes_of width) (0 ∷ 1 ∷ 2 ∷ 3 ∷ [])) ≡ true
any_covered p width k below h = grind (arith, nat_tests)

-- a change that covers no map byte leaves each map byte
pub untouched : (setup : Setup) (change : MapChange) (reg : Reg) (old : ℕ) → is_map_byte setup reg ≡ true →
    touches_map setup change ≡ false → changed_byte setup change reg old ≡ old
untouched setup Reset reg old is not = cc
untouched setup (Store at width value) reg old is not =
    elim (cases_Bool (covers at width reg)) [
      | inr outside ↦ rw outside refl
      | inl inside ↦
          let covered : Covered at reg width = grind (arith, nat_tests) in
          let any = any_covered (λ k. is_map_byte setup (reg_after at k)) width (reg.off - at.off) in
          grind (arith, covered, same_reg at reg width covered, any)
    ]

changed_step :
    (setup : Setup) (change : Option MapChange) (writes : List MapChange) (reg : Reg) (old : ℕ) →
    is_map_byte setup reg ≡ true → old ≡ registers_after setup writes reg →
    byte_with setup change reg old
    ≡ registers_after setup
    (option_to_list (option_and_then (λ it. if touches_map setup it then Some it else None) change) ++ writes) reg
unfolding registers_after
changed_step setup change writes reg old is same = grind (arith, nat_tests, untouched)

pub map_writes_decide : MapWritesDecide
unfolding byte_of map_change_of map_writes_of registers_after
map_writes_decide setup [] reg is = refl
map_writes_decide setup (entry ∷ before) reg is =
    changed_step _ (register_change setup before entry.event) _ _ _ is
    (map_writes_decide setup before reg is)
