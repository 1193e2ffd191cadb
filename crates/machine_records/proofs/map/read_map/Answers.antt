use Rattle.std.proofs.Common.{ap, arith, ◌∙◌}
use Rattle.board_prelude.proofs.{common_steps, nat_tests, length-map}
use Rattle.std.proofs.lemmas.Simd.{map-map}
use Rattle.map_builder.specs.Map.{Mapped}
use Rattle.machine_records.proofs.map.read_map.Goals as goal

pub returns-clause-version : goal.returns-clause-version
returns-clause-version c = record {
  held = c.version.ensures.version ∙ ap (λ (map : Mapped). map.version) c.map-map.ensures.held;
  left = λ history left. c.version.ensures.version ∙ c.map-map.ensures.version history left;
}

pub returns-clause-ranges : goal.returns-clause-ranges
returns-clause-ranges c =
    let sound = c.map-map.ensures.sound.registers in
    record {
      ranges = c.map-map.result.now.ranges;
      some = (sound.bytes, sound.kept);
      held = λ bytes holds. c.ranges-all.ensures.map _ bytes (rw (c.map-map.ensures.held) holds);
      flat = c.map-map.ensures.map;
      count_is = grind (arith, nat_tests, common_steps, map-map, length-map);
      told = grind (arith, nat_tests, common_steps, map-map, length-map);
    }

pub returns-clause-windows : goal.returns-clause-windows
returns-clause-windows c = record {
  windows = c.map-map.result.now.changed;
  held = ap (λ (map : Mapped). map.changed) c.map-map.ensures.held;
  changed = c.map-map.ensures.changed;
  count_is = grind (arith, nat_tests, common_steps, map-map, length-map);
  told = grind (arith, nat_tests, common_steps, map-map, length-map);
}
