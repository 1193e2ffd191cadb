-- Histories with the same map writes have the same map.
use Rattle.board_prelude.proofs.{nat_tests, Kind, MapChange, byte_of, registers_after, area_of, SameMapBytes}
use Rattle.board_prelude.proofs.{map_writes_decide, map_bytes_decide}
use Rattle.std.proofs.Common.{arith, ◌≡◌, ℕ, ◌∙◌, Bool, List, sym, ap}
use Rattle.board_laws.specs.MapLaws.{MapWritesDecideMap}

pub map_writes_decide_map : MapWritesDecideMap
map_writes_decide_map setup history other cards writes =
    let bytes : SameMapBytes setup (byte_of setup history) (byte_of setup other) =
    λ reg is.
    map_writes_decide setup history reg is
    ∙ ap (λ (changes : List MapChange). registers_after setup changes reg) writes
    ∙ sym (map_writes_decide setup other reg is) in
    let areas : (addr : ℕ) (kind : Kind) (smm : Bool) →
    area_of setup (byte_of setup history) addr kind smm ≡ area_of setup (byte_of setup other) addr kind smm =
    λ addr kind smm.
    (map_bytes_decide setup (byte_of setup history) (byte_of setup other) cards bytes addr kind smm).0 in
    record {
      map_bytes = bytes;
      spans = λ addr kind smm lo hi area span. grind (arith, nat_tests);
      flat_map = λ ranges map. grind (arith, nat_tests);
    }
