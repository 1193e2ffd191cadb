-- The routing, byte by byte.
use Rattle.std.proofs.Common.{◌≡◌, ℕ, Bool, true, false, get_or, refl, arith}
use Rattle.std.proofs.lemmas.Bool.{or_from}
use Rattle.std.proofs.lemmas.Bool.Decides.{nat_tests}
use Rattle.device_spec.specs.Routing.{drives, line_of_route, is_line_driven, is_reserved_line}
use Rattle.device_spec.specs.RoutingLaws.{ReservedLinesRest}

-- no pin drives a reserved line
drives-reserved : (byte : ℕ) (level : Bool) (line : ℕ) → is_reserved_line line ≡ true →
    drives (line_of_route byte) level line ≡ false
drives-reserved byte level line reserved = grind (arith, nat_tests)

pub reserved-rest : ReservedLinesRest
unfolding is_line_driven
reserved-rest routes pins line reserved =
    let quiet = λ (k : ℕ). drives-reserved (get_or routes k 0) (get_or pins k false) line reserved in
    or_from _ _ (quiet 0) (or_from _ _ (quiet 1) (or_from _ _ (quiet 2) (or_from _ _ (quiet 3) refl)))

pub ruleset reserved = (reserved-rest)
