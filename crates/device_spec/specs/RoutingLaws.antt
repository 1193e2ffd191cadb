-- Which lines the PCI interrupt pins reach.
use Rattle.std.specs.Prelude.{◌≡◌, ℕ, Bool, true, false, List}
use Rattle.device_spec.specs.Routing.{Routes, is_reserved_line, is_line_driven}

-- No route reaches a reserved line.
abbrev pub ReservedLinesRest : Type 0
ReservedLinesRest =
    (routes : Routes) (pins : List Bool) (line : ℕ) → is_reserved_line line ≡ true
    → is_line_driven routes pins line ≡ false
