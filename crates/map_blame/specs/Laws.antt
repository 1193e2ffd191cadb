-- What the laws say: each is proved on a function of `laws`.
use Rattle.std.specs.Prelude.{ℕ, ◌≡◌, List, map}
use Rattle.board_prelude.specs.{MapChange, Setup, SameMapBytes, registers_after}
use Rattle.map_blame.specs.declared.blamed.Blamed.{Blamed}
use Rattle.map_blame.specs.Keep.{IsKeep, chosen}
use Rattle.map_blame.specs.Report.{IsBlame, map_range_of}

-- the kept changes alone leave each map byte as all changes do
abbrev pub KeptSuffice : Type 0
KeptSuffice =
    (setup : Setup) (changes : List MapChange) (keep : List ℕ) → IsKeep setup changes keep →
    SameMapBytes setup (registers_after setup (chosen keep changes)) (registers_after setup changes)

-- two reports say the same
pub record SayTheSame (blamed blamed' : List Blamed) (kept kept' : List ℕ) : Type 0 where
  pub ranges : map map_range_of blamed ≡ map map_range_of blamed'
  pub since : map (λ one. one.since) blamed ≡ map (λ one. one.since) blamed'
  pub keep : kept ≡ kept'

abbrev pub OneReport : Type 0
OneReport =
    (setup : Setup) (changes : List MapChange) (blamed blamed' : List Blamed) (kept kept' : List ℕ) →
    IsBlame setup changes blamed kept → IsBlame setup changes blamed' kept' → SayTheSame blamed blamed' kept kept'
