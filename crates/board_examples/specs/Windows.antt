-- Worked examples of the shadow windows by the kind of access, and of a look in SMM.
use Rattle.std.specs.Prelude.{List, [], ◌∷◌, true}
use Rattle.board_prelude.specs.{One, Fetch, Shadow, IsLegal}
use Rattle.board_base.specs.declared.target.Area.TheVariants.{Smram as SmramArea}
use Rattle.board_spec.specs.declared.event.Event.TheVariants.{Look as LookAt}
use Rattle.board_examples.specs.Words.{Said, from_reset, selects, outputs, reads, fetches, writes, sees, gives, goes_to}
use Rattle.board_examples.specs.Words.{floats, lost, host, denied_by_host}
use Rattle.board_examples.specs.Basics.{small_board}

-- of the first two windows one is open for reads and fetches, the other for writes; of the last two the other way
abbrev pub windows_by_kind : List Said
windows_by_kind =
    selects 0x8000_0058
    ∷ outputs One 0xCFE 0x21 (goes_to (host 0x5A))
    ∷ fetches One 0xC_0000 (gives 0x00 (Shadow 0))
    ∷ reads One 0xC_3FFF (gives 0x00 (Shadow 0))
    ∷ writes One 0xC_0000 0x11 (lost (denied_by_host 0x5A))
    ∷ fetches One 0xC_4000 (floats 0xFF (denied_by_host 0x5A))
    ∷ writes One 0xC_7FFF 0x22 (goes_to (Shadow 0))
    ∷ reads One 0xC_8000 (floats 0xFF (denied_by_host 0x5B))
    ∷ selects 0x8000_005C
    ∷ outputs One 0xCFF 0x12 (goes_to (host 0x5F))
    ∷ reads One 0xE_8000 (floats 0xFF (denied_by_host 0x5F))
    ∷ writes One 0xE_BFFF 0x33 (goes_to (Shadow 0))
    ∷ fetches One 0xE_C000 (gives 0x00 (Shadow 0))
    ∷ writes One 0xE_FFFF 0x44 (lost (denied_by_host 0x5F))
    ∷ []

unfoldable pub WindowsByKind : Type 0
WindowsByKind = IsLegal small_board (from_reset windows_by_kind)

-- with SMRAM closed to data, a look sees it for fetches in SMM
abbrev pub look_in_smm : List Said
look_in_smm =
    selects 0x8000_0070
    ∷ outputs One 0xCFE 0x28 (goes_to (host 0x72))
    ∷ record { asked = LookAt Fetch 0xA_0010 true; replied = sees 1 0xA_0000 0xB_FFFF SmramArea }
    ∷ []

unfoldable pub LookInSmm : Type 0
LookInSmm = IsLegal small_board (from_reset look_in_smm)
