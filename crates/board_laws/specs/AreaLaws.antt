-- Who answers at an address of memory, line by line of the memory map.
use Rattle.std.specs.Prelude.{ℕ, ◌≡◌, ◌<◌, ◌≤◌, Bool, true, false, ◌&&◌, List, ◌∷◌, ◌++◌, All, flat_map}
use Rattle.board_prelude.specs.{Kind, Setup, lies_in, smram_range, upper_memory, Bytes, boundary, top_of, is_shadowed}
use Rattle.board_prelude.specs.{Window, is_covered, is_enabled_for, memory_windows, area_of, is_in_hole}
use Rattle.board_prelude.specs.{is_bios_selected, is_smram_open}
use Rattle.board_base.specs.declared.target.Area.TheVariants.{Dram, Shadow, Smram, Rom, Card, Abort}

-- the row of DRAM in which an address lies: below the top, the first that ends above the address
pub record IsRow (bytes : Bytes) (addr row : ℕ) : Type 0 where
  pub below_top : addr < top_of bytes
  pub last : row ≤ 7
  pub ends : addr < boundary bytes row
  pub first : (before : ℕ) → before < row → boundary bytes before ≤ addr

-- SMRAM answers in its range below the top where its register lets the access in
pub record IsInSmram (bytes : Bytes) (addr : ℕ) (kind : Kind) (smm : Bool) : Type 0 where
  pub range : lies_in smram_range addr ≡ true
  pub below_top : addr < top_of bytes
  pub opened : is_smram_open bytes kind smm ≡ true

-- DRAM answers at a shadow window below the top that is open
pub record IsInShadow (bytes : Bytes) (addr : ℕ) (kind : Kind) : Type 0 where
  pub below_top : addr < top_of bytes
  pub opened : is_shadowed bytes addr kind ≡ true

-- DRAM answers elsewhere below the top, but for the upper memory and the hole
pub record IsInDram (bytes : Bytes) (addr : ℕ) : Type 0 where
  pub below_top : addr < top_of bytes
  pub range : lies_in upper_memory addr ≡ false
  pub outside_hole : is_in_hole bytes addr ≡ false

-- nothing of the DRAM answers
pub record IsPastDram (bytes : Bytes) (addr : ℕ) (kind : Kind) (smm : Bool) : Type 0 where
  pub no_smram : ¬ IsInSmram bytes addr kind smm
  pub no_shadow : ¬ IsInShadow bytes addr kind
  pub no_dram : ¬ IsInDram bytes addr

-- a window of an enabled card covers the address
abbrev pub claims : Bytes → ℕ → Window → Bool
claims bytes addr window = is_enabled_for 1 bytes window.dev && is_covered addr window

abbrev pub memory_windows_of : Setup → Bytes → List Window
memory_windows_of setup bytes = flat_map (memory_windows bytes) setup.cards

abbrev pub NoneClaims : Bytes → ℕ → List Window → Type 0
NoneClaims bytes addr windows = All (λ window. claims bytes addr window ≡ false) windows

-- nor does the ROM
pub record IsPastRom (bytes : Bytes) (addr : ℕ) (kind : Kind) (smm : Bool) : Type 0 where
  pub past : IsPastDram bytes addr kind smm
  pub no_rom : is_bios_selected bytes addr ≡ false

-- the area of an address: DRAM's by SMRAM, shadow window and row, else the ROM's, else the first card's that claims it
pub record Answers (setup : Setup) (bytes : Bytes) (addr : ℕ) (kind : Kind) (smm : Bool) : Type 0 where
  pub in_smram : IsInSmram bytes addr kind smm → area_of setup bytes addr kind smm ≡ Smram
  pub in_shadow :
      (row : ℕ) → IsRow bytes addr row → IsInShadow bytes addr kind → area_of setup bytes addr kind smm ≡ Shadow row
  pub in_dram :
      (row : ℕ) → IsRow bytes addr row → IsInDram bytes addr → area_of setup bytes addr kind smm ≡ Dram row
  pub in_rom :
      IsPastDram bytes addr kind smm → is_bios_selected bytes addr ≡ true →
      area_of setup bytes addr kind smm ≡ Rom
  pub in_card :
      (earlier later : List Window) (window : Window) → IsPastRom bytes addr kind smm →
      memory_windows_of setup bytes ≡ earlier ++ window ∷ later → NoneClaims bytes addr earlier →
      claims bytes addr window ≡ true → area_of setup bytes addr kind smm ≡ Card window.dev window.base
  pub nowhere :
      IsPastRom bytes addr kind smm → NoneClaims bytes addr (memory_windows_of setup bytes) →
      area_of setup bytes addr kind smm ≡ Abort

-- each address below the top has its row
pub record HasRow (bytes : Bytes) (addr : ℕ) : Type 0 where
  pub row : ℕ
  pub is : IsRow bytes addr row

abbrev pub RowBelowTop : Type 0
RowBelowTop = (bytes : Bytes) (addr : ℕ) → addr < top_of bytes → HasRow bytes addr

abbrev pub WhoAnswers : Type 0
WhoAnswers = (setup : Setup) (bytes : Bytes) (addr : ℕ) (kind : Kind) (smm : Bool) → Answers setup bytes addr kind smm
