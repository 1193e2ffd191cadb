-- The changes on which the memory map rests. Changes of the registers are a list with the newest first; the number of a
-- change counts from 1, which the oldest has.
use Rattle.std.specs.Prelude.{ℕ, ◌≡◌, ◌+◌, ◌-◌, ◌<◌, ◌⊎◌, ◌==◌, Bool, true, false, ◌&&◌, if◌then◌else◌, List, [], ◌∷◌}
use Rattle.std.specs.Prelude.{length, Option, Some, None}
use Rattle.board_prelude.specs.{list_any, AllPairs, option_or, Reg, MapChange, Store, Reset, Setup, is_bit, byte, smram}
use Rattle.board_prelude.specs.{covers, is_map_byte}

-- the number of the last change since the last reset that covers a register, whether or not it changes it
unfoldable pub last_cover : List MapChange → Reg → Option ℕ
last_cover [] reg = None
last_cover (Reset ∷ before) reg = None
last_cover (Store at width value ∷ before) reg =
    if covers at width reg then Some (length before + 1) else last_cover before reg

-- a change writes the SMRAM register with DLCK, bit 4, at 1
abbrev pub locks : MapChange → Bool
locks Reset = false
locks (Store at width value) = covers at width smram && is_bit (byte value (smram.off - at.off)) 4

-- the number of the first change since the last reset that does
unfoldable pub first_lock : List MapChange → Option ℕ
first_lock [] = None
first_lock (Reset ∷ before) = None
first_lock (Store at width value ∷ before) =
    option_or (first_lock before) (if locks (Store at width value) then Some (length before + 1) else None)

-- the change of this number is the last since the last reset that covers some map byte
pub record IsLastCover (setup : Setup) (changes : List MapChange) (number : ℕ) : Type 0 where
  pub reg : Reg
  pub map_byte : is_map_byte setup reg ≡ true
  pub last : last_cover changes reg ≡ Some number

-- the map rests on the change of this number: it is the last that covers some map byte, or the first that locks SMRAM
abbrev pub RestsOn : Setup → List MapChange → (number : ℕ) → Type 0
RestsOn setup changes number = IsLastCover setup changes number ⊎ (first_lock changes ≡ Some number)

abbrev pub is_among : (number : ℕ) → List ℕ → Bool
is_among number numbers = list_any (λ other. other == number) numbers

-- the numbers of these changes in rising order, each once
pub record IsKeep (setup : Setup) (changes : List MapChange) (keep : List ℕ) : Type 0 where
  pub rises : AllPairs (λ one later. one < later) keep
  pub only : (number : ℕ) → is_among number keep ≡ true → RestsOn setup changes number
  pub each : (number : ℕ) → RestsOn setup changes number → is_among number keep ≡ true

-- the changes of these numbers alone, in their order
unfoldable pub chosen : List ℕ → List MapChange → List MapChange
chosen numbers [] = []
chosen numbers (change ∷ before) =
    if is_among (length before + 1) numbers then change ∷ chosen numbers before else chosen numbers before
