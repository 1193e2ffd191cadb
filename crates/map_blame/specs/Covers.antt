-- What is kept of some changes as they are read, by which those are found on which the map rests.
use Rattle.std.specs.Prelude.{ℕ, ◌≡◌, ◌+◌, ◌*◌, ◌==◌, nat_lt, nat_eq, Bool, true, false, ◌&&◌, ◌||◌, List, [], ◌∷◌}
use Rattle.std.specs.Prelude.{take, slice_index_or, Option, Some, None, option_and_then, if◌then◌else◌}
use Rattle.board_prelude.specs.{list_any, option_eq, Reg, bytes_of, MapChange, Store, Reset, Setup, is_map_byte}
use Rattle.board_prelude.specs.{reg_after}
use Rattle.map_blame.specs.declared.covers.Covers.{Covers}
use Rattle.map_blame.specs.Keep.{last_cover, first_lock}

-- the registers of function 0 of devices 0 to 9, 256 of each, have a place
abbrev pub is_placed : Reg → Bool
is_placed reg = nat_lt reg.dev 10 && reg.fun == 0 && nat_lt reg.off 256

abbrev pub place_of : Reg → Option ℕ
place_of reg = if is_placed reg then Some (reg.dev * 256 + reg.off) else None

-- the number at the place of a register
abbrev pub number_at : List (Option ℕ) → Reg → Option ℕ
number_at numbers reg = option_and_then (λ place. slice_index_or numbers place None) (place_of reg)

-- they are the last covers and the first lock of some changes
pub record AreCoversOf (changes : List MapChange) (covers : Covers) : Type 0 where
  pub last : (reg : Reg) → is_placed reg ≡ true → number_at covers.last reg ≡ last_cover changes reg
  pub lock : covers.lock ≡ first_lock changes

abbrev pub is_number : (number : ℕ) → Option ℕ → Bool
is_number number found = option_eq nat_eq found (Some number)

-- by them a change of this number is the last that covers this register, and the map depends on it
abbrev pub is_last_at : Setup → Covers → (number : ℕ) → Reg → Bool
is_last_at setup covers number reg = is_map_byte setup reg && is_number number (number_at covers.last reg)

-- it is the last that covers some map byte
abbrev pub is_last_of : Setup → Covers → (number : ℕ) → MapChange → Bool
is_last_of setup covers number Reset = false
is_last_of setup covers number (Store at width value) =
    list_any (λ k. is_last_at setup covers number (reg_after at k)) (take (bytes_of width) (0 ∷ 1 ∷ 2 ∷ 3 ∷ []))

-- the map rests on it
abbrev pub is_kept_of : Setup → Covers → (number : ℕ) → MapChange → Bool
is_kept_of setup covers number change = is_number number covers.lock || is_last_of setup covers number change
