-- What is read of memory fits the width of the access: each byte that is stored is below 256.
use Rattle.std.proofs.Common.{◌≡◌, ℕ, ◌+◌, ◌^◌, ◌<◌, List, [], ◌∷◌, Option, Some, None, arith, slice_index}
use Rattle.board_prelude.proofs.{cases_Bool, Width, Target, bytes_of, Event, Reply, Part, Entry, Setup, wide, Cell}
use Rattle.board_prelude.proofs.{byte_put, parts_put, entry_put, stored_of, dram_byte, value_at, nat_tests}
use Rattle.board_base.specs.declared.access.Access.{Access}
use Rattle.board_stores.specs.Targets.{IsHeld}

-- ---- what is put

abbrev IsByte : Option ℕ → Type 0
IsByte None = Unit {0}
IsByte (Some put) = put < 256

put_is_byte : (target : Target) (addr : ℕ) (width : Width) (value : ℕ) (cell : Cell) →
    IsByte (byte_put target addr width value cell)
put_is_byte target addr width value cell = grind (arith, nat_tests)

parts_are_bytes : (parts : List Access) (replies : List Part) (cell : Cell) → IsByte (parts_put parts replies cell)
unfolding parts_put
parts_are_bytes [] replies cell = tt
parts_are_bytes (part ∷ parts) [] cell = tt
parts_are_bytes (part ∷ parts) (reply ∷ replies) cell =
    grind (arith, nat_tests, put_is_byte, parts_are_bytes parts replies cell)

entry_is_byte : (event : Event) (reply : Reply) (cell : Cell) → IsByte (entry_put event reply cell)
entry_is_byte event reply cell = grind (arith, nat_tests, put_is_byte, parts_are_bytes)

-- ---- what is stored

stored_below : (history : List Entry) (cell : Cell) → stored_of history cell < 256
unfolding stored_of
stored_below [] cell = omega arith
stored_below (entry ∷ before) cell =
    grind (arith, nat_tests, entry_is_byte entry.event entry.reply cell, stored_below before cell)

-- ---- what is read

pub wide_below : (byte_of : ℕ → ℕ) (from : ℕ) (width : Width) → ((at : ℕ) → byte_of at < 256) →
    wide byte_of from width < 256 ^ bytes_of width
wide_below byte_of from width below =
    grind (arith, nat_tests, below from, below (from + 1), below (from + 2), below (from + 3))

pub value_below : (setup : Setup) (history : List Entry) (rom : List ℕ) (contents : List (List ℕ)) (target : Target)
    (place : ℕ) (width : Width) → setup.rom ≡ rom → ((at : ℕ) → slice_index rom at < 256) →
    IsHeld rom contents target width → value_at setup history target place width < 256 ^ bytes_of width
value_below setup history rom contents target place width image bytes is =
    let below = stored_below history in
    grind (arith, nat_tests, cases_Bool, wide_below (slice_index setup.rom), wide_below (dram_byte setup history))
