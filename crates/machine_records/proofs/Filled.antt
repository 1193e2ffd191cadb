-- Lists that are filled from the front.
use Rattle.board_prelude.proofs.{common_steps, nat_tests}
use Rattle.std.proofs.Common.{◌≡◌, ℕ, ◌+◌, ◌<◌, ◌≤◌, List, length, map, set, get_or, sym, ◌∙◌, arith, take, drop}
use Rattle.std.proofs.lemmas.Grind.{drop_more_same}
use Rattle.machine_records.specs.Maps.{filled}
use Rattle.std.proofs.lemmas.List.{take-append-drop, take_all, take_more_same, length-set, length-map, take-set}
use Rattle.std.proofs.lemmas.List.{drop-set-lt, get_or-set_same, get_or-map}

-- one more is told in front
pub filled_more : {X Y : Type 0} (say : X → Y) (told : List X) (now : List Y) (index : ℕ) (last : X) (next : Y) →
    index < length told → index < length now → next ≡ say (get_or told index last) →
    take index now ≡ take index (map say told) → take (index + 1) (set now index next) ≡ take (index + 1) (map say told)
filled_more say told now index last next within room is front =
    take_more_same (set now index next) (map say told) index next (omega (arith, room, length-set now index next))
    (omega (arith, within, length-map told say)) (take-set now index next ∙ front)
    (get_or-set_same now index next next room ∙ is ∙ sym (get_or-map say told index last next within))

-- and the rest is as before
pub rest_more : {A : Type 0} (now before : List A) (index : ℕ) (next : A) → drop index now ≡ drop index before →
    drop (index + 1) (set now index next) ≡ drop (index + 1) before
rest_more now before index next rest =
    drop-set-lt (index + 1) now index next (omega arith) ∙ drop_more_same now before index rest

-- all is told, and there is room for it
pub filled_all : {A : Type 0} (told now before : List A) (index : ℕ) → length told ≤ length before →
    index ≡ length told →
    take index now ≡ take index told → drop index now ≡ drop index before → now ≡ filled told before
filled_all told now before index room is front rest = grind (arith, nat_tests, common_steps, take_all, take-append-drop)
