-- One step along a list, and bytes past a number.
use Rattle.std.proofs.Common.{◌≡◌, ℕ, ◌+◌, ◌-◌, ◌/◌, ◌^◌, ◌<◌, ◌≤◌, Bool, true, false, arith, lit<, if◌then◌else◌, List}
use Rattle.std.proofs.Common.{length, drop, get_or, find, Some, refl, ap, sym, ◌∙◌}
use Rattle.std.proofs.lemmas.List.{drop_more, at_drop_all}
use Rattle.std.proofs.Math.Nat.{div-eq_of_lt, pow-le-pow_right}
use Rattle.board_prelude.proofs.{byte}
use Rattle.machine.specs.declared.field.Field.{Field}
use Rattle.machine.specs.Header.{byte_said, says}

module _ (fields : List Field) (index off old : ℕ) (last : Field) (within : index < length fields) where
  byte_next :
      byte_said (drop index fields) off old
      ≡ (if says (get_or fields index last) off
      then byte (get_or fields index last).value (off - (get_or fields index last).first)
      else byte_said (drop (index + 1) fields) off old)
  byte_next = ap (λ rest. byte_said rest off old) (drop_more fields index last within)

  -- the field here says the byte
  pub byte_here : says (get_or fields index last) off ≡ true → byte_said (drop index fields) off old
      ≡ byte (get_or fields index last).value (off - (get_or fields index last).first)
  byte_here here = byte_next ∙ rw here refl

  -- a later one says it, or none
  pub byte_later : says (get_or fields index last) off ≡ false →
      byte_said (drop (index + 1) fields) off old ≡ byte_said (drop index fields) off old
  byte_later not_here = sym (byte_next ∙ rw not_here refl)

-- past the last field it is as it was
pub byte_past : (fields : List Field) (index off old : ℕ) → length fields ≤ index →
    old ≡ byte_said (drop index fields) off old
byte_past fields index off old past = sym (at_drop_all (λ rest. byte_said rest off old) fields index past)

pub find_next : {X : Type 0} (test : X → Bool) (items : List X) (index : ℕ) (last : X) → index < length items →
    find test (drop index items)
    ≡ (if test (get_or items index last) then Some (get_or items index last) else find test (drop (index + 1) items))
find_next test items index last within = ap (λ rest. find test rest) (drop_more items index last within)

-- a number of four bytes has no other
pub no_byte_past : (value place : ℕ) → value < 4_294_967_296 → 4 ≤ place → 0 ≡ byte value place
no_byte_past value place small past =
    let power : 256 ^ 4 ≤ 256 ^ place = pow-le-pow_right (lit< tt) past in
    let below : value < 256 ^ place = omega (arith, small, power) in
    let none : value / 256 ^ place ≡ 0 = div-eq_of_lt below in
    rw none refl
