-- The kept changes alone leave each map byte as all changes do.
use Rattle.std.proofs.Common.{◌≡◌, ℕ, ◌+◌, ◌-◌, ◌<◌, ◌≤◌, inl, inr, Bool, true, false, ◌||◌, List, [], ◌∷◌, length}
use Rattle.std.proofs.Common.{refl, sym, ap, ◌∙◌, arith, Some, bit_and, bit_or, is_some}
use Rattle.board_prelude.proofs.{and_zero_r, cases_Bool, cases_lt, nat_tests, Width, Reg, MapChange, Store, Reset}
use Rattle.board_prelude.proofs.{Setup, is_bit, byte, merged, smram, is_same, writable_bits, covers, smram_after}
use Rattle.board_prelude.proofs.{changed_byte, is_map_byte, registers_after, reset_byte, host_bridge}
use Rattle.std.specs.Int.Bits.{and_self}
use Rattle.std.proofs.lemmas.Nat.{or_comm, and_assoc, and_or_apart}
use Rattle.std.proofs.lemmas.Grind.{and-not_self}
use Rattle.map_blame.specs.Keep.{last_cover, first_lock, locks, is_among, chosen}
use Rattle.map_blame.specs.Laws.{KeptSuffice}
use Rattle.addr_decode.proofs.StoreLemmas.{same_register}

-- ---- what a mask leaves

-- the bits of a byte that a mask leaves
abbrev left : (mask old : ℕ) → ℕ
left mask old = bit_and old (0xFF - mask)

apart_masks : (mask written : ℕ) → bit_and (bit_and written mask) (0xFF - mask) ≡ 0
apart_masks mask written = elim (cases_lt 0xFF mask) [
  | inl above ↦ let none : 0xFF - mask ≡ 0 = omega (arith, above) in rw none (and_zero_r (bit_and written mask))
  | inr within ↦
      let twice : mask ≡ 0xFF - (0xFF - mask) = omega (arith, within) in
      ap (λ (m : ℕ). bit_and (bit_and written m) (0xFF - mask)) twice
      ∙ and-not_self written 0xFF (0xFF - mask) (0xFF - mask) refl (omega arith) refl
]

left_merged : (mask old written : ℕ) → left mask (merged mask old written) ≡ left mask old
left_merged mask old written =
    let swapped = or_comm (bit_and written mask) (left mask old) in
    let apart = and_or_apart (0xFF - mask) (left mask old) (bit_and written mask) (apart_masks mask written) in
    rw (swapped, apart, and_assoc (0xFF - mask) old (0xFF - mask), and_self (0xFF - mask)) refl

-- ---- the lock

write_same : (old other written : ℕ) → is_bit old 4 ≡ is_bit other 4 →
    smram_after old written ≡ smram_after other written
write_same old other written same = grind (arith, nat_tests)

-- ---- the numbers of the changes since the last reset

-- the number of the last reset
abbrev reset_number : List MapChange → ℕ
reset_number [] = 0
reset_number (Reset ∷ before) = length before + 1
reset_number (Store at width value ∷ before) = reset_number before

reset_among : (changes : List MapChange) → reset_number changes ≤ length changes
reset_among [] = omega arith
reset_among (Reset ∷ before) = omega arith
reset_among (Store at width value ∷ before) = omega (arith, reset_among before)

-- the number of a change after the last reset
pub record IsNumber (changes : List MapChange) (number : ℕ) : Type 0 where
  pub after : reset_number changes < number
  pub most : number ≤ length changes

pub cover_number : (changes : List MapChange) (reg : Reg) (number : ℕ) → last_cover changes reg ≡ Some number →
    IsNumber changes number
unfolding last_cover
cover_number [] reg number is = cc
cover_number (Reset ∷ before) reg number is = cc
cover_number (Store at width value ∷ before) reg number is =
    grind (arith, nat_tests, reset_among before, cover_number before reg number)

pub lock_number : (changes : List MapChange) (number : ℕ) → first_lock changes ≡ Some number → IsNumber changes number
unfolding first_lock
lock_number [] number is = cc
lock_number (Reset ∷ before) number is = cc
lock_number (Store at width value ∷ before) number is =
    grind (arith, nat_tests, reset_among before, lock_number before number)

-- ---- numbers that choose changes

module _ (setup : Setup) (keep : List ℕ) where
  -- no change up to the last reset is chosen
  abbrev Since : List MapChange → Type 0
  Since changes = (number : ℕ) → is_among number keep ≡ true → reset_number changes < number

  none_among : (changes : List MapChange) → ((number : ℕ) → is_among number keep ≡ true → length changes < number) →
      chosen keep changes ≡ []
  unfolding chosen
  none_among [] later = refl
  none_among (change ∷ before) later = grind (arith, nat_tests, later (length before + 1), none_among before, later)

  none_of_reset : (before : List MapChange) → Since (Reset ∷ before) → chosen keep (Reset ∷ before) ≡ []
  none_of_reset before since = none_among (Reset ∷ before) (λ number is. omega (arith, since number is))

  abbrev value_after : List MapChange → Reg → ℕ
  value_after changes reg = registers_after setup changes reg

  -- the last change that covers a register is chosen
  abbrev HasLast : Reg → List MapChange → Type 0
  HasLast reg changes = (number : ℕ) → last_cover changes reg ≡ Some number → is_among number keep ≡ true

  last_chosen : (reg at : Reg) (width : Width) (value : ℕ) (before : List MapChange) → covers at width reg ≡ true →
      HasLast reg (Store at width value ∷ before) →
      chosen keep (Store at width value ∷ before) ≡ Store at width value ∷ chosen keep before
  unfolding last_cover chosen
  last_chosen reg at width value before covered has = grind (arith, nat_tests, has (length before + 1))

  -- a change that leaves what is looked at, chosen or not
  left_alone : {X : Type 0} (look : ℕ → X) (reg at : Reg) (width : Width) (value : ℕ) (before : List MapChange) →
      ((old : ℕ) → look (changed_byte setup (Store at width value) reg old) ≡ look old) →
      look (value_after (chosen keep before) reg) ≡ look (value_after before reg) →
      look (value_after (chosen keep (Store at width value ∷ before)) reg)
      ≡ look (value_after (Store at width value ∷ before) reg)
  unfolding registers_after chosen
  left_alone look reg at width value before leaves rest = elim (cases_Bool (is_among (length before + 1) keep)) [
    | inl among ↦ rw among (leaves _ ∙ rest ∙ sym (leaves _))
    | inr none ↦ rw none (rest ∙ sym (leaves _))
  ]

  -- ---- a register that is not SMRAM's

  module _ (reg : Reg) (plain : is_same reg smram ≡ false) where
    abbrev mask : ℕ
    mask = writable_bits setup reg

    covered_is : (at : Reg) (width : Width) (value old : ℕ) → covers at width reg ≡ true →
        changed_byte setup (Store at width value) reg old ≡ merged mask old (byte value (reg.off - at.off))
    covered_is at width value old covered = rw (covered, plain) refl

    left_stays : (at : Reg) (width : Width) (value old : ℕ) →
        left mask (changed_byte setup (Store at width value) reg old) ≡ left mask old
    left_stays at width value old = grind (arith, nat_tests, covered_is, left_merged)

    -- the bits that no write changes are those of the reset
    left_same : (changes : List MapChange) → Since changes →
        left mask (value_after (chosen keep changes) reg) ≡ left mask (value_after changes reg)
    unfolding registers_after chosen
    left_same [] since = refl
    left_same (Reset ∷ before) since = ap (left mask) (rw (none_of_reset before since) refl)
    left_same (Store at width value ∷ before) since =
        left_alone (left mask) reg at width value before (left_stays at width value) (left_same before since)

    -- the others are those of the last write
    plain_same : (changes : List MapChange) → Since changes → HasLast reg changes →
        value_after (chosen keep changes) reg ≡ value_after changes reg
    unfolding registers_after chosen last_cover
    plain_same [] since has = refl
    plain_same (Reset ∷ before) since has = rw (none_of_reset before since) refl
    plain_same (Store at width value ∷ before) since has =
        elim (cases_Bool (covers at width reg)) [
          | inl covered ↦
              ap (λ changes. value_after changes reg) (last_chosen reg at width value before covered has)
              ∙ covered_is at width value (value_after (chosen keep before) reg) covered
              ∙ ap (λ (n : ℕ). bit_or (bit_and (byte value (reg.off - at.off)) mask) n) (left_same before since)
              ∙ sym (covered_is at width value (value_after before reg) covered)
          | inr other ↦
              left_alone (λ old. old) reg at width value before (λ old. rw other refl)
              (plain_same before since (λ number is. has number (rw other is)))
        ]

  -- ---- the SMRAM register

  abbrev is_locked : ℕ → Bool
  is_locked control = is_bit control 4

  is_locked_after : (at : Reg) (width : Width) (value old : ℕ) →
      is_locked (changed_byte setup (Store at width value) smram old) ≡ (is_locked old || locks (Store at width value))
  is_locked_after at width value old = grind (arith, nat_tests)

  -- it is locked where a change since the last reset locks it
  locked_is : (changes : List MapChange) → is_locked (value_after changes smram) ≡ is_some (first_lock changes)
  unfolding registers_after first_lock reset_byte host_bridge
  locked_is [] = refl
  locked_is (Reset ∷ before) = refl
  locked_is (Store at width value ∷ before) =
      grind (arith, nat_tests, is_locked_after at width value (value_after before smram), locked_is before)

  -- the first lock is chosen
  abbrev HasLock : List MapChange → Type 0
  HasLock changes = (number : ℕ) → first_lock changes ≡ Some number → is_among number keep ≡ true

  -- and so a change that is not chosen locks nothing that was open
  lock_same : (changes : List MapChange) → Since changes → HasLock changes →
      is_locked (value_after (chosen keep changes) smram) ≡ is_locked (value_after changes smram)
  unfolding registers_after first_lock chosen
  lock_same [] since has = refl
  lock_same (Reset ∷ before) since has = rw (none_of_reset before since) refl
  lock_same (Store at width value ∷ before) since has =
      let rest = lock_same before since (λ number is. has number (rw is refl)) in
      let after = is_locked_after at width value in
      elim (cases_Bool (is_among (length before + 1) keep)) [
        | inl among ↦
            rw among (after _ ∙ ap (λ old. old || locks (Store at width value)) rest ∙ sym (after _))
        | inr none ↦
            let alone = after (value_after before smram) in
            let lock = has (length before + 1) in
            rw none (rest ∙ grind (arith, nat_tests, alone, locked_is before, lock))
      ]

  smram_same : (changes : List MapChange) → Since changes → HasLast smram changes → HasLock changes →
      value_after (chosen keep changes) smram ≡ value_after changes smram
  unfolding registers_after chosen last_cover first_lock
  smram_same [] since has lock = refl
  smram_same (Reset ∷ before) since has lock = rw (none_of_reset before since) refl
  smram_same (Store at width value ∷ before) since has lock =
      let has_lock : HasLock before = λ number is. lock number (rw is refl) in
      elim (cases_Bool (covers at width smram)) [
        | inl covered ↦
            ap (λ changes. value_after changes smram) (last_chosen smram at width value before covered has)
            ∙ rw covered (write_same _ _ (byte value (smram.off - at.off)) (lock_same before since has_lock))
        | inr other ↦
            left_alone (λ old. old) smram at width value before (λ old. rw other refl)
            (smram_same before since (λ number is. has number (rw other is)) has_lock)
      ]

-- ---- both

pub kept_suffice : KeptSuffice
kept_suffice setup changes keep is reg map_byte =
    let since : Since setup keep changes = λ number among. elim (is.only number among) [
      | inl cover ↦ (cover_number _ _ _ cover.last).after
      | inr lock ↦ (lock_number _ _ lock).after
    ] in
    let last : (reg : Reg) → is_map_byte setup reg ≡ true → HasLast setup keep reg changes =
    λ reg map_byte number found. is.each number (inl (record { reg = reg; map_byte = map_byte; last = found })) in
    elim (cases_Bool (is_same reg smram)) [
      | inl same ↦
          let e : reg ≡ smram =
          same_register reg smram (grind (arith, nat_tests)) (grind (arith, nat_tests)) (grind (arith, nat_tests)) in
          rw e
          (smram_same setup keep _ since (last smram (rw e at map_byte)) (λ number found. is.each number (inr found)))
      | inr plain ↦ plain_same setup keep _ plain _ since (last reg map_byte)
    ]
