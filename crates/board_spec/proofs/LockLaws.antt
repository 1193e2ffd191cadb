-- The lock law holds of every legal history.
use Rattle.std.proofs.Common.{◌≡◌, ◌≢◌, ℕ, inl, inr, Bool, false, List, [], ◌∷◌, ◌++◌, Option, ◌∙◌, arith, zero, suc}
use Rattle.std.proofs.Common.{◌==◌, map}
use Rattle.std.proofs.lemmas.Bool.Decides.{nat_tests}
use Rattle.std.proofs.lemmas.Bool.{cases_Bool}
use Rattle.board_base.specs.declared.access.Kind.{Kind}
use Rattle.board_base.specs.declared.access.WideAccess.{WideAccess}
use Rattle.board_base.specs.declared.target.Denial.{Denial}
use Rattle.board_base.specs.declared.target.Area.{Area}
use Rattle.board_base.specs.declared.target.Target.{Target}
use Rattle.board_base.specs.declared.target.Target.TheVariants.{Smram}
use Rattle.board_spec.specs.Setup.{Setup}
use Rattle.board_base.specs.Bits.{bit}
use Rattle.board_spec.specs.RegisterTable.{reset_byte, host_bridge}
use Rattle.board_spec.specs.Registers.{byte_with, byte_of}
use Rattle.board_spec.specs.Decode.{Bytes, Window, area_under, area_of}
use Rattle.board_spec.specs.RegisterNames.{smram}
use Rattle.board_spec.specs.Answer.{target_at, memory_answer, part_answer, IsAnswer}
use Rattle.board_spec.specs.Legal.{IsNext, IsLegal}
use Rattle.board_spec.specs.LockLaw.{SetsLock, NoHardReset, IsOutsideSmm, HasSmram, NamesSmram}
use Rattle.board_spec.specs.WideParts.{parts_from}
use Rattle.board_spec.specs.Laws.{LegalKeepsLock}
use Rattle.board_base.specs.declared.target.Area.TheVariants.{Smram as SmramArea}
use Rattle.board_spec.specs.declared.event.Event.{Event}
use Rattle.board_spec.specs.declared.event.Event.TheVariants.{Memory, Wide, Look as LookAt}
use Rattle.board_spec.specs.declared.event.Reply.{Reply}
use Rattle.board_spec.specs.declared.event.Reply.TheVariants.{Bus, Parts, Saw}
use Rattle.board_spec.specs.declared.event.Entry.{Entry}
use Rattle.board_spec.specs.declared.map_change.MapChange.{MapChange}

-- ---- the lock and what it keeps shut, in one byte

record Kept (b : ℕ) : Type 0 where
  pub shut : bit b 4 ≡ 1 → bit b 6 ≡ 0

kept_of : (setup : Setup) (history : List Entry) → Kept (byte_of setup history smram)
unfolding byte_of reset_byte host_bridge
kept_of setup [] = grind (arith, nat_tests)
kept_of setup (entry ∷ before) = grind (arith, nat_tests, kept_of setup before)

-- ---- the lock stays until a hard reset

IsLocked : Setup → List Entry → Type 0
IsLocked setup history = bit (byte_of setup history smram) 4 ≡ 1

set_locks : (setup : Setup) (change : Option MapChange) (old : ℕ) → SetsLock change →
    bit (byte_with setup change smram old) 4 ≡ 1
set_locks setup change old sets = grind (arith, nat_tests)

locked_since : (setup : Setup) (between older : List Entry) → NoHardReset between older → IsLocked setup older →
    IsLocked setup (between ++ older)
unfolding byte_of IsLocked
locked_since setup [] older soft locked = grind (arith, nat_tests)
locked_since setup (entry ∷ between) older soft locked = grind (
  arith,
  nat_tests,
  locked_since setup between older
      soft.1 locked,
)

-- ---- with DOPEN at 0 nothing outside SMM reaches SMRAM

abbrev IsNotSmram : Area → Type 0
IsNotSmram area = area ≢ SmramArea

no_smram_under : (row : Option ℕ) (shadowed hole rom : Bool) (claim : Option Window) (addr : ℕ) →
    IsNotSmram (area_under row false shadowed hole rom claim addr)
no_smram_under row shadowed hole rom claim addr = grind (arith, nat_tests)

no_smram : (setup : Setup) (bytes : Bytes) (addr : ℕ) (kind : Kind) → bit (bytes smram) 6 ≡ 0 →
    area_of setup bytes addr kind false ≢ SmramArea
unfolding area_of
no_smram setup bytes addr kind shut = grind (arith, nat_tests, no_smram_under)

-- ---- replies

target_names : (setup : Setup) (area : Area) (addr : ℕ) → target_at setup area addr ≡ Smram → area ≡ SmramArea
target_names setup area addr e = grind arith

reply_names : (value : Option ℕ) (target : Target) (denial : Option Denial) (reply : Reply) →
    reply ≡ Bus value target denial → NamesSmram reply → target ≡ Smram
reply_names value target denial reply e names = grind arith

-- no part of a wide access outside SMM reaches SMRAM
no_smram_parts : (setup : Setup) (before : List Entry) (access : WideAccess) →
    bit (byte_of setup before smram) 6 ≡ 0 → access.smm ≡ false → (most addr left : ℕ) →
    ¬ HasSmram (map (part_answer setup before) (parts_from access most addr left))
unfolding parts_from part_answer
no_smram_parts setup before access shut outside zero addr left has = absurd has
no_smram_parts setup before access shut outside (suc most) addr left has =
    elim (cases_Bool (left == 0)) [
      | inl none ↦ absurd (rw none at has)
      | inr some ↦
          let either = rw some at has in
          elim either [
            | inl here ↦
                let area =
                target_names setup (area_of setup (byte_of setup before) addr access.kind access.smm) addr here in
                no_smram setup (byte_of setup before) addr access.kind shut (rw outside at area)
            | inr later ↦ no_smram_parts setup before access shut outside most _ _ later
          ]
    ]

-- the answer to an access or a look outside SMM, with DOPEN at 0, does not name SMRAM
no_smram_answer : (setup : Setup) (before : List Entry) (event : Event) (reply : Reply) →
    bit (byte_of setup before smram) 6 ≡ 0 → IsAnswer setup before event reply → IsOutsideSmm event → ¬ NamesSmram reply
unfolding memory_answer
no_smram_answer setup before (Memory access) reply shut answer outside names =
    let named = reply_names _ _ _ reply answer names in
    let area = target_names setup _ access.addr named in
    no_smram setup (byte_of setup before) access.addr access.kind shut (rw outside at area)
no_smram_answer setup before (Wide access) (Parts parts value) shut answer outside names =
    no_smram_parts setup before access shut outside 4 access.addr access.bytes (rw answer.each at names)
no_smram_answer setup before (LookAt kind addr smm) (Saw look) shut answer outside names =
    let area = answer.span.same addr answer.span.above answer.span.below ∙ names in
    no_smram setup (byte_of setup before) addr kind shut (rw outside at area)
no_smram_answer setup before (Wide access) _ shut answer outside names = absurd answer
no_smram_answer setup before (LookAt kind addr smm) _ shut answer outside names = absurd answer
no_smram_answer setup before _ reply shut answer outside names = absurd outside

-- an entry of a legal history is the next of those before it
next_in : (setup : Setup) (after before : List Entry) (entry : Entry) → IsLegal setup (after ++ entry ∷ before) →
    IsNext setup before entry
next_in setup [] before entry legal = legal.0
next_in setup (newer ∷ after) before entry legal = next_in setup after before entry legal.1

pub legal_keeps_lock : LegalKeepsLock
unfolding IsLocked byte_of
legal_keeps_lock setup history legal = record {
  locked = λ after between before later lock is sets soft outside.
      let older : List Entry = between ++ lock ∷ before in
      let next : IsNext setup older later = next_in setup after older later (rw is at legal) in
      let locked = locked_since setup between (lock ∷ before) soft (grind (arith, set_locks)) in
      no_smram_answer setup older later.event later.reply ((kept_of setup older).shut locked) next.answer outside;
}
