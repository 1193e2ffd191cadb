-- The lock law: once DLCK of the SMRAM register is set, no access and no look outside SMM reaches
-- SMRAM until a hard reset.
use Rattle.std.specs.Prelude.{◌≡◌, ◌-◌, ◌⊎◌, true, false, List, [], ◌∷◌, ◌++◌, Option, Some, None}
use Rattle.board_base.specs.declared.target.Area.TheVariants.{Smram as SmramArea}
use Rattle.board_base.specs.declared.target.Target.TheVariants.{Smram}
use Rattle.board_spec.specs.declared.event.Event.{Event}
use Rattle.board_spec.specs.declared.event.Event.TheVariants.{Memory, Wide, Look as LookAt}
use Rattle.board_spec.specs.declared.event.Reply.{Reply}
use Rattle.board_spec.specs.declared.event.Part.{Part}
use Rattle.board_spec.specs.declared.event.Reply.TheVariants.{Bus, Parts, Saw}
use Rattle.board_spec.specs.declared.event.Entry.{Entry}
use Rattle.board_spec.specs.declared.map_change.MapChange.{MapChange}
use Rattle.board_spec.specs.declared.map_change.MapChange.TheVariants.{Store, Reset}
use Rattle.board_spec.specs.Setup.{Setup}
use Rattle.board_spec.specs.Bits.{bit, byte}
use Rattle.board_spec.specs.Registers.{is_hard_reset, register_change, covers}
use Rattle.board_spec.specs.RegisterNames.{smram}
use Rattle.board_spec.specs.WideParts.{parts_list}

-- a change that writes a byte with DLCK set to the SMRAM register
abbrev pub SetsLock : Option MapChange → Type 0
SetsLock None = ⊥
SetsLock (Some Reset) = ⊥
SetsLock (Some (Store at width value)) =
    (covers at width smram ≡ true) × (bit (byte value (smram.off - at.off)) 4 ≡ 1)

-- none of the newer entries resets hard
abbrev pub NoHardReset : (newer older : List Entry) → Type 0
NoHardReset [] older = Unit {0}
NoHardReset (entry ∷ newer) older = (is_hard_reset (newer ++ older) entry.event ≡ false) × NoHardReset newer older

-- a memory access or a look outside SMM
abbrev pub IsOutsideSmm : Event → Type 0
IsOutsideSmm (Memory access) = access.smm ≡ false
IsOutsideSmm (Wide access) = access.smm ≡ false
IsOutsideSmm (LookAt kind addr smm) = smm ≡ false
IsOutsideSmm _ = ⊥

-- the reply names SMRAM: as its target, as that of a part, or as its area
abbrev pub HasSmram : List Part → Type 0
HasSmram [] = ⊥
HasSmram (part ∷ later) = (part.target ≡ Smram) ⊎ HasSmram later

abbrev pub NamesSmram : Reply → Type 0
NamesSmram (Bus value target denial) = target ≡ Smram
NamesSmram (Parts parts value) = HasSmram (parts_list parts)
NamesSmram (Saw look) = look.area ≡ SmramArea

pub record LockLaw (setup : Setup) (history : List Entry) : Type 0 where
  pub locked :
      (after between before : List Entry) (later lock : Entry) →
      history ≡ after ++ later ∷ (between ++ lock ∷ before) →
      SetsLock (register_change setup before lock.event) →
      NoHardReset between (lock ∷ before) →
      IsOutsideSmm later.event →
      ¬ NamesSmram later.reply
