-- What was read is a chipset, and the one that was saved.
use Rattle.std.proofs.Common.{◌≡◌, ℕ, inl, inr, false, List, [], ◌++◌, length, Result, Ok, Err, IfOk, refl, sym, ap}
use Rattle.std.proofs.Common.{◌∙◌, append_assoc, arith, ◌+◌, ◌≤◌}
use Rattle.board_prelude.proofs.{nat_tests, Setup, IsSetup, append-nil}
use Rattle.byte_fields.specs.declared.fault.Fault.{Fault}
use Rattle.byte_fields.specs.Fields.{AreBytes, Filled}
use Rattle.byte_fields.proofs.Formats.{ok_is, not_err}
use Rattle.byte_fields.proofs.Numbers.{wide16, within_format}
use Rattle.map_builder.specs.State.{IsMapped, SameMap}
use Rattle.board_chipset.specs.Chipset.{Running, IsRunning}
use Rattle.board_chipset.specs.ChipsetState.{IsChipset, bare_chipset, head_bytes, other_version_field, is_other_version}
use Rattle.board_chipset.specs.ChipsetState.{registers_bytes, state_bytes, chipset_bytes, chipset_fields, LoadsChipset}
use Rattle.board_chipset.specs.ChipsetState.{IsBadStateAt}
use Rattle.board_chipset.proofs.KeptBytes.{has_bytes}
use Rattle.board_chipset.proofs.ChipsetFormats.{chipset_format}
use Rattle.board_chipset.specs.Alone.{alone}
use Rattle.board_chipset.proofs.Marks.{alone_bad}
use Rattle.byte_fields.specs.declared.fault.Fault.TheVariants as faults

-- ---- a chipset that can be saved is one that steps can go on from

pub running : (chipset : Running) → IsChipset chipset → IsRunning chipset
running chipset is =
    let kept = (has_bytes chipset.setup chipset.state.registers is.whole.registers).1 in
    grind (arith, nat_tests)

-- ---- with ranges and without

pub bare_spelled : (chipset : Running) → chipset_bytes (bare_chipset chipset) ≡ chipset_bytes chipset
unfolding chipset_bytes state_bytes registers_bytes
bare_spelled chipset = refl

same_chipset : SameMap → (one other : Running) → IsChipset one → IsChipset other →
    bare_chipset one ≡ bare_chipset other → one ≡ other
same_chipset law one other is of told =
    let maps : one.state.registers.map ≡ other.state.registers.map =
    law one.state.registers.map other.state.registers.map is.whole.registers.map.whole of.whole.registers.map.whole
    (ap (λ (c : Running). c.state.registers.map) told) in
    grind (arith, nat_tests)

-- ---- a call that reads a chipset

-- a chipset whose bytes come first is what is read
read_back : (setup : Setup) (chipset : Running) (before rest : List ℕ) → chipset.setup ≡ setup → IsChipset chipset →
    before ≡ chipset_bytes chipset ++ rest → chipset_fields setup before ≡ Ok (bare_chipset chipset, rest)
read_back setup chipset before rest same is begins =
    rw (begins, ← bare_spelled chipset)
    ((chipset_format setup (rw same at is.fits)).back (bare_chipset chipset) rest (rw (← same) assumption))

-- the chipset that is read
pub read_is : (setup : Setup) (chipset : Running) (before after : List ℕ) → IsSetup setup → AreBytes before →
    chipset_fields setup before ≡ Ok (bare_chipset chipset, after) → IsMapped setup.cards chipset.state.registers.map →
    (chipset.setup ≡ setup) × IsChipset chipset × (before ≡ chipset_bytes chipset ++ after)
read_is setup chipset before after fits are read mapped =
    let told = (chipset_format setup fits).taken before (bare_chipset chipset) after are read in
    let same : chipset.setup ≡ setup = told.1.same in
    let whole : IsChipset (record chipset { setup = setup }) = assumption (told.1.state) in
    (same, rw (← same) at whole, rw (bare_spelled chipset) at told.0)

pub loads_chipset : SameMap → (setup : Setup) (before after : List ℕ) (result : Result Running Fault) → IsSetup setup →
    AreBytes before → Filled bare_chipset result after (chipset_fields setup before) →
    IfOk result (λ (chipset : Running). IsMapped setup.cards chipset.state.registers.map) →
    LoadsChipset setup before after result
loads_chipset law setup before after (Ok chipset) fits are filled mapped =
    let mine = read_is _ chipset _ _ fits are filled mapped in
    record {
      loaded = mine;
      exact = λ other rest same is begins.
          let told = ok_is _ _ (sym filled ∙ read_back _ _ _ _ same is begins) in
          inr (
            ap (λ (c : Running). Ok c) (same_chipset law _ _ mine.1 is (ap (λ (read : Running × List ℕ). read.0) told)),
            ap (λ (read : Running × List ℕ). read.1) told,
          );
      bad = filled;
    }
loads_chipset law setup before after (Err faults.Bad) fits are filled mapped = record {
  loaded = tt;
  exact = λ other rest same is begins.
      absurd (not_err _ _ (sym (read_back _ _ _ _ same is begins) ∙ filled));
  bad = filled;
}
loads_chipset law setup before after (Err faults.NoMemory) fits are filled mapped =
    record { loaded = tt; exact = λ other rest same is begins. inl refl; bad = tt }

-- ---- one state, one spelling

pub one_state : SameMap → (saved loaded : Running) → IsChipset saved → IsChipset loaded → saved.setup ≡ loaded.setup →
    chipset_bytes saved ≡ chipset_bytes loaded → saved ≡ loaded
one_state law saved loaded is of same bytes =
    let whole = chipset_bytes saved ++ [] in
    let told = ok_is _ _ (sym (read_back _ _ _ [] refl is refl)
    ∙ read_back _ _ _ [] (sym same) of (ap (λ (bytes : List ℕ). bytes ++ []) bytes)) in
    same_chipset law _ _ is of (ap (λ (read : Running × List ℕ). read.0) told)

-- ---- the version

-- a chipset is not saved in another version
pub of_version : (chipset : Running) (rest : List ℕ) → is_other_version (chipset_bytes chipset ++ rest) ≡ false
unfolding chipset_bytes head_bytes is_other_version other_version_field
of_version chipset rest = grind (arith, nat_tests, append_assoc, within_format, wide16)

-- ---- what is read with nothing behind it

-- where a chipset was read, the bytes of one alone are its, and nothing is behind them
pub alone_is : {setup : Setup} {before mid : List ℕ} {chipset : Running} → LoadsChipset setup before mid (Ok chipset) →
    (other : Running) → other.setup ≡ setup → IsChipset other → before ≡ chipset_bytes other →
    (chipset ≡ other) × (mid ≡ [])
alone_is loads other same is begins =
    grind (arith, nat_tests, loads.exact other [] same is (begins ∙ sym (append-nil (chipset_bytes other))))

-- a bad field begins within the bytes
pub bad_within : {setup : Setup} {bytes all : List ℕ} (after : List ℕ) → IsSetup setup → AreBytes bytes → all ≡ bytes →
    alone (chipset_fields setup) all ≡ Err (length after) →
    (length after ≤ length bytes) × ((at : ℕ) → at + length after ≡ length bytes → IsBadStateAt setup bytes at)
bad_within {setup} {bytes} after fits are same is =
    let read = rw same at is in
    (alone_bad (chipset_format setup fits) bytes (length after) are read, λ at place. grind (arith, nat_tests))

-- the bytes of a chipset are of this version
pub own_version : (chipset : Running) (bytes : List ℕ) → bytes ≡ chipset_bytes chipset → is_other_version bytes ≡ false
own_version chipset bytes is =
    ap is_other_version (is ∙ sym (append-nil (chipset_bytes chipset))) ∙ of_version chipset []

-- `read_alone` is proved by these
pub ruleset read_alone_rules = (alone_is, nat_tests)
