-- The PAM registers in the table of registers.
use Rattle.std.proofs.Common.{◌≡◌, ◌≢◌, ℕ, ◌-◌, ◌<◌, List, [], ◌∷◌, length, get_or, set, false, ◌∙◌, sym, ap}
use Rattle.std.proofs.Common.{rules, arith, inl, inr, get_or-set_other, get_or-set_same, map}
use Rattle.board_prelude.proofs.{cases_eq, Store, Each, each_from, changed_byte-one_same, changed_byte-one_other}
use Rattle.board_base.specs.declared.access.Width.TheVariants.{One}
use Rattle.board_spec.specs.Setup.{Setup}
use Rattle.board_base.specs.Bits.{merged}
use Rattle.board_spec.specs.RegisterTable.{writable_bits}
use Rattle.board_spec.specs.Registers.{changed_byte}
use Rattle.board_spec.specs.Decode.{Bytes}
use Rattle.board_spec.specs.RegisterNames.{bridge, pam, smram, is_same}
use Rattle.host_bridge.specs.Pam.{IsPamOffset, IsPamOf, pam_byte}

-- what holds at each of the seven offsets
each_offset : (P : ℕ → Type 0) → Each P 0x59 7 → (off : ℕ) → IsPamOffset off → P off
each_offset P each off h = each_from P 0x59 7 off each h.0 (omega (arith, h.1))

-- the bytes of PAM0 to PAM6
abbrev pub pam_bytes : Bytes → List ℕ
pam_bytes bytes = map (λ k. bytes (pam k)) (0 ∷ 1 ∷ 2 ∷ 3 ∷ 4 ∷ 5 ∷ 6 ∷ [])

pub pam_are : (bytes : Bytes) (list : List ℕ) → list ≡ pam_bytes bytes → IsPamOf bytes list
pam_are bytes list are off h =
    rw are (each_offset (λ off. pam_byte (pam_bytes bytes) off ≡ bytes (bridge off)) (search rules) off h)

plain_register : (off : ℕ) → IsPamOffset off → is_same (bridge off) smram ≡ false
plain_register = each_offset (λ off. is_same (bridge off) smram ≡ false) (search rules)

-- a store of one byte to a PAM register, as the registers keep it
module _ (setup : Setup) (bytes : Bytes) (masks pam : List ℕ) (off written : ℕ) (seven : length pam ≡ 7)
    (below : written < 256) (are : masks ≡ pam_bytes (writable_bits setup)) (h : IsPamOffset off)
    (is_pam : IsPamOf bytes pam) where
  stored_at : get_or (set pam (off - 0x59) (merged (pam_byte masks off) (pam_byte pam off) written)) (off - 0x59) 0
      ≡ changed_byte setup (Store (bridge off) One written) (bridge off) (bytes (bridge off))
  stored_at =
      let within : off - 0x59 < length pam = omega arith in
      get_or-set_same pam (off - 0x59) (merged (pam_byte masks off) (pam_byte pam off) written) 0 within
      ∙ ap (λ mask. merged mask (pam_byte pam off) written) (pam_are (writable_bits setup) masks are off h)
      ∙ ap (λ old. merged (writable_bits setup (bridge off)) old written) (is_pam off h)
      ∙ sym (changed_byte-one_same setup (bridge off) (bytes (bridge off)) written below (plain_register off h))

  stored_apart : (byte at : ℕ) → IsPamOffset at → at ≢ off → get_or (set pam (off - 0x59) byte) (at - 0x59) 0
      ≡ changed_byte setup (Store (bridge off) One written) (bridge at) (bytes (bridge at))
  stored_apart byte at at_h apart =
      let elsewhere : at - 0x59 ≢ off - 0x59 = λ e. apart (omega arith) in
      get_or-set_other pam (off - 0x59) (at - 0x59) byte 0 elsewhere
      ∙ is_pam at at_h
      ∙ sym (changed_byte-one_other setup (bridge at) off (bytes (bridge at)) written apart)

  pub stored_byte : IsPamOf (λ reg. changed_byte setup (Store (bridge off) One written) reg (bytes reg))
      (set pam (off - 0x59) (merged (pam_byte masks off) (pam_byte pam off) written))
  stored_byte at at_h =
      elim (cases_eq at off) [ inl same ↦ rw same stored_at | inr apart ↦ stored_apart _ at at_h apart ]
