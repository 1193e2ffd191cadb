-- A wide access is cut part by part.
use Rattle.std.proofs.Common.{◌≡◌, ℕ, zero, suc, ◌+◌, ◌-◌, ◌*◌, ◌/◌, ◌^◌, ◌<◌, ◌≤◌, List, [], ◌∷◌, ◌++◌, bit_and, refl}
use Rattle.std.proofs.Common.{sym, ◌∙◌, arith, map, pow-add, ne_eqb, append-nil, append_assoc}
use Rattle.board_prelude.proofs.{and_mask, map-append, nat_tests, Width, WideAccess, bytes_of, largest_of, Setup, Bytes}
use Rattle.board_prelude.proofs.{longest_at, part_at, parts_from, parts_of}
use Rattle.board_base.specs.declared.access.Access.{Access}
use Rattle.board_stores.specs.Targets.{part_in}
use Rattle.board_stores.specs.Cycles.{accesses, answers}
use Rattle.board_stores.specs.declared.cut.Cycle.{Cycle}

-- ---- one part

pub byte_power : (n : ℕ) → 2 ^ (8 * n) ≡ 256 ^ n
byte_power zero = refl
byte_power (suc n) =
    let longer : 8 * suc n ≡ 8 + 8 * n = omega arith in
    let one_more : suc n ≡ 1 + n = omega arith in
    rw (longer, pow-add 2 8 (8 * n), byte_power n, one_more, pow-add 256 1 n) refl

-- a part's bytes of a value, shifted down and masked
pub part_cut :
    (access : WideAccess) (done : ℕ) (width : Width) →
    ◌≡◌ {A = Access}
    (record {
      kind = access.kind;
      addr = access.addr + done;
      width = width;
      smm = access.smm;
      value = bit_and (access.value / 2 ^ (8 * done)) (largest_of width);
    })
    (part_at access (access.addr + done) width)
part_cut access done width =
    let value : ℕ = access.value / 2 ^ (8 * done) in
    grind (arith, nat_tests, and_mask value 8, and_mask value 16, and_mask value 32, byte_power done)

-- ---- the next part

-- no part is longer than the bytes that are left
pub part_within : (addr left : ℕ) → 0 < left → bytes_of (longest_at addr left) ≤ left
part_within addr left some = grind (arith, nat_tests)

-- the parts so far, and those of the bytes that are left
abbrev pub GoesOn : WideAccess → List Access → (count done : ℕ) → Type 0
GoesOn access parts count done =
    parts ++ parts_from access (4 - count) (access.addr + done) (access.bytes - done) ≡ parts_of access

pub next_part :
    (access : WideAccess) (parts : List Access) (count done : ℕ) (part : Access) → count < 4 → done < access.bytes →
    part ≡ part_at access (access.addr + done) (longest_at (access.addr + done) (access.bytes - done)) →
    GoesOn access parts count done → GoesOn access (parts ++ part ∷ []) (count + 1) (done + bytes_of part.width)
unfolding parts_from
next_part access parts count done part below some is on =
    let left = access.bytes - done in
    let more : 4 - count ≡ suc (4 - (count + 1)) = omega arith in
    let further : access.addr + (done + bytes_of part.width) ≡ access.addr + done + bytes_of part.width = omega arith in
    let less : access.bytes - (done + bytes_of part.width) ≡ left - bytes_of part.width = omega arith in
    rw (append_assoc, further, less, is) (rw (more, ne_eqb left 0 (omega arith)) at on)

-- where nothing is left there are no more parts
pub no_part : (access : WideAccess) (parts : List Access) (count done : ℕ) → access.bytes ≤ done →
    GoesOn access parts count done → GoesOn access parts (count + 1) done
unfolding parts_from
no_part access parts count done all on =
    let none : access.bytes - done ≡ 0 = omega arith in
    let nothing : (most : ℕ) → parts_from access most (access.addr + done) 0 ≡ [] = λ most. grind (arith, nat_tests) in
    rw (none, nothing) (rw (none, nothing) at on)

-- after four parts nothing is left
pub all_parts : (access : WideAccess) (parts : List Access) (count done : ℕ) → count ≡ 4 →
    GoesOn access parts count done → parts ≡ parts_of access
unfolding parts_from
all_parts access parts count done four on =
    let last : 4 - count ≡ 0 = omega arith in sym (append-nil parts) ∙ rw last at on

-- ---- their answers

pub all_decoded : (setup : Setup) (bytes : Bytes) (cycles : List Cycle) (cycle : Cycle) →
    answers cycles ≡ map (part_in setup bytes) (accesses cycles) → cycle.answer ≡ part_in setup bytes cycle.access →
    answers (cycles ++ cycle ∷ []) ≡ map (part_in setup bytes) (accesses (cycles ++ cycle ∷ []))
all_decoded setup bytes cycles cycle before last = simp (map-append, before, last)
