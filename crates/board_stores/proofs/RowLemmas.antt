-- The cycles of a wide access that all lie in one row of ordinary DRAM do what they do at once.
use Rattle.std.proofs.Common.{◌≡◌, ◌≢◌, ◌≤◌, ◌<◌, ◌+◌, ◌-◌, ◌*◌, ◌/◌, ◌%◌, ◌^◌, ◌==◌, ◌⊎◌, ℕ, zero, suc, Bool, true, false}
use Rattle.std.proofs.Common.{List, [], ◌∷◌, Option, Some, None, refl, sym, ◌∙◌, ap, subst, arith, nat_lt, nat_le, ◌&&◌}
use Rattle.std.proofs.Common.{if◌then◌else◌, map, length, slice_index, unwrap_or, IfSome, inl, inr, replicate, take}
use Rattle.board_prelude.proofs.{nat_tests, find, boundary, row_of, Bytes, Setup, Part, Dram, Entry, Target, Area}
use Rattle.board_prelude.proofs.{WideAccess, Width, One, bytes_of, some_bytes, IsWideAccess, made, total, is_cut}
use Rattle.board_prelude.proofs.{parts_of, parts_from, part_at, cases_eq, joined, wide, value_at, memory_target}
use Rattle.board_prelude.proofs.{part_answer, dram_byte, installed, parts_put, memory_put, byte_put, DramCell, CardCell}
use Rattle.board_prelude.proofs.{is_write, byte, further, top_of, lt-ltb, ltb-true, lies_in, option_or, is_in_hole}
use Rattle.board_prelude.proofs.{is_smram_open, is_shadowed, upper_memory, fdhc, cond-true, is_within, longest_at}
use Rattle.board_prelude.proofs.{Denial, target_at, length-take-le, get_or-take, w64, to_le_bytes}
use Rattle.board_spec.proofs.PartLawProofs.{length-made}
use native.Mathlib.Numerals.{unary_clauses}
use Rattle.board_spec.specs.Decode.{is_in, hole_of}
use Rattle.board_base.specs.declared.access.Width.TheVariants.{Two, Four}
use Rattle.board_base.specs.declared.access.Access.{Access}
use Rattle.board_base.specs.declared.target.Area.TheVariants.{Dram as DramArea}
use Rattle.addr_decode.specs.Memory.{plain_row, dram_area, beside_dram}
use Rattle.addr_decode.proofs.MemoryLemmas.{area_in_order, denial_in_order, unless_dram}
use Rattle.dram_store.specs.Dram.{dram_at, IsDramOf, IsWritten}
use Rattle.board_stores.specs.Targets.{part_in}
use Rattle.board_stores.specs.Rows.{in_row, row_part, low_first}

-- ---- one row has what lies between two of its bytes

find_holds : (test : ℕ → Bool) (rows : List ℕ) (row : ℕ) → find test rows ≡ Some row → test row ≡ true
find_holds test [] row is = absurd (grind arith)
find_holds test (first ∷ later) row is = grind (arith, nat_tests, find_holds test later row)

find_between :
    (limit : ℕ → ℕ) (rows : List ℕ) (low at high row : ℕ) → low ≤ at → at ≤ high →
    find (λ r. nat_lt low (limit r)) rows ≡ Some row → find (λ r. nat_lt high (limit r)) rows ≡ Some row →
    find (λ r. nat_lt at (limit r)) rows ≡ Some row
find_between limit [] low at high row above below first last = first
find_between limit (r ∷ later) low at high row above below first last =
    let holds = find_holds (λ r. nat_lt high (limit r)) later row in
    let rest = find_between limit later low at high row above below in
    grind (arith, nat_tests)

-- what a test that holds lets through, and one that does not
let_through : (test : Bool) (found : Option ℕ) (row : ℕ) → (if test then found else None) ≡ Some row →
    (test ≡ true) × (found ≡ Some row)
let_through true found row is = (refl, is)
let_through false found row is = absurd (grind arith)

kept_out : (test : Bool) (found : Option ℕ) (row : ℕ) → (if test then None else found) ≡ Some row →
    (test ≡ false) × (found ≡ Some row)
kept_out true found row is = absurd (grind arith)
kept_out false found row is = (refl, is)

kept_in : (out beside : Bool) (found : Option ℕ) (row : ℕ) → out ≡ false → beside ≡ false → found ≡ Some row →
    (if out then None else if beside then None else found) ≡ Some row
kept_in out beside found row outside apart is = rw (outside, apart) is

row_between :
    (bytes : Bytes) (low at high row : ℕ) → low ≤ at → at ≤ high → row_of bytes low ≡ Some row →
    row_of bytes high ≡ Some row → row_of bytes at ≡ Some row
unfolding row_of
row_between bytes low at high row above below first last =
    let to = let_through _ _ row last in
    let ends = ltb-true high (top_of bytes) to.0 in
    let under : at < top_of bytes = omega (arith, ends) in
    let from = let_through _ _ row first in
    cond-true (nat_lt at (top_of bytes)) _ _ (lt-ltb at (top_of bytes) under)
    ∙ find_between (boundary bytes) (0 ∷ 1 ∷ 2 ∷ 3 ∷ 4 ∷ 5 ∷ 6 ∷ 7 ∷ []) low at high row above below from.1 to.1

-- a range of eight bytes and more does not lie between two bytes of an access
outside_between :
    (first last low at high : ℕ) → low ≤ at → at ≤ high → high < low + 8 → first + 8 ≤ last →
    is_within first last low ≡ false → is_within first last high ≡ false → is_within first last at ≡ false
outside_between first last low at high above below near long out beyond = grind (arith, nat_tests)

hole_between :
    (control low at high : ℕ) → low ≤ at → at ≤ high → high < low + 8 →
    is_in (hole_of control) low ≡ false → is_in (hole_of control) high ≡ false → is_in (hole_of control) at ≡ false
hole_between control low at high above below near out beyond =
    let low_hole = outside_between 0x8_0000 0x9_FFFF low at high above below near (omega arith) in
    let high_hole = outside_between 0xF0_0000 0xFF_FFFF low at high above below near (omega arith) in
    grind (arith, nat_tests)

plain_between :
    (bytes : Bytes) (low at high row : ℕ) → low ≤ at → at ≤ high → high < low + 8 → plain_row bytes low ≡ Some row →
    plain_row bytes high ≡ Some row → plain_row bytes at ≡ Some row
plain_between bytes low at high row above below near first last =
    let from = kept_out _ _ row first in
    let to = kept_out _ _ row last in
    let from_hole = kept_out _ _ row from.1 in
    let to_hole = kept_out _ _ row to.1 in
    kept_in _ _ _ row (outside_between 0xA_0000 0xF_FFFF low at high above below near (omega arith) from.0 to.0)
    (hole_between (bytes fdhc) low at high above below near from_hole.0 to_hole.0)
    (row_between bytes low at high row above below from_hole.1 to_hole.1)

-- ---- the answers

-- a row of ordinary DRAM as the code asks it
plain_area : (row at : ℕ) (opened shadowed : Bool) → lies_in upper_memory at ≡ false →
    dram_area (Some row) opened shadowed false at ≡ Some (DramArea row)
plain_area row at opened shadowed outside = grind (arith, nat_tests)

plain_dram : (found : Option ℕ) (opened shadowed hole : Bool) (row at : ℕ) → found ≡ Some row → hole ≡ false →
    lies_in upper_memory at ≡ false → dram_area found opened shadowed hole at ≡ Some (DramArea row)
plain_dram found opened shadowed hole row at is beside outside =
    rw (is, beside) (plain_area row at opened shadowed outside)

row_answers : (setup : Setup) (area : Area) (denial : Option Denial) (addr row : ℕ) → area ≡ DramArea row →
    denial ≡ None → ◌≡◌ {A = Part} (record { target = target_at setup area addr; denial = denial }) (row_part row)
row_answers setup area denial addr row is undenied = rw (is, undenied) refl

nothing_denies : (dram : Option Area) (denial : Option Denial) (row : ℕ) → dram ≡ Some (DramArea row) →
    unless_dram dram denial ≡ None
nothing_denies dram denial row is = rw is refl

plain_part : (setup : Setup) (bytes : Bytes) (row : ℕ) (part : Access) → plain_row bytes part.addr ≡ Some row →
    part_in setup bytes part ≡ row_part row
plain_part setup bytes row part is =
    let outside = kept_out _ _ row is in
    let beside = kept_out _ _ row outside.1 in
    let dram =
    plain_dram (row_of bytes part.addr) (is_smram_open bytes part.kind part.smm) (is_shadowed bytes part.addr part.kind)
    (is_in_hole bytes part.addr) row part.addr beside.1 beside.0 outside.0 in
    row_answers setup _ _ part.addr row
    (area_in_order setup bytes part.addr part.kind part.smm
    ∙ ap (λ (a : Option Area). unwrap_or a (beside_dram setup bytes part.addr)) dram)
    (denial_in_order setup bytes part.addr part.kind part.smm ∙ nothing_denies _ _ row dram)

both_same : (a b : Part) (xs ys : List Part) → a ≡ b → xs ≡ ys → a ∷ xs ≡ b ∷ ys
both_same a b xs ys heads tails = rw (heads, tails) refl

made_in_row :
    (setup : Setup) (bytes : Bytes) (row : ℕ) (access : WideAccess) (from : ℕ) (widths : List Width) →
    ((at : ℕ) → from ≤ at → at < from + total widths → plain_row bytes at ≡ Some row) →
    map (part_in setup bytes) (made access from widths) ≡ in_row row (made access from widths)
unfolding made
made_in_row setup bytes row access from [] plain = refl
made_in_row setup bytes row access from (width ∷ later) plain =
    let some = some_bytes width in
    both_same _ _ _ _
    (plain_part setup bytes row (part_at access from width) (plain from (omega arith) (omega arith)))
    (made_in_row setup bytes row access (from + bytes_of width) later
    (λ at above below. plain at (omega arith) (omega arith)))

most_eight : (access : WideAccess) → IsWideAccess access → access.bytes ≤ 8
most_eight access legal =
    elim legal.bytes [
      | inl two ↦ omega arith
      | inr (inl four) ↦ omega arith
      | inr (inr eight) ↦ omega arith
    ]

-- where the first and the last byte of an access lie in one row, all its cycles are answered by that
pub all_in_row :
    (access : WideAccess) (legal : IsWideAccess access) (first last : Option ℕ) (Stands : Setup → Bytes → Type 0) →
    first ≡ last → ((setup : Setup) (bytes : Bytes) → Stands setup bytes → first ≡ plain_row bytes access.addr) →
    ((setup : Setup) (bytes : Bytes) → Stands setup bytes →
    last ≡ plain_row bytes (access.addr + (access.bytes - 1))) →
    IfSome first (λ row. (setup : Setup) (bytes : Bytes) → Stands setup bytes →
    map (part_in setup bytes) (parts_of access) ≡ in_row row (parts_of access))
all_in_row access legal None last Stands same first_is last_is = tt
all_in_row access legal (Some row) last Stands same first_is last_is = λ setup bytes stands.
    let cut = is_cut access legal in
    let few = most_eight access legal in
    let low = sym (first_is setup bytes stands) in
    let high = sym (last_is setup bytes stands) ∙ sym same in
    subst (λ (parts : List Access). map (part_in setup bytes) parts ≡ in_row row parts) (sym cut.parts)
    (made_in_row setup bytes row access access.addr cut.widths
    (λ at above below. plain_between bytes access.addr at (access.addr + (access.bytes - 1)) row above
    (omega (arith, cut.total_is)) (omega arith) low high))

-- ---- how many cycles

-- from here on these are the longest parts that are aligned
abbrev AreLongest : (from left : ℕ) → List Width → Type 0
AreLongest from left [] = left ≡ 0
AreLongest from left (width ∷ later) =
    (longest_at from left ≡ width) × (0 < left) × AreLongest (from + bytes_of width) (left - bytes_of width) later

cycles_by : (access : WideAccess) (most from left : ℕ) (widths : List Width) → AreLongest from left widths →
    length widths ≤ most → length (parts_from access most from left) ≡ length widths
unfolding parts_from
cycles_by access zero from left [] longest few = grind (arith, nat_tests)
cycles_by access (suc most) from left [] longest few = grind (arith, nat_tests)
cycles_by access zero from left (width ∷ later) longest few = grind (arith, nat_tests)
cycles_by access (suc most) from left (width ∷ later) longest few = grind (
  arith,
  nat_tests,
  cycles_by access most (from + bytes_of width) (left - bytes_of width) later longest.2 (omega arith),
)

-- the cycles beyond the fewest, by the address
abbrev pub extra_at : ℕ → ℕ
extra_at addr = if addr % 4 == 0 then 0 else if addr % 2 == 0 then 1 else 2

pub two_cycles : (access : WideAccess) → IsWideAccess access → access.bytes ≡ 2 → 2 ≡ length (parts_of access)
two_cycles access legal two =
    sym (cycles_by access 4 access.addr access.bytes (One ∷ One ∷ []) (grind (arith, nat_tests)) (omega arith))

pub four_cycles : (access : WideAccess) → IsWideAccess access → access.bytes ≡ 4 →
    1 + extra_at access.addr ≡ length (parts_of access)
four_cycles access legal four =
    elim (cases_eq (access.addr % 2) 1) [
      | inl odd ↦
          let is = cycles_by access 4 access.addr access.bytes (One ∷ Two ∷ One ∷ []) (grind (arith, nat_tests))
          (omega arith) in
          let extra : extra_at access.addr ≡ 2 = grind (arith, nat_tests) in
          omega (arith, is, extra)
      | inr even ↦
          let is = cycles_by access 4 access.addr access.bytes (Two ∷ Two ∷ []) (grind (arith, nat_tests)) (omega arith) in
          let extra : extra_at access.addr ≡ 1 = grind (arith, nat_tests) in
          omega (arith, is, extra)
    ]

quarters : (n : ℕ) → (n % 4 ≡ 0) ⊎ (n % 4 ≡ 1) ⊎ (n % 4 ≡ 2) ⊎ (n % 4 ≡ 3)
quarters n = grind arith

pub eight_cycles : (access : WideAccess) → access.bytes ≡ 8 → 2 + extra_at access.addr ≡ length (parts_of access)
eight_cycles access eight =
    elim (quarters access.addr) [
      | inl none ↦
          let is = cycles_by access 4 access.addr access.bytes (Four ∷ Four ∷ []) (grind (arith, nat_tests))
          (omega arith) in
          let extra : extra_at access.addr ≡ 0 = grind (arith, nat_tests) in
          omega (arith, is, extra)
      | inr (inl one) ↦
          let is = cycles_by access 4 access.addr access.bytes (One ∷ Two ∷ Four ∷ One ∷ []) (grind (arith, nat_tests))
          (omega arith) in
          let extra : extra_at access.addr ≡ 2 = grind (arith, nat_tests) in
          omega (arith, is, extra)
      | inr (inr (inl two)) ↦
          let is = cycles_by access 4 access.addr access.bytes (Two ∷ Four ∷ Two ∷ []) (grind (arith, nat_tests))
          (omega arith) in
          let extra : extra_at access.addr ≡ 1 = grind (arith, nat_tests) in
          omega (arith, is, extra)
      | inr (inr (inr three)) ↦
          let is = cycles_by access 4 access.addr access.bytes (One ∷ Four ∷ Two ∷ One ∷ []) (grind (arith, nat_tests))
          (omega arith) in
          let extra : extra_at access.addr ≡ 2 = grind (arith, nat_tests) in
          omega (arith, is, extra)
    ]

pub eight_left : (access : WideAccess) → IsWideAccess access → access.bytes ≢ 2 → access.bytes ≢ 4 → access.bytes ≡ 8
eight_left access legal no_two no_four =
    elim legal.bytes [
      | inl two ↦ absurd (no_two two)
      | inr (inl four) ↦ absurd (no_four four)
      | inr (inr eight) ↦ eight
    ]

in_row_is : (row : ℕ) (parts : List Access) → in_row row parts ≡ replicate (length parts) (row_part row)
in_row_is row [] = refl
in_row_is row (part ∷ later) = ap (λ (rest : List Part). row_part row ∷ rest) (in_row_is row later)

-- an access has two to four cycles
pub four_left : (access : WideAccess) (count : ℕ) → IsWideAccess access → count ≡ length (parts_of access) →
    count ≢ 2 → count ≢ 3 → 4 ≡ length (parts_of access)
four_left access count legal is no_two no_three =
    let cut = is_cut access legal in
    let long : length (parts_of access) ≡ length cut.widths =
    ap (λ (l : List Access). length l) cut.parts ∙ length-made access access.addr cut.widths in
    omega (arith, cut.least, cut.most, long, is, no_two, no_three)

pub counted : (row count : ℕ) (parts : List Access) → count ≡ length parts →
    replicate count (row_part row) ≡ in_row row parts
counted row count parts is = ap (λ (n : ℕ). replicate n (row_part row)) is ∙ sym (in_row_is row parts)

-- ---- what they read

pub low_part :
    (byte_at : ℕ → ℕ) (from : ℕ) (width : Width) (count : ℕ) →
    wide byte_at from width + 256 ^ bytes_of width * low_first byte_at (from + bytes_of width) count
    ≡ low_first byte_at from (bytes_of width + count)
low_part byte_at from One count = simp unary_clauses (grind arith)
low_part byte_at from _ count = simp unary_clauses (grind arith)

joined_made : (byte_at : ℕ → ℕ) (access : WideAccess) (from : ℕ) (widths : List Width) →
    joined (λ part. wide byte_at part.addr part.width) (made access from widths)
    ≡ low_first byte_at from (total widths)
unfolding made
joined_made byte_at access from [] = refl
joined_made byte_at access from (width ∷ later) =
    rw (joined_made byte_at access (from + bytes_of width) later) (low_part byte_at from width (total later))

sum_same : (scale a b x y : ℕ) → a ≡ b → x ≡ y → a + scale * x ≡ b + scale * y
sum_same scale a b x y first rest = rw (first, rest) refl

joined_in_row :
    (setup : Setup) (history : List Entry) (row : ℕ) (parts : List Access) →
    map (part_answer setup history) parts ≡ in_row row parts →
    joined (λ part. value_at setup history (memory_target setup history part) part.addr part.width) parts
    ≡ joined (λ part. wide (dram_byte setup history) part.addr part.width) parts
unfolding part_answer
joined_in_row setup history row [] is = refl
joined_in_row setup history row (part ∷ later) is =
    let first : part_answer setup history part ≡ row_part row = cc in
    let rest : map (part_answer setup history) later ≡ in_row row later = cc in
    let target : memory_target setup history part ≡ Dram row = ap (λ (p : Part). p.target) first in
    sum_same (256 ^ bytes_of part.width) _ _ _ _
    (ap (λ (t : Target). value_at setup history t part.addr part.width) target)
    (joined_in_row setup history row later rest)

same_bytes : (f g : ℕ → ℕ) (from count : ℕ) → ((at : ℕ) → f at ≡ g at) → low_first f from count ≡ low_first g from count
same_bytes f g from zero same = refl
same_bytes f g from (suc count) same = rw (same from, same_bytes f g (from + 1) count same) refl

both_if : (test other : Bool) (a b otherwise : ℕ) → test ≡ other → (test ≡ true → a ≡ b) →
    (if test then a else otherwise) ≡ (if other then b else otherwise)
both_if true other a b otherwise same is = rw (sym same) (is refl)
both_if false other a b otherwise same is = rw (sym same) refl

dram_is : (setup : Setup) (history : List Entry) (dram : List ℕ) → IsDramOf setup history dram → (at : ℕ) →
    dram_at dram at ≡ dram_byte setup history at
dram_is setup history dram is at =
    both_if (nat_lt at (length dram)) (nat_lt at (installed setup)) _ _ 0xFF (ap (nat_lt at) is.size)
    (λ within. is.each at (ltb-true at (length dram) within))

-- the bytes of an access at once are the values of its cycles joined
pub row_value :
    (setup : Setup) (history : List Entry) (row : ℕ) (access : WideAccess) (dram : List ℕ) → IsWideAccess access →
    IsDramOf setup history dram →
    map (part_answer setup history) (parts_of access) ≡ in_row row (parts_of access) →
    low_first (dram_at dram) access.addr access.bytes
    ≡ joined (λ part. value_at setup history (memory_target setup history part) part.addr part.width) (parts_of access)
row_value setup history row access dram legal is answered =
    let cut = is_cut access legal in
    same_bytes (dram_at dram) (dram_byte setup history) access.addr access.bytes (dram_is setup history dram is)
    ∙ ap (low_first (dram_byte setup history) access.addr) (sym cut.total_is)
    ∙ sym (joined_made (dram_byte setup history) access access.addr cut.widths)
    ∙ ap (joined (λ part. wide (dram_byte setup history) part.addr part.width)) (sym cut.parts)
    ∙ sym (joined_in_row setup history row (parts_of access) answered)

nothing_more : (n scale : ℕ) → n + scale * 0 ≡ n
nothing_more n scale = omega arith

pub two_bytes : (byte_at : ℕ → ℕ) (from : ℕ) → low_first byte_at from 2 ≡ wide byte_at from Two
two_bytes byte_at from = sym (low_part byte_at from Two 0) ∙ nothing_more (wide byte_at from Two) (256 ^ 2)

pub four_bytes : (byte_at : ℕ → ℕ) (from : ℕ) → low_first byte_at from 4 ≡ wide byte_at from Four
four_bytes byte_at from = sym (low_part byte_at from Four 0) ∙ nothing_more (wide byte_at from Four) (256 ^ 4)

pub eight_bytes : (byte_at : ℕ → ℕ) (from : ℕ) →
    low_first byte_at from 8 ≡ wide byte_at from Four + 256 ^ 4 * wide byte_at (from + 4) Four
eight_bytes byte_at from =
    sym (low_part byte_at from Four 4)
    ∙ ap (λ (n : ℕ). wide byte_at from Four + 256 ^ 4 * n) (four_bytes byte_at (from + 4))

-- ---- what they leave

-- the bytes of an access, from an address up to its end
abbrev pub bytes_put : WideAccess → (from count : ℕ) → ℕ → Option ℕ
bytes_put access from count at =
    if nat_le from at && nat_lt at (from + count) then Some (byte access.value (at - access.addr)) else None

-- byte k of the low bytes of a number is its own byte k
byte_low : (width : Width) (n k : ℕ) → k < bytes_of width → byte (n % 256 ^ bytes_of width) k ≡ byte n k
byte_low One n (suc k) below = absurd (omega arith)
byte_low Two n (suc (suc k)) below = absurd (omega arith)
byte_low Four n (suc (suc (suc (suc k)))) below = absurd (omega arith)
byte_low _ n _ below = omega arith

-- the byte that a part puts in a cell is that of the whole
byte_part : (access : WideAccess) (from at : ℕ) (width : Width) → access.addr ≤ from → from ≤ at →
    at < from + bytes_of width →
    byte (part_at access from width).value (at - from) ≡ byte access.value (at - access.addr)
byte_part access from at width start above below =
    let place : at - access.addr ≡ (from - access.addr) + (at - from) = omega arith in
    byte_low width (access.value / 256 ^ (from - access.addr)) (at - from) (omega arith)
    ∙ sym (ap (λ (n : ℕ). n % 256) (further access.value (from - access.addr) (at - from)))
    ∙ sym (ap (byte access.value) place)

put_at : (row from at : ℕ) (width : Width) (value : ℕ) →
    byte_put (Dram row) from width value (DramCell at)
    ≡ (if nat_le from at && nat_lt at (from + bytes_of width) then Some (byte value (at - from)) else None)
put_at row from at width value = grind (arith, nat_tests)

lower_of : (from at end : ℕ) → (nat_le from at && nat_lt at end) ≡ true → from ≤ at
lower_of from at end inside = grind (arith, nat_tests)

upper_of : (from at end : ℕ) → (nat_le from at && nat_lt at end) ≡ true → at < end
upper_of from at end inside = grind (arith, nat_tests)

put_same : (test : Bool) (a b : ℕ) → (test ≡ true → a ≡ b) → (if test then Some a else None)
    ≡ (if test then Some b else None)
put_same true a b is = ap (λ (n : ℕ). Some n) (is refl)
put_same false a b is = refl

part_puts : (access : WideAccess) (row from at : ℕ) (width : Width) → is_write access.kind ≡ true →
    access.addr ≤ from →
    memory_put (part_at access from width) (Dram row) (DramCell at) ≡ bytes_put access from (bytes_of width) at
part_puts access row from at width writes start =
    cond-true (is_write access.kind) _ _ writes
    ∙ put_at row from at width (part_at access from width).value
    ∙ put_same (nat_le from at && nat_lt at (from + bytes_of width)) _ _
    (λ inside. byte_part access from at width start (lower_of from at (from + bytes_of width) inside)
    (upper_of from at (from + bytes_of width) inside))

over : (a b c d : Option ℕ) → a ≡ b → c ≡ d → option_or a c ≡ option_or b d
over a b c d first later = rw (first, later) refl

joins : (from near far at value : ℕ) →
    option_or (if nat_le (from + near) at && nat_lt at (from + near + far) then Some value else None)
    (if nat_le from at && nat_lt at (from + near) then Some value else None)
    ≡ (if nat_le from at && nat_lt at (from + (near + far)) then Some value else None)
joins from near far at value = grind (arith, nat_tests)

puts_none : (from at value : ℕ) → None ≡ (if nat_le from at && nat_lt at (from + 0) then Some value else None)
puts_none from at value = grind (arith, nat_tests)

made_put : (access : WideAccess) (row from at : ℕ) (widths : List Width) → is_write access.kind ≡ true →
    access.addr ≤ from →
    parts_put (made access from widths) (in_row row (made access from widths)) (DramCell at)
    ≡ bytes_put access from (total widths) at
unfolding made parts_put
made_put access row from at [] writes start = puts_none from at (byte access.value (at - access.addr))
made_put access row from at (width ∷ later) writes start =
    over _ _ _ _ (made_put access row (from + bytes_of width) at later writes (omega arith))
    (part_puts access row from at width writes start)
    ∙ joins from (bytes_of width) (total later) at (byte access.value (at - access.addr))

none_either : (test : Bool) → ◌≡◌ {A = Option ℕ} (if test then None else None) None
none_either true = refl
none_either false = refl

pub card_put : (row dev base off : ℕ) (parts : List Access) →
    parts_put parts (in_row row parts) (CardCell dev base off) ≡ None
unfolding parts_put
card_put row dev base off [] = refl
card_put row dev base off (part ∷ later) =
    over _ _ _ _ (card_put row dev base off later) (none_either (is_write part.kind))

-- the byte at an address after a write, over what was there
after_write :
    (addr bytes at size new_size old_at new_at written right : ℕ) → at < size → new_size ≡ size →
    (if nat_lt at new_size then new_at else 0xFF)
    ≡ (if nat_le addr at && nat_lt at (addr + bytes) && nat_lt at size then written else
    (if nat_lt at size then old_at else 0xFF)) →
    (addr ≤ at → at < addr + bytes → written ≡ right) →
    new_at ≡ unwrap_or (if nat_le addr at && nat_lt at (addr + bytes) then Some right else None) old_at
after_write addr bytes at size new_size old_at new_at written right within same is put = grind (arith, nat_tests)

le_byte : (value k : ℕ) → k < 8 → slice_index (to_le_bytes w64 value) k ≡ byte value k
le_byte value zero below = grind arith
le_byte value (suc zero) below = grind arith
le_byte value (suc (suc zero)) below = grind arith
le_byte value (suc (suc (suc zero))) below = grind arith
le_byte value (suc (suc (suc (suc zero)))) below = grind arith
le_byte value (suc (suc (suc (suc (suc zero))))) below = grind arith
le_byte value (suc (suc (suc (suc (suc (suc zero)))))) below = grind arith
le_byte value (suc (suc (suc (suc (suc (suc (suc zero))))))) below = grind arith
le_byte value (suc (suc (suc (suc (suc (suc (suc (suc more)))))))) below = absurd (omega arith)

length_eight : (value : ℕ) → length (to_le_bytes w64 value) ≡ 8
length_eight value = refl

pub kept_cell : (put : Option ℕ) (held : ℕ) → put ≡ None → held ≡ unwrap_or put held
kept_cell put held is = rw is refl

pub row_put :
    (access : WideAccess) (row : ℕ) (old new bytes : List ℕ) → IsWideAccess access →
    is_write access.kind ≡ true → length new ≡ length old → bytes ≡ to_le_bytes w64 access.value →
    IsWritten old access.addr (length (take access.bytes bytes)) (slice_index (take access.bytes bytes)) new →
    (at : ℕ) → at < length old →
    slice_index new at
    ≡ unwrap_or (parts_put (parts_of access) (in_row row (parts_of access)) (DramCell at)) (slice_index old at)
row_put access row old new bytes legal writes size spelled is at within =
    let cut = is_cut access legal in
    let few = most_eight access legal in
    let whole : length bytes ≡ 8 = ap (λ (l : List ℕ). length l) spelled ∙ length_eight access.value in
    let count : length (take access.bytes bytes) ≡ access.bytes =
    length-take-le access.bytes bytes (omega (arith, whole)) in
    let puts : parts_put (parts_of access) (in_row row (parts_of access)) (DramCell at)
    ≡ bytes_put access access.addr access.bytes at =
    subst (λ (parts : List Access). parts_put parts (in_row row parts) (DramCell at)
    ≡ bytes_put access access.addr access.bytes at) (sym cut.parts)
    (made_put access row access.addr at cut.widths writes (omega arith)
    ∙ ap (λ (n : ℕ). bytes_put access access.addr n at) cut.total_is) in
    let written : ℕ → ℕ = slice_index (take access.bytes bytes) in
    after_write access.addr access.bytes at (length old) (length new) (slice_index old at) (slice_index new at)
    (written (at - access.addr)) (byte access.value (at - access.addr)) within size
    (subst (λ (n : ℕ). IsWritten old access.addr n written new) count is at)
    (λ above below.
    get_or-take access.bytes bytes (at - access.addr) 0 (omega arith)
    ∙ ap (λ (l : List ℕ). slice_index l (at - access.addr)) spelled
    ∙ le_byte access.value (at - access.addr) (omega arith))
    ∙ sym (ap (λ (o : Option ℕ). unwrap_or o (slice_index old at)) puts)
