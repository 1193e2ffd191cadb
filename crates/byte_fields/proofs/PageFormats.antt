-- Bytes beside plain ones are spelled page by page, and read back.
use Rattle.std.proofs.Common.{◌≡◌, ℕ, zero, suc, ◌+◌, ◌-◌, ◌*◌, ◌≤◌, ◌<◌, min, Bool, true, false, not, cond, List, []}
use Rattle.std.proofs.Common.{◌∷◌, ◌++◌, length, take, drop, replicate, Some, None, Result, Ok, Err, refl, sym, ap, ◌∙◌}
use Rattle.std.proofs.Common.{append_assoc, arith, bytes_eq}
use Rattle.std.proofs.lemmas.List.{take_at, drop_at, length-append, length-take, length-drop, take-append-drop}
use Rattle.std.proofs.lemmas.List.{nil_from_length, drop-drop, drop_all, take_all, append-nil, take-append-le}
use Rattle.std.proofs.lemmas.List.{drop-append-le, length-replicate, take_min, drop_min, take-replicate, drop-replicate}
use Rattle.std.proofs.lemmas.Slice.Eq.{bytes_eq-Decides}
use Rattle.std.proofs.Math.Nat.{suc-mul, zero-mul}
use Rattle.byte_fields.specs.Fields.{Reading, then_read, gives, ◌>>=◌, flag_byte}
use Rattle.byte_fields.specs.Pages.{page_bytes, page_where, page_field, each_page_bytes, each_page_field, cut, pages_of}
use Rattle.byte_fields.specs.Pages.{pages_bytes, pages_fields, memory_page, memory_bytes, memory_fields}
use Rattle.byte_fields.proofs.Formats.{IsFormat, format_as, fields_format, ◌then◌, ◌&◌, last_field, whole_field}
use Rattle.byte_fields.proofs.Formats.{done_format, read_as, cut_format}
use Rattle.byte_fields.proofs.Loops.{with_front}
use Rattle.byte_fields.proofs.Numbers.{flag_format}
use Rattle.std.proofs.lemmas.Bool.Decides.{nat_tests}

-- ---- one page

abbrev IsOther : (plain page : List ℕ) → Type 0
IsOther plain page = (length page ≡ length plain) × (bytes_eq page plain ≡ false)

abbrev where_bytes : (differs : Bool) → (page : List ℕ) → List ℕ
where_bytes true page = page
where_bytes false page = []

abbrev IsWhere : (plain : List ℕ) → (differs : Bool) → (page : List ℕ) → Type 0
IsWhere plain true page = IsOther plain page
IsWhere plain false page = page ≡ plain

where_format : (plain : List ℕ) (differs : Bool) →
    IsFormat (length plain) (page_where differs plain) (where_bytes differs) (IsWhere plain differs)
where_format plain true =
    read_as (λ bytes. grind arith) (cut_format {says = λ front. cond (bytes_eq front plain) None (Some front)}
    (λ page. page) _ (λ page good. (good.0, rw good.1 refl))
    (λ front page long are is.
    let told : (bytes_eq front plain ≡ false) × (front ≡ page) = grind arith in
    (told.1, rw (← told.1) (long, told.0))))
where_format plain false =
    format_as _ _ _ (done_format plain) (omega arith) (λ page good. good) (λ page good. good) (λ page good. refl)

where_to : (same : Bool) (plain page : List ℕ) → bytes_eq page plain ≡ same → length page ≡ length plain →
    IsWhere plain (not same) page
where_to same plain page is long = grind (arith, (bytes_eq-Decides page plain).0)

where_from : (differs : Bool) (plain page : List ℕ) → IsWhere plain differs page →
    (length page ≡ length plain) × (page_bytes plain page ≡ flag_byte differs ∷ where_bytes differs page)
where_from differs plain page good = grind (arith, (bytes_eq-Decides page plain).1)

pub page_format : (plain : List ℕ) →
    IsFormat (1 + length plain) (page_field plain) (page_bytes plain) (λ page. length page ≡ length plain)
unfolding page_field
page_format plain =
    fields_format (flag_format then λ differs any. whole_field (where_format plain differs))
    (λ page long.
    ((not (bytes_eq page plain), tt) & (page, where_to _ _ _ refl long), refl)) (λ t. where_from _ _ _ t.2.1)

-- ---- the first page, and the rest

same_cut : (size m n : ℕ) (bytes : List ℕ) → 0 < size → length bytes ≤ m → length bytes ≤ n →
    cut size m bytes ≡ cut size n bytes
unfolding cut
same_cut size zero zero [] some to_m to_n = refl
same_cut size zero (suc n) [] some to_m to_n = refl
same_cut size (suc m) zero [] some to_m to_n = refl
same_cut size (suc m) (suc n) [] some to_m to_n = refl
same_cut size zero n (byte ∷ later) some to_m to_n = absurd (omega (arith, to_m))
same_cut size (suc m) zero (byte ∷ later) some to_m to_n = absurd (omega (arith, to_n))
same_cut size (suc m) (suc n) (byte ∷ later) some to_m to_n =
    let fewer = length-drop size (byte ∷ later) in
    rw (same_cut size m n (drop size (byte ∷ later)) some (omega arith) (omega arith)) refl

first_page : (size : ℕ) (bytes : List ℕ) → 0 < size → 0 < length bytes →
    pages_of size bytes ≡ take size bytes ∷ pages_of size (drop size bytes)
unfolding cut
first_page size [] some there = absurd (omega (arith, there))
first_page size (byte ∷ later) some there =
    let fewer = length-drop size (byte ∷ later) in
    rw (same_cut size (length later) (length (drop size (byte ∷ later))) (drop size (byte ∷ later)) some (omega arith)
    (omega arith)) refl

pub no_pages : (size : ℕ) (bytes : List ℕ) → pages_bytes size [] bytes ≡ []
unfolding pages_bytes each_page_bytes cut
no_pages size bytes = refl

no_fields : (size : ℕ) (bytes : List ℕ) → pages_fields size [] bytes ≡ Ok ([], bytes)
unfolding pages_fields each_page_field cut
no_fields size bytes = refl

pub bytes_first : (size : ℕ) (plain bytes : List ℕ) → 0 < size → 0 < length plain →
    pages_bytes size plain bytes
    ≡ page_bytes (take size plain) (take (length (take size plain)) bytes)
    ++ pages_bytes size (drop size plain) (drop (length (take size plain)) bytes)
unfolding pages_bytes each_page_bytes
bytes_first size plain bytes some there = rw (first_page size plain some there) refl

fields_first : (size : ℕ) (plain bytes : List ℕ) → 0 < size → 0 < length plain →
    pages_fields size plain bytes ≡ then_read (page_field (take size plain) bytes)
    (λ page. pages_fields size (drop size plain) >>= λ rest. gives (page ++ rest))
unfolding pages_fields each_page_field
fields_first size plain bytes some there = rw (first_page size plain some there) refl

-- ---- all pages

few_format : (size most : ℕ) (plain : List ℕ) → 0 < size → length plain ≤ most → IsFormat (2 * length plain)
    (pages_fields size plain) (pages_bytes size plain) (λ bytes. length bytes ≡ length plain)
few_format size most [] some few =
    format_as 0 (pages_bytes size []) (λ bytes. length bytes ≡ 0) (read_as (no_fields size) (done_format []))
    (omega arith) (λ bytes long. nil_from_length bytes long) (λ bytes none. ap length none)
    (λ bytes none. sym (no_pages size bytes))
few_format size zero (byte ∷ later) some few = absurd (omega (arith, few))
few_format size (suc most) (byte ∷ later) some few =
    let plain : List ℕ = byte ∷ later in
    let first : List ℕ = take size plain in
    let n = length first in
    let size_first = length-take size plain in
    let size_rest = length-drop size plain in
    format_as (2 * length plain) (pages_bytes size plain) (λ bytes. length bytes ≡ length plain)
    (read_as (λ bytes. fields_first size plain bytes some (omega arith))
    (fields_format {other = pages_bytes size plain}
    (page_format first then λ page long. last_field (λ rest. page ++ rest)
    (few_format size most (drop size plain) some (omega arith)))
    (λ bytes long. (
      (take n bytes, omega (arith, length-take n bytes)) & (drop n bytes, omega (arith, length-drop n bytes)),
      sym (take-append-drop n bytes),
    ))
    (λ t. (
      omega (arith, length-append t.0 t.2.0, t.1, t.2.1),
      rw (bytes_first size plain (t.0 ++ t.2.0) some (omega arith), take_at t.0 t.2.0 n t.1, drop_at t.0 t.2.0 n t.1)
          refl,
    )))) (omega arith) (λ bytes good. good) (λ bytes good. good) (λ bytes good. refl)

pub pages_format : (size : ℕ) (plain : List ℕ) → 0 < size → IsFormat (2 * length plain) (pages_fields size plain)
    (pages_bytes size plain) (λ bytes. length bytes ≡ length plain)
pages_format size plain some = few_format size (length plain) plain some (omega arith)

pub memory_format : (count : ℕ) →
    IsFormat (2 * count) (memory_fields count) memory_bytes (λ bytes. length bytes ≡ count)
memory_format count =
    let zeros = length-replicate {A = ℕ} count 0 in
    format_as (2 * count) memory_bytes (λ bytes. length bytes ≡ count)
    (pages_format memory_page (replicate count 0) (omega arith)) (omega (arith, zeros))
    (λ bytes long. long ∙ sym zeros) (λ bytes good. good ∙ zeros)
    (λ bytes good. ap (λ (n : ℕ). pages_bytes memory_page (replicate n 0) bytes) (sym (good ∙ zeros)))

-- ---- loops over pages

-- the page from a place on has so many bytes
module _ (size done count : ℕ) (bytes : List ℕ) (is : count ≡ min size (length bytes - done)) where
  page_at : take (done + count - done) (drop done bytes) ≡ take size (drop done bytes)
  page_at =
      ap (λ (n : ℕ). take n (drop done bytes)) (omega (arith, is, length-drop done bytes))
      ∙ take_min size (drop done bytes)

  after_page : drop (done + count) bytes ≡ drop size (drop done bytes)
  after_page =
      sym (drop-drop count done bytes)
      ∙ ap (λ (n : ℕ). drop n (drop done bytes)) (omega (arith, is, length-drop done bytes))
      ∙ drop_min size (drop done bytes)

pub push_goes_on : (size done count : ℕ) (into now plain bytes total before : List ℕ) → 0 < size →
    length plain ≡ length bytes → done < length bytes → count ≡ min size (length bytes - done) →
    into ++ pages_bytes size (drop done plain) (drop done bytes) ≡ total →
    before ≡ take (done + count - done) (drop done plain) →
    now ≡ into ++ page_bytes before (take (done + count - done) (drop done bytes)) →
    now ++ pages_bytes size (drop (done + count) plain) (drop (done + count) bytes) ≡ total
push_goes_on size done count into now plain bytes total before some same below is so_far old added =
    let of_plain : count ≡ min size (length plain - done) = omega (arith, is, same) in
    let long : length (take size (drop done plain)) ≡ count =
    omega (arith, is, same, length-take size (drop done plain), length-drop done plain) in
    let as_page : done + count - done ≡ count = omega arith in
    let first = rw (
      bytes_first size (drop done plain) (drop done bytes) some (omega (arith, below, same, length-drop done plain)),
      long,
      ← page_at size done count plain of_plain,
      ← after_page size done count plain of_plain,
      drop-drop count done bytes,
    ) at so_far in
    rw (
      added,
      old,
      as_page,
      append_assoc into (page_bytes (take count (drop done plain)) (take count (drop done bytes)))
          (pages_bytes size (drop (done + count) plain) (drop (done + count) bytes)),
    ) (rw as_page at first)

pub zeros_page : (done count n most : ℕ) → count ≤ most → count ≤ n - done →
    take count (replicate {A = ℕ} most 0) ≡ take (done + count - done) (drop done (replicate {A = ℕ} n 0))
zeros_page done count n most few fits =
    let long : done + count - done ≡ count = omega arith in
    rw (long, drop-replicate {X = ℕ} done n 0, take-replicate {X = ℕ} count (n - done) 0 fits)
    (take-replicate {X = ℕ} count most 0 few)

pub push_ends : (size done : ℕ) (into plain bytes total : List ℕ) → length plain ≡ length bytes → length bytes ≤ done →
    into ++ pages_bytes size (drop done plain) (drop done bytes) ≡ total → into ≡ total
push_ends size done into plain bytes total same over so_far =
    sym (append-nil into)
    ∙ rw (drop_all done plain (omega (arith, over, same)), no_pages size (drop done bytes)) at so_far

-- what is still read, after these bytes
pub joined : (front page : List ℕ) (read : Result (List ℕ × List ℕ) ℕ) →
    with_front front (then_read read (λ rest. gives (page ++ rest))) ≡ with_front (front ++ page) read
joined front page read = grind (arith, append_assoc)

module _ (size done count : ℕ) (now bytes : List ℕ) (total : Result (List ℕ × List ℕ) ℕ) (some : 0 < size)
    (below : done < length now) (is : count ≡ min size (length now - done))
    (so_far : with_front (take done now) (pages_fields size (drop done now) bytes) ≡ total) where
  first_read : with_front (take done now) (then_read (page_field (take (done + count - done) (drop done now)) bytes)
      (λ page. pages_fields size (drop (done + count) now) >>= λ rest. gives (page ++ rest))) ≡ total
  first_read =
      rw (page_at size done count now is, after_page size done count now is)
      (rw (fields_first size (drop done now) bytes some (omega (arith, below, length-drop done now))) at so_far)

  -- a page that is read replaces its place
  pub pages_go_on : (page after : List ℕ) →
      page_field (take (done + count - done) (drop done now)) bytes ≡ Ok (page, after) →
      length page ≡ length (take (done + count - done) (drop done now)) →
      (put : List ℕ) → put ≡ take done now ++ (page ++ drop (done + count - done) (drop done now)) →
      (with_front (take (done + count) put) (pages_fields size (drop (done + count) put) after) ≡ total)
      × (length put ≡ length now)
  pages_go_on page after read same put is_put =
      let front : List ℕ = take done now ++ page in
      let rest : List ℕ = drop (done + count - done) (drop done now) in
      let split : put ≡ front ++ rest = is_put ∙ sym (append_assoc (take done now) page rest) in
      let long : length front ≡ done + count = omega (
        arith,
        same,
        below,
        is,
        length-append (take done now) page,
        length-take done now,
        length-take (done + count - done) (drop done now),
        length-drop done now,
      ) in
      let later : rest ≡ drop (done + count) now =
      ap (λ (n : ℕ). drop n (drop done now)) (omega arith) ∙ drop-drop count done now in (
        rw (split, take_at front rest (done + count) long, drop_at front rest (done + count) long, later)
            (sym (joined (take done now) page (pages_fields size (drop (done + count) now) after))
            ∙ rw read at first_read),
        omega (arith, ap length split, length-append front rest, long, ap length later, length-drop (done + count) now),
      )

  pub pages_stop : (left : ℕ) → page_field (take (done + count - done) (drop done now)) bytes ≡ Err left →
      total ≡ Err left
  pages_stop left read = sym (rw read at first_read)

pub pages_end : (size done : ℕ) (now bytes : List ℕ) (total : Result (List ℕ × List ℕ) ℕ) → length now ≤ done →
    with_front (take done now) (pages_fields size (drop done now) bytes) ≡ total → total ≡ Ok (now, bytes)
pages_end size done now bytes total over so_far =
    sym (rw (drop_all done now over, take_all done now over, no_fields size bytes, append-nil now) at so_far)

-- ---- zeros

module _ (size n : ℕ) (some : 0 < size) (fits : size ≤ n) where
  zeros_first : (bytes : List ℕ) → pages_bytes size (replicate n 0) bytes
      ≡ page_bytes (replicate size 0) (take size bytes) ++ pages_bytes size (replicate (n - size) 0) (drop size bytes)
  zeros_first bytes =
      let here = bytes_first size (replicate n 0) bytes some (omega (arith, length-replicate {A = ℕ} n 0)) in
      rw (take-replicate {X = ℕ} size n 0 fits, drop-replicate {X = ℕ} size n 0, length-replicate {A = ℕ} size 0) at
      here

  zeros_read : (bytes : List ℕ) → pages_fields size (replicate n 0) bytes ≡ then_read
      (page_field (replicate size 0) bytes)
      (λ page. pages_fields size (replicate (n - size) 0) >>= λ rest. gives (page ++ rest))
  zeros_read bytes =
      let here = fields_first size (replicate n 0) bytes some (omega (arith, length-replicate {A = ℕ} n 0)) in
      rw (take-replicate {X = ℕ} size n 0 fits, drop-replicate {X = ℕ} size n 0) at here

pub zeros_go_on : (size n : ℕ) (front page bytes after : List ℕ) (total : Result (List ℕ × List ℕ) ℕ) → 0 < size →
    size ≤ n → with_front front (pages_fields size (replicate n 0) bytes) ≡ total →
    page_field (replicate size 0) bytes ≡ Ok (page, after) → with_front (front ++ page)
    (pages_fields size (replicate (n - size) 0) after) ≡ total
zeros_go_on size n front page bytes after total some fits so_far read =
    sym (joined front page (pages_fields size (replicate (n - size) 0) after))
    ∙ rw (zeros_read size n some fits bytes, read) at so_far

pub zeros_stop : (size n : ℕ) (front bytes : List ℕ) (left : ℕ) (total : Result (List ℕ × List ℕ) ℕ) → 0 < size →
    size ≤ n → with_front front (pages_fields size (replicate n 0) bytes) ≡ total →
    page_field (replicate size 0) bytes ≡ Err left → total ≡ Err left
zeros_stop size n front bytes left total some fits so_far read =
    sym (rw (zeros_read size n some fits bytes, read) at so_far)

pub zeros_end : (size n : ℕ) (front bytes : List ℕ) (total : Result (List ℕ × List ℕ) ℕ) → n ≡ 0 →
    with_front front (pages_fields size (replicate n 0) bytes) ≡ total → total ≡ Ok (front, bytes)
zeros_end size n front bytes total none so_far =
    sym (rw (none, no_fields size bytes, append-nil front) at so_far)

-- a whole number of pages of zeros, and what follows them

pages_append : (size count n : ℕ) (bytes later : List ℕ) → 0 < size → length bytes ≡ count * size →
    pages_bytes size (replicate (length bytes + n) 0) (bytes ++ later)
    ≡ pages_bytes size (replicate (length bytes) 0) bytes ++ pages_bytes size (replicate n 0) later
pages_append size zero n bytes later some whole =
    let none : length bytes + n ≡ n = omega (arith, zero-mul size) in
    rw (none, nil_from_length bytes (omega (arith, zero-mul size)), no_pages size []) refl
pages_append size (suc count) n bytes later some whole =
    let much = suc-mul count size in
    let fits : size ≤ length bytes = omega arith in
    let rest = pages_append size count n (drop size bytes) later some (omega (arith, length-drop size bytes)) in
    let long : length bytes + n - size ≡ length (drop size bytes) + n = omega (arith, length-drop size bytes) in
    rw (
      zeros_first size (length bytes + n) some (omega arith) (bytes ++ later),
      zeros_first size (length bytes) some fits bytes,
      long,
      take-append-le size bytes later fits,
      drop-append-le size bytes later fits,
      rest,
      length-drop size bytes,
    )
    (sym (append_assoc (page_bytes (replicate size 0) (take size bytes))
    (pages_bytes size (replicate (length bytes - size) 0) (drop size bytes)) (pages_bytes size (replicate n 0) later)))

-- one reading after another, whose bytes are joined
abbrev pub then_more : Result (List ℕ × List ℕ) ℕ → Reading (List ℕ) → Result (List ℕ × List ℕ) ℕ
then_more first more = then_read first (λ bytes. more >>= λ rest. gives (bytes ++ rest))

regroup : (front : List ℕ) (first : Result (List ℕ × List ℕ) ℕ) (more : Reading (List ℕ)) →
    then_read (then_more first more) (λ rest. gives (front ++ rest))
    ≡ then_more (then_read first (λ rest. gives (front ++ rest))) more
regroup front (Ok got) more = joined front got.0 (more got.1)
regroup front (Err left) more = refl

regroup_first : (first : Result (List ℕ × List ℕ) ℕ) (whole part more : Reading (List ℕ)) →
    ((bytes : List ℕ) → whole bytes ≡ then_more (part bytes) more) →
    then_read first (λ page. whole >>= λ rest. gives (page ++ rest))
    ≡ then_more (then_read first (λ page. part >>= λ rest. gives (page ++ rest))) more
regroup_first (Ok got) whole part more is = rw (is got.1) (regroup got.0 (part got.1) more)
regroup_first (Err left) whole part more is = refl

fields_append : (size count n : ℕ) (bytes : List ℕ) → 0 < size →
    pages_fields size (replicate (count * size + n) 0) bytes
    ≡ then_more (pages_fields size (replicate (count * size) 0) bytes) (pages_fields size (replicate n 0))
fields_append size zero n bytes some =
    let none : zero * size + n ≡ n = omega (arith, zero-mul size) in
    rw (none, zero-mul size, no_fields size bytes) (sym (no_front (pages_fields size (replicate n 0) bytes)))
  where
    no_front : (read : Result (List ℕ × List ℕ) ℕ) → then_read read (λ rest. gives ([] ++ rest)) ≡ read
    no_front read = grind arith
fields_append size (suc count) n bytes some =
    let much = suc-mul count size in
    let long : suc count * size + n - size ≡ count * size + n = omega arith in
    let less : suc count * size - size ≡ count * size = omega arith in
    rw (
      zeros_read size (suc count * size + n) some (omega arith) bytes,
      zeros_read size (suc count * size) some (omega arith) bytes,
      long,
      less,
    )
    (regroup_first (page_field (replicate size 0) bytes) (pages_fields size (replicate (count * size + n) 0))
    (pages_fields size (replicate (count * size) 0)) (pages_fields size (replicate n 0))
    (λ after. fields_append size count n after some))

zero_pages : (size count : ℕ) → 0 < size →
    pages_bytes size (replicate (count * size) 0) (replicate (count * size) 0) ≡ replicate count 0
zero_pages size zero some = grind (
  arith,
  nat_tests,
  zero-mul,
  no_pages,
  suc-mul,
  zeros_first,
  take-replicate,
  drop-replicate,
  bytes_eq-Decides,
)
zero_pages size (suc count) some = grind (
  arith,
  nat_tests,
  zero-mul,
  no_pages,
  suc-mul,
  zeros_first,
  take-replicate,
  drop-replicate,
  bytes_eq-Decides,
  zero_pages size count some,
)

-- ---- memory

pub memory_append : (count : ℕ) (bytes later : List ℕ) → length bytes ≡ count * memory_page →
    memory_bytes (bytes ++ later) ≡ memory_bytes bytes ++ memory_bytes later
memory_append count bytes later whole =
    rw (length-append bytes later) (pages_append memory_page count (length later) bytes later (omega arith) whole)

pub memory_zeros : (count : ℕ) → memory_bytes (replicate (count * memory_page) 0) ≡ replicate count 0
memory_zeros count = rw (length-replicate {A = ℕ} (count * memory_page) 0) (zero_pages memory_page count (omega arith))

pub memory_then : (count more : ℕ) (bytes : List ℕ) →
    memory_fields (count * memory_page + more) bytes
    ≡ then_more (memory_fields (count * memory_page) bytes) (memory_fields more)
memory_then count more bytes = fields_append memory_page count more bytes (omega arith)
