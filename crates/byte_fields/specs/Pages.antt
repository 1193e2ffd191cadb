-- Bytes beside plain ones, page by page: of each page whether it is the plain one, and else its bytes.
use Rattle.std.specs.Prelude.{ℕ, zero, suc, Bool, true, false, if◌then◌else◌, List, [], ◌∷◌, ◌++◌, length, take, drop}
use Rattle.std.specs.Prelude.{replicate, bytes_eq}
use Rattle.byte_fields.specs.Fields.{Reading, gives, ◌>>=◌, flag_field, other_than}

-- ---- one page

-- a byte 0 where it is the plain one, else a byte 1 and the page
abbrev pub page_bytes : (plain page : List ℕ) → List ℕ
page_bytes plain page = if bytes_eq page plain then 0 ∷ [] else 1 ∷ page

-- where it differs from the plain one its bytes, which are as many
abbrev pub page_where : (differs : Bool) → (plain : List ℕ) → Reading (List ℕ)
page_where true plain = other_than plain
page_where false plain = gives plain

-- a flag, whether the page differs from the plain one, and then its bytes
unfoldable pub page_field : (plain : List ℕ) → Reading (List ℕ)
page_field plain = do
  differs ← flag_field
  page_where differs plain

-- ---- page after page, beside plain pages

unfoldable pub each_page_bytes : (plain : List (List ℕ)) → (bytes : List ℕ) → List ℕ
each_page_bytes [] bytes = []
each_page_bytes (plain ∷ later) bytes =
    page_bytes plain (take (length plain) bytes) ++ each_page_bytes later (drop (length plain) bytes)

unfoldable pub each_page_field : (plain : List (List ℕ)) → Reading (List ℕ)
each_page_field [] = gives []
each_page_field (plain ∷ later) = do
  page ← page_field plain
  rest ← each_page_field later
  gives (page ++ rest)

-- bytes cut into pages of this size, at most so many. The last may be shorter
unfoldable pub cut : (size most : ℕ) → List ℕ → List (List ℕ)
cut size zero bytes = []
cut size (suc most) [] = []
cut size (suc most) (byte ∷ later) = take size (byte ∷ later) ∷ cut size most (drop size (byte ∷ later))

abbrev pub pages_of : (size : ℕ) → List ℕ → List (List ℕ)
pages_of size bytes = cut size (length bytes) bytes

-- ---- bytes, beside plain bytes of the same length

unfoldable pub pages_bytes : (size : ℕ) → (plain bytes : List ℕ) → List ℕ
pages_bytes size plain bytes = each_page_bytes (pages_of size plain) bytes

unfoldable pub pages_fields : (size : ℕ) → (plain : List ℕ) → Reading (List ℕ)
pages_fields size plain = each_page_field (pages_of size plain)

-- memory, which begins with zeros, in pages of 4,096 bytes

abbrev pub memory_page : ℕ
memory_page = 0x1000

abbrev pub memory_bytes : (bytes : List ℕ) → List ℕ
memory_bytes bytes = pages_bytes memory_page (replicate (length bytes) 0) bytes

abbrev pub memory_fields : (count : ℕ) → Reading (List ℕ)
memory_fields count = pages_fields memory_page (replicate count 0)
