-- A history that got an entry.
use Rattle.std.proofs.Common.{◌≡◌, ℕ, ◌-◌, ◌≤◌, List, [], ◌∷◌, ◌++◌, length, reverse, refl, ap, arith, suc}
use Rattle.board_prelude.proofs.{reverse-append, length-append, map-append, get_or_append_left, All-push, Entry, Part}
use Rattle.access_history.specs.declared.packed.PackedReply.{PackedReply}
use Rattle.access_history.specs.declared.packed.PackedEntry.{PackedEntry}
use Rattle.access_history.specs.Packed.{IsHistory, IsWithin, AreWithin, KeepsParts, entry_in, entries_in, reply_in}

within_more : (n m : ℕ) → n ≤ m → (reply : PackedReply) → IsWithin n reply → IsWithin m reply
within_more n m more reply within = grind arith

reply_front : (list more : List Part) (reply : PackedReply) → IsWithin (length list) reply
    → reply_in (list ++ more) reply ≡ reply_in list reply
reply_front list more reply within = grind (arith, get_or_append_left)

-- entries are the same over a list that got more parts
entries_front : (list more : List Part) (entries : List PackedEntry) → AreWithin (length list) entries
    → entries_in (list ++ more) entries ≡ entries_in list entries
entries_front list more [] within = refl
entries_front list more (entry ∷ entries) within =
    rw (
      reply_front list more entry.reply (within 0 entry (omega arith)),
      entries_front list more entries (λ k d less. within (suc k) d (omega (arith, less))),
    ) refl

pub pushed_entries : {new_entries : List PackedEntry} {parts new_parts : List Part} {entry : Entry}
    (entries : List PackedEntry) (packed : PackedEntry) → AreWithin (length parts) entries →
    KeepsParts parts new_parts packed.reply → entry_in new_parts packed ≡ entry → new_entries ≡ entries ++ packed ∷ [] →
    reverse (entries_in new_parts new_entries) ≡ entry ∷ reverse (entries_in parts entries)
pushed_entries {parts = parts} entries packed within kept same new_is =
    grind (arith, map-append, reverse-append, kept, entries_front parts kept.more entries within, new_is)

pub pushed_history : {entries new_entries : List PackedEntry} {parts new_parts : List Part}
    {spare capacity new_capacity room new_room : ℕ} (packed : PackedEntry) →
    IsHistory entries parts spare capacity room → 1 ≤ spare → KeepsParts parts new_parts packed.reply →
    new_entries ≡ entries ++ packed ∷ [] → capacity ≤ new_capacity → room ≤ new_room →
    IsHistory new_entries new_parts (spare - 1) new_capacity new_room
pushed_history {entries} {parts = parts} {new_parts} packed old some kept new_is more_capacity more_room =
    let parts_are = simp length-append at (ap length kept.adds) in
    let entries_are = simp length-append at (ap length new_is) in
    let within = All-push (λ e. IsWithin (length new_parts) e.reply) entries packed
    (λ k d less. within_more (length parts) (length new_parts) (omega (arith, parts_are)) _ (old.within k d less))
    kept.within in
    grind (arith, old, kept, parts_are, entries_are, within)
