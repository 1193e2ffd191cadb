-- What an entry in few bytes stands for. The parts of all wide accesses stand in one list.
use Rattle.std.specs.Prelude.{ℕ, ◌≡◌, ◌≤◌, ◌<◌, ◌+◌, ◌*◌, List, [], ◌∷◌, ◌++◌, length, map, slice_index_or, All, Some}
use Rattle.std.specs.Prelude.{None}
use Rattle.board_prelude.specs.{Abort, Entry, Part, Parts, Reply, Two, Three, Four}
use Rattle.board_spec.specs.declared.event.Reply.TheVariants as AReply
use Rattle.board_spec.specs.Limits.{entry_limit}
use Rattle.access_history.specs.declared.packed.Count.{Count}
use Rattle.access_history.specs.declared.packed.Count.TheVariants as ACount
use Rattle.access_history.specs.declared.packed.PackedReply.{PackedReply}
use Rattle.access_history.specs.declared.packed.PackedReply.TheVariants.{Read, Wrote, ReadParts, WroteParts, Saw}
use Rattle.access_history.specs.declared.packed.PackedEntry.{PackedEntry}

-- how many parts there are
abbrev pub number_in : Count → ℕ
number_in ACount.Two = 2
number_in ACount.Three = 3
number_in ACount.Four = 4

-- what stands past the end of the list
abbrev pub nothing : Part
nothing = record { target = Abort; denial = None }

-- the parts of one wide access: those from a place on
abbrev pub parts_at : List Part → Count → (first : ℕ) → Parts
parts_at list ACount.Two first = Two (slice_index_or list first nothing) (slice_index_or list (first + 1) nothing)
parts_at list ACount.Three first =
    Three (slice_index_or list first nothing) (slice_index_or list (first + 1) nothing)
    (slice_index_or list (first + 2) nothing)
parts_at list ACount.Four first =
    Four (slice_index_or list first nothing) (slice_index_or list (first + 1) nothing)
    (slice_index_or list (first + 2) nothing) (slice_index_or list (first + 3) nothing)

abbrev pub reply_in : List Part → PackedReply → Reply
reply_in list (Read denial target value) = AReply.Bus (Some value) target denial
reply_in list (Wrote denial target) = AReply.Bus None target denial
reply_in list (ReadParts count first value) = AReply.Parts (parts_at list count first) (Some value)
reply_in list (WroteParts count first) = AReply.Parts (parts_at list count first) None
reply_in list (Saw area version lo hi) =
    AReply.Saw (record { version = version; lo = lo; hi = hi; area = area })

abbrev pub entry_in : List Part → PackedEntry → Entry
entry_in list packed =
    record {
      actor = packed.actor;
      seq = packed.seq;
      event = packed.event;
      reply = reply_in list packed.reply;
    }

-- all of them, in the same order
abbrev pub entries_in : List Part → List PackedEntry → List Entry
entries_in list entries = map (entry_in list) entries

-- the parts of a wide access as a list, and how many they are
abbrev pub list_of : Parts → List Part
list_of (Two first second) = first ∷ second ∷ []
list_of (Three first second third) = first ∷ second ∷ third ∷ []
list_of (Four first second third fourth) = first ∷ second ∷ third ∷ fourth ∷ []

abbrev pub count_of : Parts → Count
count_of (Two first second) = ACount.Two
count_of (Three first second third) = ACount.Three
count_of (Four first second third fourth) = ACount.Four

-- the parts of a reply are among the first `n` of the list
abbrev pub IsWithin : (n : ℕ) → PackedReply → Type 0
IsWithin n (ReadParts count first value) = first + number_in count ≤ n
IsWithin n (WroteParts count first) = first + number_in count ≤ n
IsWithin n _ = Unit {0}

-- the same of each entry
abbrev pub AreWithin : (n : ℕ) → List PackedEntry → Type 0
AreWithin n entries = All (λ entry. IsWithin n entry.reply) entries

-- the list got the parts of a reply, at most four, after those that it had
pub record KeepsParts (old new : List Part) (reply : PackedReply) : Type 0 where
  pub more : List Part
  pub adds : new ≡ old ++ more
  pub few : length more ≤ 4
  pub within : IsWithin (length new) reply

-- a history has room for its entries and for those to come, each with four parts
pub record IsHistory (entries : List PackedEntry) (parts : List Part) (spare capacity room_for_parts : ℕ) : Type 0 where
  pub within : AreWithin (length parts) entries
  pub room : length entries + spare ≤ capacity
  pub parts_room : length parts + 4 * spare ≤ room_for_parts
  pub few : length entries + spare < entry_limit
  pub few_parts : length parts ≤ 4 * length entries
