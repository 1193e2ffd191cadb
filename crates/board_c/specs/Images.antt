-- How a save ends, in numbers.
use Rattle.std.specs.Prelude.{ℕ, ◌≡◌, ◌<◌, ◌⊎◌, List, length}
use Rattle.machine.specs.Images.{IsWritten}
use Rattle.machine_records.specs.Statuses.{no_memory, no_room}

-- the bytes of an image stand in front of the room, and are counted
abbrev pub IsSaved : (image before after : List ℕ) → (count : ℕ) → Type 0
IsSaved image before after count = IsWritten image before after × (count ≡ length image)

-- there is no memory, and nothing is counted; or they do not fit, but are counted
abbrev pub IsSaveRefusal : (image : List ℕ) → (room status count_before count : ℕ) → Type 0
IsSaveRefusal image room status count_before count =
    ((status ≡ no_memory) × (count ≡ count_before)) ⊎
    ((status ≡ no_room) × (room < length image) × (count ≡ length image))
