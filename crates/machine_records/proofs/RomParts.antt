-- Which part moved a byte, and the cards one after another; and replies where no ROM was given bytes.
use Rattle.std.proofs.Common.{arith, ◌≡◌, ℕ, ◌+◌, ◌-◌, ◌<◌, ◌≤◌, List, [], length, drop, get_or}
use Rattle.std.proofs.Common.{Some, None, refl, sym}
use Rattle.board_prelude.proofs.{nat_tests, drop_all, le-ltb, lt-ltb, bytes_of, longest_at, drop_more}
use Rattle.machine_records.specs.declared.event.EventRecord.{EventRecord}
use Rattle.machine_records.specs.declared.reply.PartRecord.{PartRecord}
use Rattle.machine_records.specs.declared.reply.ReplyRecord.{ReplyRecord}
use Rattle.machine_records.specs.Replies.{no_part}
use Rattle.machine_records.specs.RomReplies.{part_of, with_roms}

pub part_here : (parts : List PartRecord) (index addr bytes before place : ℕ) (last : PartRecord) (count left : ℕ) →
    index < length parts → left ≡ bytes - before → count ≡ bytes_of (longest_at (addr + before) left) →
    place < before + count →
    part_of (drop index parts) addr bytes before place ≡ Some (get_or parts index last, place - before)
unfolding part_of
part_here parts index addr bytes before place last count left within is_left is_count below =
    let is : bytes_of (longest_at (addr + before) (bytes - before)) ≡ count = sym (rw is_left at is_count) in
    rw (drop_more parts index last within, is, lt-ltb place (before + count) below) refl

pub part_later : (parts : List PartRecord) (index addr bytes before place : ℕ) (count left : ℕ) →
    index < length parts → left ≡ bytes - before → count ≡ bytes_of (longest_at (addr + before) left) →
    before + count ≤ place →
    part_of (drop index parts) addr bytes before place ≡ part_of (drop (index + 1) parts) addr bytes
    (before + count) place
unfolding part_of
part_later parts index addr bytes before place count left within is_left is_count past =
    let is : bytes_of (longest_at (addr + before) (bytes - before)) ≡ count = sym (rw is_left at is_count) in
    rw (drop_more parts index no_part within, is, le-ltb place (before + count) past) refl

pub no_part_left : (parts : List PartRecord) (index addr bytes before place : ℕ) → length parts ≤ index →
    part_of (drop index parts) addr bytes before place ≡ None
unfolding part_of
no_part_left parts index addr bytes before place past = rw (drop_all index parts past) refl

-- ---- no ROM was given any

pub none_with : (event : EventRecord) (said : ReplyRecord) → with_roms [] event said ≡ said
none_with event said = grind (arith, nat_tests)
