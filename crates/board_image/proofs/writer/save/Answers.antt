use Rattle.std.proofs.Common.{arith, ◌≡◌, ℕ, List, ◌++◌, length, append_assoc, map, flat_map, reverse}
use Rattle.std.proofs.lemmas.Bool.Decides.{nat_tests}
use Rattle.board_prelude.proofs.{length-map, length-reverse, Entry, Setup, statement_of, statements_of}
use Rattle.board_image.specs.ImageBytes.{head_bytes, card_bytes, disk_bytes, step_bytes, image_bytes}
use Rattle.board_image.proofs.writer.save.Goals as goal

saved : (setup : Setup) (entries : List Entry) (count : ℕ) (front rom disk steps : List ℕ) → count ≡ length entries →
    front ≡ head_bytes setup count ++ flat_map card_bytes setup.cards → rom ≡ setup.rom → disk ≡ disk_bytes setup →
    steps ≡ flat_map step_bytes (map statement_of (reverse entries)) →
    front ++ (rom ++ (disk ++ steps)) ≡ image_bytes setup (statements_of entries)
unfolding image_bytes
saved setup entries count front rom disk steps counted one two three four =
    grind (arith, nat_tests, append_assoc, length-map, length-reverse)

pub returns : goal.returns
returns c = record { bytes = grind (arith, nat_tests, length-map, length-reverse, append_assoc, saved) }
