use Rattle.std.proofs.Common.{◌≡◌, ℕ, Option, List, refl, ◌↔◌, Result, Ok, Err, OnOk}
use Rattle.board_spec.specs.Setup.{IsDisk}
use Rattle.board_chipset.specs.declared.setup.BoardOpen.{BoardOpen}
use Rattle.board_chipset.specs.declared.setup.BoardOpen.TheVariants.{BadDisk}
use Rattle.board_chipset.proofs.Openings.{disk_opened}
use Rattle.command_texts.proofs.board.open_board.Goals as goal

-- a board that was opened has a disk of whole sectors, or none
opened_disk : {T : Type 0} (result : Result T BoardOpen) (Fits : Type 0) (disk : Option (List ℕ)) → Fits →
    (result ≡ Err BadDisk) ↔ (Fits × ¬ IsDisk disk) → OnOk result (IsDisk disk)
opened_disk (Ok board) Fits disk fits bad =
    disk_opened disk disk (Ok board) board
    ((λ no. absurd (cc)), (λ none. let no : Ok board ≡ Err BadDisk = bad.1 (fits, none) in absurd (cc)))
    refl refl
opened_disk (Err fault) Fits disk fits bad = tt

pub returns-clause-disk : goal.returns-clause-disk
returns-clause-disk c = opened_disk c.open.result _ _ c.requires.size c.open.ensures.bad_disk
