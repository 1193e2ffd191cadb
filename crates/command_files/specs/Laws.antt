-- What the words and the files ask for.
use Rattle.std.specs.Prelude.{◌≡◌}
use Rattle.command_words.specs.Words.{Command}
use Rattle.command_files.specs.declared.status.Status.{Status}
use Rattle.command_files.specs.Known.{Files}
use Rattle.command_files.specs.Asked.{AsksFor}

-- they ask for at most one status
abbrev pub OneStatus : Type 0
OneStatus =
    (command : Command) (files : Files) (status other : Status) →
    AsksFor command files status → AsksFor command files other → status ≡ other
