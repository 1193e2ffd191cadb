-- What a reader refuses, held against what the text says.
use Rattle.std.specs.Prelude.{ℕ}
use Rattle.scripts.specs.declared.fault.Reason.{Reason}
use Rattle.scripts.specs.declared.fault.Reason.TheVariants.{NoVersion, TooLong, NoForm, Misplaced, Repeated}
use Rattle.scripts.specs.declared.fault.Reason.TheVariants.{NoSetup, OutOfRange, NotPlaced, NotThere, PastLimit}
use Rattle.scripts.specs.declared.fault.ScriptFault.{ScriptFault}
use Rattle.scripts.specs.declared.fault.ScriptFault.TheVariants.{Bad, NoMemory}

-- the numbers of the reasons, as the definitions have them
abbrev pub number_of : Reason → ℕ
number_of NoVersion = 1
number_of TooLong = 2
number_of NoForm = 3
number_of Misplaced = 4
number_of Repeated = 5
number_of NoSetup = 6
number_of OutOfRange = 7
number_of NotPlaced = 8
number_of NotThere = 9
number_of PastLimit = 10

-- where a fault names a line and a reason, they are such. Want of memory says nothing of the text
abbrev pub OnBad : ScriptFault → (ℕ → ℕ → Type 0) → Type 0
OnBad (Bad line why) P = P line why
OnBad NoMemory P = Unit {0}
