-- What each of a list says, one after another.
use Rattle.std.proofs.Common.{List, ◌++◌, Option, option_map}

-- what was said so far, before what is still to be said
abbrev pub after_these : {B : Type 0} → List B → Option (List B) → Option (List B)
after_these done later = option_map (λ others. done ++ others) later
