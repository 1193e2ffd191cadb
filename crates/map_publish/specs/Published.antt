-- How a copy of the map takes in what is published next.
use Rattle.std.specs.Prelude.{List}
use Rattle.map_publish.specs.declared.front.Front.{Front}
use Rattle.map_publish.specs.declared.mark.Mark.{Mark}
use Rattle.map_publish.specs.declared.shown.Next.{Next}
use Rattle.map_publish.specs.declared.shown.Next.TheVariants.{Same, Change}
use Rattle.map_publish.specs.Lists.{with_change}

-- what the copies have in common: the list of the map, and the list that viewers learn
abbrev pub applied : List Mark × Front → Next → List Mark × Front
applied state Same = state
applied state (Change change front) = (with_change state.0 change, front)
