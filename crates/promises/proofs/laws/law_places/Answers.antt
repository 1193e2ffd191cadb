use Rattle.promises.proofs.LookPlaces.{places_are_those}
use Rattle.promises.proofs.laws.law_places.Goals as goal

pub returns : goal.returns
returns c = record { same = places_are_those }
