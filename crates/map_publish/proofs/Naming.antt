-- The steps on the published copies keep the rule.
use Rattle.std.proofs.Common.{◌≡◌, ℕ, ◌<◌, List, [], ◌∷◌, ◌++◌, fold, set, refl, ◌∙◌, arith, inl, inr}
use mathlib.Core.Option.{some}
use lib.ListN.{get_elem?}
use Rattle.left_right.specs.Register.{Admits, TurnsAt, Turns, Forks, Merges}
use Rattle.atomic_table.proofs.Lists.{at_set, at_snoc}
use Rattle.map_publish.specs.declared.shown.Shown.{Shown}
use Rattle.map_publish.specs.declared.names.Name.{Name}
use Rattle.map_publish.specs.declared.front.Front.{Front}
use Rattle.map_publish.specs.declared.mark.Mark.TheVariants.{Changed}
use Rattle.map_publish.specs.declared.shown.Next.{Next}
use Rattle.map_publish.specs.declared.shown.Next.TheVariants.{Same, Change}
use Rattle.board_spec.specs.declared.map_change.MapChange.{MapChange}
use Rattle.map_publish.specs.Lists.{version_after, IsMapOfLog}
use Rattle.map_publish.specs.Published.{applied}
use Rattle.map_publish.specs.Names.{nobody, KnowsBook, AllKnow, LearnsName, Stays}
use Rattle.std.proofs.lemmas.Bool.Decides.{nat_tests}

nobody_knows : (shown : Shown) → KnowsBook shown nobody
nobody_knows shown named = absurd (cc named)

snoc_holds : (shown : Shown) (views : List Name) (given : Name) → AllKnow shown views → KnowsBook shown given
    → AllKnow shown (views ++ given ∷ [])
snoc_holds shown views given holds knows seat other at =
    grind (arith, at_snoc views given other seat at, holds seat other)

set_holds : (shown next : Shown) (views : List Name) (seat : ℕ) (given : Name) →
    ((j : ℕ) (other : Name) → get_elem? views j ≡ some other → KnowsBook next other) → KnowsBook next given →
    AllKnow next (set views seat given)
set_holds shown next views seat given others knows j other at =
    elim (at_set views seat j given other at) [ inl here ↦ rw here.1 at knows | inr there ↦ others j other there.1 ]

pub admits : Admits AllKnow nobody
admits shown views holds = snoc_holds shown views nobody holds (nobody_knows shown)

-- an entry keeps the seat's name
pub enters : (seat : ℕ) (given : Name) → Turns AllKnow seat given (λ shown. shown) Stays
enters seat given shown views holds at =
    let knows = holds seat given at in (given, set_holds shown shown views seat given holds knows, (refl, knows))

pub forks : (seat : ℕ) (given : Name) → Forks AllKnow seat given given given
forks seat given shown views holds at =
    snoc_holds shown (set views seat given) given (set_holds shown shown views seat given holds (holds seat given at))
    (holds seat given at)

pub merges : (seat : ℕ) (given : Name) (other : ℕ) (told : Name) → Merges AllKnow seat given other told told nobody
merges seat given other told shown views holds at apart there =
    let knows : KnowsBook shown told = elim (at_set views seat other told told there) [
      | inl same ↦ absurd (apart same.0)
      | inr beside ↦ holds other told beside.1
    ] in
    set_holds shown shown (set views seat told) other nobody (set_holds shown shown views seat told holds knows)
    (nobody_knows shown)

-- what is right of what was published is right of what is published next in its place
next_known : (shown next : Shown) → next.front.seen.book ≡ shown.front.seen.book
    → IsMapOfLog next.front.seen.log next.map → (given : Name) → KnowsBook shown given → KnowsBook next given
next_known shown next own map given knows named = record { own = own ∙ (knows named).own; map = map }

-- a change is published after the others
pub publishes : (seat : ℕ) (given : Name) (shown next : Shown) (change : MapChange) (front : Front) (ops : List Next) →
    shown.list.log ≡ shown.front.seen.log → version_after shown.front.seen.log < 4_000_000 →
    front.seen.book ≡ shown.front.seen.book → front.seen.log ≡ shown.front.seen.log ++ Changed change ∷ [] →
    ops ≡ Change change front ∷ [] → (next.list.log, next.front) ≡ fold applied (shown.list.log, shown.front) ops →
    TurnsAt AllKnow seat given shown next Stays
publishes seat given shown next change front ops listed room own added is to views holds at =
    grind (arith, nat_tests, set_holds, next_known)

-- the first publish names the seat
pub begins : (seat : ℕ) (given : Name) (shown next : Shown) (ops : List Next) → shown.list.log ≡ shown.front.seen.log →
    ops ≡ Same ∷ [] → (next.list.log, next.front) ≡ fold applied (shown.list.log, shown.front) ops →
    TurnsAt AllKnow seat given shown next LearnsName
begins seat given shown next ops listed is to views holds at =
    let own : next.front.seen.book ≡ shown.front.seen.book = grind arith in
    let map : IsMapOfLog next.front.seen.log next.map = grind arith in
    grind (arith, set_holds, next_known)
