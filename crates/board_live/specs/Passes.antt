-- What a caller knows. Histories and map writes have the newest first. The passes are of a shared board of any kind.
use Rattle.std.specs.Prelude.{ℕ, ◌≡◌, ◌+◌, ◌<◌, List, [], ◌++◌, reverse, Option, Some}
use Rattle.atomic_table.specs.declared.shared.Seat.{Seat}
use Rattle.logbook.specs.Pages.{Book}
use Rattle.bus_turn.specs.declared.view.View.{View}
use Rattle.bus_turn.specs.Passes.{number_of, splits_of, opened_of, part_of, seen_of, mine_of, joined_of}
use Rattle.bus_turn.specs.Views.{own_by}
use Rattle.board_prelude.specs.{Entry, Setup}
use Rattle.board_live.specs.declared.shared.Origin.{Origin}
use Rattle.map_publish.specs.declared.viewer.Viewer.{Viewer}
use Rattle.map_publish.specs.Lists.{opened_of as opened_map, changes_of}
use Rattle.board_live.specs.Known.{IsMapOpened}
use Rattle.board_live.specs.Origins.{origin, origin_in}

abbrev pub SharedPass : Type 0 → Type 0
SharedPass T = Seat (Option T) (View Entry Origin)

module _ {T : Type 0} where
  -- the setup of the board
  abbrev pub setup_in : SharedPass T → Setup
  setup_in pass = (origin_in (part_of pass)).setup

  -- how many callers there are
  abbrev pub callers_in : SharedPass T → ℕ
  callers_in pass = (origin_in (part_of pass)).callers

  -- the history of the board that was opened
  abbrev pub opened_in : SharedPass T → List Entry
  opened_in pass = reverse (opened_of pass)

  -- a pass of the caller of this number, for these published copies
  pub record IsPassOf (actor : ℕ) (book : Book) (pass : SharedPass T) : Type 0 where
    pub number : number_of pass ≡ actor
    pub caller : actor < callers_in pass
    pub part : part_of pass ≡ Some (origin (setup_in pass) (callers_in pass) (opened_in pass) book)
    pub mine : own_by (λ (entry : Entry). entry.actor) actor (seen_of pass)
        ≡ own_by (λ (entry : Entry). entry.actor) actor (opened_of pass) ++ mine_of pass
    pub splits : actor ≡ 0 → splits_of pass + 1 ≡ callers_in pass
    pub joined : joined_of pass ≡ []

  -- a pass that has seen what was opened, and has added nothing
  pub record IsFresh (pass : SharedPass T) : Type 0 where
    pub seen : seen_of pass ≡ opened_of pass
    pub mine : mine_of pass ≡ []
    pub joined : joined_of pass ≡ []

  -- a viewer that was opened with the board of a pass
  pub record IsViewerFor (pass : SharedPass T) (viewer : Viewer) : Type 0 where
    pub part : part_of pass ≡ Some (origin (setup_in pass) (callers_in pass) (opened_in pass) viewer.front.seen.book)
    pub opens : IsMapOpened (setup_in pass) (opened_in pass) (opened_map viewer.front.seen.log)
    pub none : changes_of viewer.front.seen.log ≡ []
