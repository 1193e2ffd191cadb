-- What a pass knows, and how its view changes.
use Rattle.std.specs.Prelude.{ℕ, ◌+◌, ◌==◌, List, [], ◌∷◌, ◌++◌, filter, Some, None}
use Rattle.bus_turn.specs.declared.view.View.{View}
use Rattle.bus_turn.specs.declared.view.Stage.{Stage}
use Rattle.bus_turn.specs.declared.view.Stage.TheVariants.{Idle, Spent}

-- the entries of one caller
abbrev pub own_by : {E : Type 0} → (E → ℕ) → ℕ → List E → List E
own_by actor number entries = filter (λ e. actor e == number) entries

module _ {E F : Type 0} where
  -- the pass of `open`, over the list and the fixed part of the opened value
  abbrev pub starting : List E → F → View E F
  starting entries fixed = record {
    number = 0;
    stage = Idle;
    splits = 0;
    opened = entries;
    fixed = Some fixed;
    seen =
        entries;
    told = [];
    mine = [];
    joined = [];
  }

  -- what is left of a pass that was joined into another
  abbrev pub spent : View E F
  spent = record {
    number = 0;
    stage = Spent;
    splits = 0;
    opened = [];
    fixed = None;
    seen = [];
    told = [];
    mine = [];
    joined = [];
  }

  abbrev pub staged : View E F → Stage → View E F
  staged v stage = record v { stage = stage }

  -- the whole list was seen
  abbrev pub sees : View E F → Stage → List E → View E F
  sees v stage list = record v { stage = stage; seen = list; told = [] }

  abbrev pub commits : View E F → List E → View E F
  commits v added = record v { seen = v.seen ++ added; mine = v.mine ++ added }

  abbrev pub after_split : View E F → View E F
  after_split v = record v { splits = v.splits + 1 }

  abbrev pub split_off : View E F → View E F
  split_off v = record {
    number = v.splits + 1;
    stage = Idle;
    splits = 0;
    opened = v.opened;
    fixed = v.fixed;
    seen =
        v.seen;
    told = [];
    mine = [];
    joined = [];
  }

  abbrev pub with_joined : View E F → View E F → View E F
  with_joined v w = record v { told = w.seen; joined = v.joined ++ (w.number, w.mine) ∷ w.joined }
