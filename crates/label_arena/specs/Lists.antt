-- What an arena is seen as.
use Rattle.std.specs.Prelude.{List, Bool}
use Rattle.label_arena.specs.declared.place.Interval.{Interval}
use Rattle.label_arena.specs.declared.place.Bridge.{Bridge}
use Rattle.label_arena.specs.declared.place.Run.{Run}
use Rattle.label_arena.specs.declared.place.Label.{Label}

-- intervals and what joins them, each in the order of adding
pub record Graph : Type 0 where
  pub intervals : List Interval
  pub bridges : List Bridge
  pub runs : List Run

-- a graph, the labels in the order of adding, and whether the index of its bridges and runs is made
pub record Lists : Type 0 where
  pub graph : Graph
  pub labels : List Label
  pub indexed : Bool
