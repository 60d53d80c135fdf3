-- Hulls that grow by a rectangle at a time, nets with their extents, and nets that are taken next.
use Rattle.std.specs.Prelude.{◌≡◌, ◌⊎◌, ℕ, ◌<◌, List, ◌++◌, fold, Option, Some, None, All, AllPairs, Contains}
use Rattle.std.specs.List.Sorted.{IsPermutation}
use Rattle.rt_base.specs.Sides.{Sides}
use Rattle.rt_base.specs.Geometry.{hull_of_sides}
use Rattle.track_graph.specs.declared.design.Design.{Design}
use Rattle.track_graph.specs.declared.design.Pin.{Pin}
use Rattle.track_graph.specs.Histories.{IsRoutable}
use Rattle.track_graph.specs.Metal.{Metal}
use Rattle.track_graph.specs.Orders.{net_extent, IsBefore}

-- the hull of a rectangle and of what there is already
abbrev pub with_sides : Option Sides → Sides → Sides
with_sides None s = s
with_sides (Some hull) s = hull_of_sides hull s

abbrev pub with_rect : Option Sides → Metal → Option Sides
with_rect hull m = Some (with_sides hull m.1)

abbrev pub with_pin : Option Sides → Pin → Option Sides
with_pin hull pin = fold with_rect hull pin.rects

-- an extent and a number of a routable net below this one
pub record IsRank (d : Design) (past : ℕ) (rank : ℕ × ℕ) : Type 0 where
  pub below : rank.1 < past
  pub routable : IsRoutable d rank.1
  pub extent : rank.0 ≡ net_extent d rank.1

-- each routable net below this number with its extent, in the order of their numbers
pub record AreRanked (d : Design) (past : ℕ) (ranks : List (ℕ × ℕ)) : Type 0 where
  pub only : All (IsRank d past) ranks
  pub has : (n : ℕ) → n < past → IsRoutable d n → Contains ranks (net_extent d n, n)
  pub ascending : AllPairs (λ a b. a.1 < b.1) ranks

-- a net behind its extent
abbrev pub rank_of : Design → ℕ → ℕ × ℕ
rank_of d n = (net_extent d n, n)

-- net m is taken before net n, or is n
abbrev pub IsBeforeOrSame : Design → ℕ → ℕ → Type 0
IsBeforeOrSame d m n = IsBefore d m n ⊎ (m ≡ n)

-- the same nets, the last one in the order of nets first
pub record IsLastFirst (d : Design) (nets sorted : List ℕ) : Type 0 where
  pub same : IsPermutation nets sorted
  pub order : AllPairs (λ a b. IsBeforeOrSame d b a) sorted

-- of the nets that are to be taken, the last one next: these are put behind those before, to come in the order of nets
pub record AreTakenNext (d : Design) (nets todo before : List ℕ) : Type 0 where
  pub later : List ℕ
  pub whole : todo ≡ before ++ later
  pub in_order : IsLastFirst d nets later
