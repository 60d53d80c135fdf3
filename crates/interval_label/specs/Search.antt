-- What the steps of a search do.
use Rattle.std.specs.Prelude.{◌≡◌, ◌⊎◌, ℕ, ◌+◌, ◌≤◌, ◌<◌, ◌^◌, ℤ, ◌≤ℤ◌, Option, Some, List, slice_get, Contains, All}
use Rattle.std.specs.Int.{int_min, int_max}
use Rattle.label_arena.specs.declared.place.Place.{Place}
use Rattle.label_arena.specs.declared.place.Label.{Label}
use Rattle.label_arena.specs.declared.place.LabelNo.{LabelNo}
use Rattle.label_arena.specs.declared.place.IntervalNo.{IntervalNo}
use Rattle.label_arena.specs.declared.place.Run.{Run}
use Rattle.label_arena.specs.declared.place.By.{By}
use Rattle.label_arena.specs.declared.place.By.TheVariants.{Source, Slide, Point, Run as OverRun}
use Rattle.label_arena.specs.Lists.{Graph}
use Rattle.label_arena.specs.Plain.{factor_at, slide, IsInside, IsPointWay, IsRunWay, IsJoined}
use Rattle.label_arena.specs.Marks.{IsBridgeEnd, IsRunEnd}
use Rattle.label_arena.specs.Traces.{IsSomeRun}
use Rattle.interval_label.specs.Task.{Stop, IsPriced, IsBounded}
use Rattle.interval_label.specs.Known.{Rows, IsKnown}
use Rattle.interval_label.specs.Queue.{Queued, IsWaiting, IsWithOneMore, Gains, Loses}
use Rattle.interval_label.specs.declared.search.Search.{Search}
use Rattle.interval_label.specs.declared.search.Best.{Best}

-- what every step takes of the arena and the bound
pub record IsField (g : Graph) (b : Place → ℕ) : Type 0 where
  pub joined : IsJoined g
  pub priced : IsPriced g
  pub bounded : IsBounded g b

-- a label of v's interval explains v at c or less
pub record IsExplained (g : Graph) (ls : List Label) (v : Place) (c : ℕ) : Type 0 where
  pub number : ℕ
  pub label : Label
  pub is : slice_get ls number ≡ Some label
  pub one_interval : label.place.interval ≡ v.interval
  pub cheap : label.dist + slide g label.place v.coord ≤ c

-- label `by`, where there is one, explains a candidate of its interval
abbrev pub IsExplainedBy : Graph → List Label → Option LabelNo → Label → Type 0
IsExplainedBy g ls by y = (n : LabelNo) × (by ≡ Some n) × ((x : Label) × (slice_get ls n.0 ≡ Some x) × (x.dist + slide g x.place y.place.coord ≤ y.dist))

-- label `by`, where there is one, stands on the place's interval
abbrev pub IsOn : List Label → Place → Option LabelNo → Type 0
IsOn ls v by = (n : LabelNo) → by ≡ Some n → (x : Label) × (slice_get ls n.0 ≡ Some x) × (x.place.interval ≡ v.interval)

-- no label of an interval is dearer than the slide from another one
pub record AreSettled (g : Graph) (ls : List Label) : Type 0 where
  pub inside : (k : ℕ) (x : Label) → slice_get ls k ≡ Some x → IsInside g x.place
  pub small : (k : ℕ) (x : Label) → slice_get ls k ≡ Some x → x.dist < 2 ^ 62
  pub smooth : (j k : ℕ) (x y : Label) → slice_get ls j ≡ Some x → slice_get ls k ≡ Some y → x.place.interval ≡ y.place.interval → y.dist ≤ x.dist + slide g x.place y.place.coord

-- one candidate more
pub record Waits (b : Place → ℕ) (old new : Search) (x : Label) : Type 0 where
  pub best : new.best ≡ old.best
  pub floor : new.queue.floor ≡ old.queue.floor
  pub queue : IsWithOneMore (x.dist + b x.place, x) old.queue.pairs new.queue.pairs

-- the way that `by` names
abbrev pub WayBy : Graph → By → Place → Place → ℕ → Type 0
WayBy g (Source k) u v c = ⊥
WayBy g Slide u v c = ⊥
WayBy g (Point k) u v c = IsPointWay g k u v c
WayBy g OverRun u v c = IsSomeRun g u v c

-- what is crossed from x at `near` leads to a mark where x stands at one
abbrev pub LeadsToMark : Graph → Option Rows → Label → Place → Place → Type 0
LeadsToMark g known x near far = IsBridgeEnd g far ⊎ IsRunEnd g far ⊎ ((near ≡ x.place) × ((c : ℕ) × IsSomeRun g near far c)) ⊎ IsKnown known far

-- a candidate that label n leads to, with its key
pub record IsCrossed (g : Graph) (b : Place → ℕ) (known : Option Rows) (n : LabelNo) (x : Label) (d : ℕ) (y : Label) : Type 0 where
  pub near : Place
  pub cost : ℕ
  pub key : d ≡ y.dist + b y.place
  pub near_in : IsInside g near
  pub far_in : IsInside g y.place
  pub one_interval : x.place.interval ≡ near.interval
  pub way : WayBy g y.by near y.place cost
  pub dist : y.dist ≡ x.dist + slide g x.place near.coord + cost
  pub origin : y.origin ≡ Some n
  pub mark : LeadsToMark g known x near y.place

-- candidates that label n leads to, and nothing else, are added
pub record Grows (g : Graph) (b : Place → ℕ) (known : Option Rows) (n : LabelNo) (x : Label) (old new : Search) : Type 0 where
  pub best : new.best ≡ old.best
  pub floor : new.queue.floor ≡ old.queue.floor
  pub queue : Gains (IsCrossed g b known n x) old.queue.pairs new.queue.pairs

-- what leads from the label's interval over this way waits
abbrev pub Crosses : Graph → Search → Label → Place → Place → ℕ → Type 0
Crosses g s x near far c = x.place.interval ≡ near.interval → IsWaiting s.queue.pairs far (x.dist + slide g x.place near.coord + c)

-- what a crossing takes
pub record CanCross (g : Graph) (b : Place → ℕ) (known : Option Rows) (s : Search) (x : Label) (near far : Place) (c : ℕ) (by : By) : Type 0 where
  pub label_in : IsInside g x.place
  pub small : x.dist < 2 ^ 62
  pub floor : s.queue.floor ≤ x.dist + b x.place
  pub near_in : IsInside g near
  pub far_in : IsInside g far
  pub way : WayBy g by near far c
  pub mark : x.place.interval ≡ near.interval → LeadsToMark g known x near far

-- a label from which ways are crossed
pub record CanSpread (g : Graph) (b : Place → ℕ) (s : Search) (x : Label) : Type 0 where
  pub label_in : IsInside g x.place
  pub small : x.dist < 2 ^ 62
  pub floor : s.queue.floor ≤ x.dist + b x.place

-- a coordinate, or the end of a span next to it
abbrev pub clamped : ℤ → ℤ → ℤ → ℤ
clamped low high x = int_max low (int_min x high)

-- all that a label leads to over point bridge k waits
abbrev pub CoversPoint : Graph → Queued → Label → ℕ → Type 0
CoversPoint g q x k = (u v : Place) (c : ℕ) → IsPointWay g k u v c → x.place.interval ≡ u.interval → IsWaiting q v (x.dist + slide g x.place u.coord + c)

-- a run is crossed at the coordinate of its span that is next to the label, and onto a larger factor at each known mark
abbrev pub IsCrossing : (g : Graph) (known : Option Rows) (x : Label) (k : ℕ) (u v : Place) (c : ℕ) → IsRunWay g k u v c → Type 0
IsCrossing g known x k u v c y = (u.coord ≡ clamped y.run.span.lo y.run.span.hi x.place.coord) ⊎ ((factor_at g u.interval.0 < factor_at g v.interval.0) × IsKnown known v)

-- run k, from one of its intervals onto the other
pub record IsRunFrom (g : Graph) (k : ℕ) (run : Run) (from to : IntervalNo) : Type 0 where
  pub at : slice_get g.runs k ≡ Some run
  pub ends : ((from ≡ run.a) × (to ≡ run.b)) ⊎ ((from ≡ run.b) × (to ≡ run.a))

-- what a label leads to at this coordinate of the span waits
abbrev pub ClimbsAt : Graph → Queued → Label → Run → IntervalNo → IntervalNo → ℤ → Type 0
ClimbsAt g q x run from to z = run.span.lo ≤ℤ z → z ≤ℤ run.span.hi → x.place.interval ≡ from → IsWaiting q (record { interval = to; coord = z }) (x.dist + slide g x.place z + run.cost)

-- where the far factor is larger, what a label leads to at each known mark of the span waits
abbrev pub Climbs : Graph → Option Rows → Queued → Label → Run → IntervalNo → IntervalNo → Type 0
Climbs g known q x run from to = factor_at g from.0 < factor_at g to.0 → x.place.interval ≡ from → (z : ℤ) → run.span.lo ≤ℤ z → z ≤ℤ run.span.hi → IsKnown known (record { interval = to; coord = z }) → IsWaiting q (record { interval = to; coord = z }) (x.dist + slide g x.place z + run.cost)

-- all that a label leads to over run k at its crossings from one interval onto the other waits
abbrev pub CoversFrom : Graph → Option Rows → Queued → Label → ℕ → IntervalNo → IntervalNo → Type 0
CoversFrom g known q x k from to = (u v : Place) (c : ℕ) (y : IsRunWay g k u v c) → IsCrossing g known x k u v c y → u.interval ≡ from → v.interval ≡ to → x.place.interval ≡ u.interval → IsWaiting q v (x.dist + slide g x.place u.coord + c)

-- all that a label leads to over run k at its crossings waits
abbrev pub CoversRun : Graph → Option Rows → Queued → Label → ℕ → Type 0
CoversRun g known q x k = (u v : Place) (c : ℕ) (y : IsRunWay g k u v c) → IsCrossing g known x k u v c y → x.place.interval ≡ u.interval → IsWaiting q v (x.dist + slide g x.place u.coord + c)

-- all that a label leads to waits
pub record Spreads (g : Graph) (known : Option Rows) (q : Queued) (x : Label) : Type 0 where
  pub points : (k : ℕ) → CoversPoint g q x k
  pub runs : (k : ℕ) → CoversRun g known q x k

-- a best of at most d
abbrev pub IsReached : Option Best → ℕ → Type 0
IsReached best d = (r : Best) × (best ≡ Some r) × (r.cost ≤ d)

abbrev pub ExplainedIn : Graph → List Label → Label → Type 0
ExplainedIn g ls y = IsExplained g ls y.place y.dist

-- y is taken out with its key, of which no other is less, after some that labels explain
pub record Takes (g : Graph) (ls : List Label) (old new : Search) (y : Label) : Type 0 where
  pub best : new.best ≡ old.best
  pub key : ℕ
  pub queue : Queued
  pub loses : Loses (ExplainedIn g ls) old.queue.pairs queue
  pub taken : IsWithOneMore (key, y) new.queue.pairs queue
  pub least : All (λ (f : ℕ × Label). key ≤ f.0) queue
  pub floor : new.queue.floor ≡ key
  pub fresh : IsExplained g ls y.place y.dist → ⊥
  pub below : (r : Best) → old.best ≡ Some r → key ≤ r.cost

-- every key is at least the best
abbrev pub IsBeyond : Option Best → Queued → Type 0
IsBeyond best q = (d : ℕ) (y : Label) → Contains q (d, y) → IsReached best d

-- nothing is left that could lead on, after some that labels explain
pub record Ends (g : Graph) (ls : List Label) (old new : Search) : Type 0 where
  pub best : new.best ≡ old.best
  pub queue : Queued
  pub loses : Loses (ExplainedIn g ls) old.queue.pairs queue
  pub beyond : IsBeyond old.best queue

-- the slide of a label to target k, with the target's own cost
pub record IsSlideTo (g : Graph) (targets : List Stop) (x : Label) (k c : ℕ) : Type 0 where
  pub target : Stop
  pub at : slice_get targets k ≡ Some target
  pub one_interval : x.place.interval ≡ target.0.interval
  pub cost : c ≡ x.dist + slide g x.place target.0.coord + target.1

-- one of both, and no dearer than either
pub record IsCheaper (best : Option Best) (next result : Best) : Type 0 where
  pub from : (result ≡ next) ⊎ (best ≡ Some result)
  pub no_dearer : result.cost ≤ next.cost
  pub no_dearer_than_best : (b : Best) → best ≡ Some b → result.cost ≤ b.cost

-- the best with the slides of label x to the targets of these numbers
pub record IsImproved (g : Graph) (targets : List Stop) (x : Label) (number : ℕ) (Numbers : ℕ → Type 0) (old new : Option Best) : Type 0 where
  pub from : (r : Best) → new ≡ Some r → (old ≡ Some r) ⊎ ((r.number ≡ number) × IsSlideTo g targets x r.target r.cost)
  pub keeps : (o : Best) → old ≡ Some o → IsReached new o.cost
  pub covers : (k c : ℕ) → Numbers k → IsSlideTo g targets x k c → IsReached new c
