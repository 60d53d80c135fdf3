-- What holds between two steps of a search.
use Rattle.std.specs.Prelude.{◌≡◌, ◌⊎◌, ℕ, ◌+◌, ◌*◌, ◌≤◌, ◌<◌, Option, None, Some, List, slice_get, Contains, length, sum_by}
use Rattle.label_arena.specs.declared.place.Place.{Place}
use Rattle.label_arena.specs.declared.place.Interval.{Interval}
use Rattle.label_arena.specs.declared.place.Label.{Label}
use Rattle.label_arena.specs.declared.place.LabelNo.{LabelNo}
use Rattle.label_arena.specs.declared.place.By.TheVariants.{Source}
use Rattle.label_arena.specs.Lists.{Graph}
use Rattle.label_arena.specs.Plain.{gap, slide, IsInside, IsPointWay, IsRunWay, Reaches}
use Rattle.label_arena.specs.Marks.{IsMark}
use Rattle.label_arena.specs.Traces.{IsTraced}
use Rattle.interval_label.specs.Task.{Stop, AreStops, EndsAt, AreNear}
use Rattle.interval_label.specs.Answers.{AreApart}
use Rattle.interval_label.specs.Known.{Rows, KnowsMarks, HoldStops}
use Rattle.interval_label.specs.Queue.{Queued, IsWaiting, Gains}
use Rattle.interval_label.specs.Search.{IsField, IsExplained, IsCrossing, IsSlideTo, IsReached, IsImproved, IsCrossed, Spreads, IsBeyond}
use Rattle.interval_label.specs.declared.search.Best.{Best}
use Rattle.interval_label.specs.declared.search.Search.{Search}

abbrev pub IsCovered : Graph → List Label → Queued → Place → ℕ → Type 0
IsCovered g ls q v c = IsExplained g ls v c ⊎ IsWaiting q v c

-- label x with number n stands at a mark, has its origin and a walk of its distance
pub record IsLabel (g : Graph) (sources targets : List Stop) (ls : List Label) (n : ℕ) (x : Label) : Type 0 where
  pub inside : IsInside g x.place
  pub mark : IsMark g sources targets x.place
  pub traced : IsTraced g ls n x
  pub source : (k : ℕ) → x.by ≡ Source k → slice_get sources k ≡ Some (x.place, x.dist)
  pub reached : Reaches g sources x.place x.dist

pub record IsState (g : Graph) (sources targets : List Stop) (b : Place → ℕ) (ls : List Label) (q : Queued) : Type 0 where
  pub labels : (k : ℕ) (x : Label) → slice_get ls k ≡ Some x → IsLabel g sources targets ls k x
  pub least : (k : ℕ) (x : Label) → slice_get ls k ≡ Some x → (c : ℕ) → Reaches g sources x.place c → x.dist ≤ c
  pub waits : (d : ℕ) (x : Label) → Contains q (d, x) → IsLabel g sources targets ls (length ls) x
  pub keys : (d : ℕ) (x : Label) → Contains q (d, x) → d ≡ x.dist + b x.place

-- all that a label reaches over point bridge k is covered
abbrev pub PointCovered : Graph → List Label → Queued → Label → ℕ → Type 0
PointCovered g ls q x k = (u v : Place) (c : ℕ) → IsPointWay g k u v c → x.place.interval ≡ u.interval → IsCovered g ls q v (x.dist + slide g x.place u.coord + c)

-- all that a label reaches over run k at its crossings is covered
abbrev pub RunCovered : Graph → Option Rows → List Label → Queued → Label → ℕ → Type 0
RunCovered g known ls q x k = (u v : Place) (c : ℕ) (y : IsRunWay g k u v c) → IsCrossing g known x k u v c y → x.place.interval ≡ u.interval → IsCovered g ls q v (x.dist + slide g x.place u.coord + c)

pub record IsSpread (g : Graph) (known : Option Rows) (ls : List Label) (q : Queued) (x : Label) : Type 0 where
  pub points : (k : ℕ) → PointCovered g ls q x k
  pub runs : (k : ℕ) → RunCovered g known ls q x k

-- each source, and what each label reaches, is covered
pub record IsSound (g : Graph) (sources targets : List Stop) (b : Place → ℕ) (known : Option Rows) (ls : List Label) (q : Queued) : Type 0 where
  pub state : IsState g sources targets b ls q
  pub sources_in : (s : Stop) → Contains sources s → IsCovered g ls q s.0 s.1
  pub spread : (k : ℕ) (x : Label) → slice_get ls k ≡ Some x → IsSpread g known ls q x

-- what the whole search takes
pub record IsTask (g : Graph) (sources targets : List Stop) (b : Place → ℕ) (known : Option Rows) (stops : List (List ℕ)) : Type 0 where
  pub field : IsField g b
  pub sources_are : AreStops g sources
  pub targets_are : AreStops g targets
  pub ends : EndsAt b targets
  pub near : AreNear g sources
  pub knows : KnowsMarks g sources targets known
  pub stops_are : HoldStops g targets stops

-- the slide of label n to target k, with the target's own cost
abbrev pub IsOffer : Graph → List Stop → List Label → ℕ → ℕ → ℕ → Type 0
IsOffer g targets ls n k c = (x : Label) × (slice_get ls n ≡ Some x) × IsSlideTo g targets x k c

-- each best is an offer, and each offer is met
pub record IsBestOf (Offer : ℕ → ℕ → ℕ → Type 0) (best : Option Best) : Type 0 where
  pub from : (r : Best) → best ≡ Some r → Offer r.number r.target r.cost
  pub least : (n k c : ℕ) → Offer n k c → IsReached best c

-- the search between two steps
pub record IsRunning (g : Graph) (sources targets : List Stop) (b : Place → ℕ) (known : Option Rows) (ls : List Label) (q : Queued) (best : Option Best) : Type 0 where
  pub sound : IsSound g sources targets b known ls q
  pub offers : IsBestOf (IsOffer g targets ls) best
  pub ordered : (i : ℕ) (y : Label) → slice_get ls i ≡ Some y → ((d : ℕ) (z : Label) → Contains q (d, z) → y.dist + b y.place ≤ d) × ((r : Best) → best ≡ Some r → y.dist + b y.place ≤ r.cost)
  pub apart : AreApart ls

-- more than there are coordinates on any interval
abbrev pub widest : Graph → ℕ
widest g = sum_by (λ (i : Interval). gap i.span.lo i.span.hi + 1) g.intervals

-- no more places than this
abbrev pub most_places : Graph → ℕ
most_places g = length g.intervals * widest g

-- a source as a candidate
abbrev pub source_label : ℕ → Stop → Label
source_label k s = record { place = s.0; dist = s.1; by = Source k; origin = None }

-- the sources wait, and nothing else
pub record Begins (sources : List Stop) (b : Place → ℕ) (s : Search) : Type 0 where
  pub best : s.best ≡ None
  pub floor : s.queue.floor ≡ 0
  pub has : (k : ℕ) (t : Stop) → slice_get sources k ≡ Some t → Contains s.queue.pairs (t.1 + b t.0, source_label k t)
  pub only : (d : ℕ) (y : Label) → Contains s.queue.pairs (d, y) → (k : ℕ) × (t : Stop) × (slice_get sources k ≡ Some t) × (d ≡ t.1 + b t.0) × (y ≡ source_label k t)

-- x became label n: the best knows its slides to targets, and what it leads to waits
pub record Puts (g : Graph) (targets : List Stop) (b : Place → ℕ) (known : Option Rows) (n : ℕ) (old new : Search) (x : Label) : Type 0 where
  pub improves : IsImproved g targets x n (λ j. j < length targets) old.best new.best
  pub gains : Gains (IsCrossed g b known (record { 0 = n }) x) old.queue.pairs new.queue.pairs
  pub spreads : Spreads g known new.queue.pairs x

-- the search where every candidate left is dearer than the best
pub record IsFinished (g : Graph) (sources targets : List Stop) (b : Place → ℕ) (known : Option Rows) (ls : List Label) (best : Option Best) : Type 0 where
  pub queue : Queued
  pub running : IsRunning g sources targets b known ls queue best
  pub beyond : IsBeyond best queue

-- label n stands at the place
pub record IsAt (ls : List Label) (v : Place) (n : LabelNo) : Type 0 where
  pub label : Label
  pub is : slice_get ls n.0 ≡ Some label
  pub place : label.place ≡ v

abbrev pub NoneAt : List Label → Place → Type 0
NoneAt ls v = (k : ℕ) (x : Label) → slice_get ls k ≡ Some x → x.place ≡ v → ⊥
