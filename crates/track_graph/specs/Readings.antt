-- Readings of a state: which of its shapes forbid a net's walks, and which are dear.
use Rattle.std.specs.Prelude.{◌≡◌, ℕ, List, [], ◌++◌, Bool, ◌&&◌, ◌==◌, not, nat_lt, Contains, ◌↔◌}
use Rattle.std.specs.List.{list_any}
use Rattle.rt_base.specs.declared.tech.Shape.{Shape}
use Rattle.rt_base.specs.declared.tech.Tech.{Tech}
use Rattle.rt_base.specs.declared.walk.Walk.{Walk}
use Rattle.rt_base.specs.Conflict.{conflict_of}
use Rattle.track_graph.specs.declared.design.Design.{Design}
use Rattle.track_graph.specs.declared.history.NetState.{NetState}
use Rattle.track_graph.specs.declared.history.State.{State}
use Rattle.track_graph.specs.Searches.{Reading, IsWalk, IsInside, IsLegal, IsLeast, NoneLegal, walk_cost}
use Rattle.track_graph.specs.States.{standing, standing_from}
use Rattle.track_graph.specs.Walks.{walk_shapes_of}

-- every fixed and every standing shape forbids
abbrev pub hard_reading : Design → State → Reading
hard_reading d s = record { forbidding = d.fixed ++ standing d s; dear = [] }

-- another net than n that was ripped less often than the user allows
abbrev pub may_rip : Design → ℕ → ℕ → NetState → Bool
may_rip d n m net = not (m == n) && nat_lt net.rips d.options.rips

-- the standing shapes of nets that may still be ripped are dear, and don't forbid
abbrev pub soft_reading : Design → State → ℕ → Reading
soft_reading d s n = record {
  forbidding = d.fixed ++ standing_from d (λ m net. not (may_rip d n m net)) 0 s.nets;
  dear = standing_from d (may_rip d n) 0 s.nets;
}

-- with these nets emptied: their standing shapes are absent, and the rest forbids
abbrev pub reading_without : Design → State → List ℕ → Reading
reading_without d s absent = record {
  forbidding = d.fixed ++ standing_from d (λ m net. not (list_any (λ k. k == m) absent)) 0 s.nets;
  dear = [];
}

-- a shape that a walk of net n inside its guide can put down
pub record CanPutDown (d : Design) (n : ℕ) (own : NetState) (a : Shape) : Type 0 where
  pub walk : Walk
  pub is_walk : IsWalk d n own walk
  pub inside : IsInside d n walk
  pub among : Contains (walk_shapes_of d n walk) a

-- two readings say the same of a shape: whether it is forbidden, and whether it is dear
pub record SayTheSame (tech : Tech) (r q : Reading) (a : Shape) : Type 0 where
  pub forbidden : list_any (conflict_of tech a) r.forbidding ≡ list_any (conflict_of tech a) q.forbidding
  pub dear : list_any (conflict_of tech a) r.dear ≡ list_any (conflict_of tech a) q.dear

-- they say the same of each shape that a walk of net n inside its guide can put down
abbrev pub AreAlike : Design → ℕ → NetState → Reading → Reading → Type 0
AreAlike d n own r q = (a : Shape) → CanPutDown d n own a → SayTheSame d.tech r q a

-- the same walks are legal, at the same costs, so the same ones are least, and none where none is
pub record AnswerAlike (d : Design) (n : ℕ) (own : NetState) (r q : Reading) : Type 0 where
  pub legal : (w : Walk) → IsLegal d n own r w ↔ IsLegal d n own q w
  pub cost : (w : Walk) → IsWalk d n own w → IsInside d n w → walk_cost d n r w ≡ walk_cost d n q w
  pub least : (w : Walk) → IsLeast d n own r w ↔ IsLeast d n own q w
  pub none : NoneLegal d n own r ↔ NoneLegal d n own q
