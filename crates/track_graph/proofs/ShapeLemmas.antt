-- Numbers in range: points of the die, hulls and distances.
use Rattle.std.proofs.Common.{Bool, true, false, cond, ◌≡◌, ℕ, ◌+◌, ◌^◌, ◌<◌, ◌≤◌, List, [], ◌∷◌, Some, slice_get, zero, suc, length, arith}
use Rattle.std.proofs.lemmas.Option.{some_pair_parts}
use Rattle.rt_base.proofs.Ranges.{within-between, unsigned_abs-diff}
use Rattle.rt_base.specs.declared.geometry.Point.{Point}
use Rattle.rt_base.specs.declared.tech.Layer.{Layer}
use Rattle.rt_base.specs.declared.walk.Vertex.{Vertex}
use Rattle.track_graph.specs.declared.design.Design.{Design}
use Rattle.track_graph.specs.Designs.{IsDesign}
use Rattle.rt_base.specs.Ranges.{IsPointWithin}
use Rattle.rt_base.specs.Geometry.{distance}
use Rattle.track_graph.specs.Levels.{track_system_of, IsVertex, routing_from}

-- a vertex stands within the die's bound
pub vertex_within : (d : Design) (v : Vertex) → IsDesign d → IsVertex (track_system_of d) v → IsPointWithin (2 ^ 32) v.point
vertex_within d v ok h =
    let die = ok.grid.die in
    (within-between _ d.grid.die.xl v.point.x d.grid.die.xh die.0 die.2 h.in_die.left h.in_die.right, within-between _ d.grid.die.yl v.point.y d.grid.die.yh die.1 die.3 h.in_die.low h.in_die.high)

pub distance_within : (p q : Point) → IsPointWithin (2 ^ 32) p → IsPointWithin (2 ^ 32) q → distance p q ≤ 2 ^ 34
distance_within p q hp hq = omega (arith, unsigned_abs-diff p.x q.x (2 ^ 32) hp.0 hq.0, unsigned_abs-diff p.y q.y (2 ^ 32) hp.1 hq.1)

-- a level's layer is one of the layers
pub routing_number-below : (n : ℕ) (ls : List Layer) (k i : ℕ) (l : Layer) → slice_get (routing_from n ls) k ≡ Some (i, l) → i < n + length ls
routing_number-below n [] k i l h = cc
routing_number-below n (m ∷ ls) k i l h = by_kind m.routing k h (routing_number-below (n + 1) ls)
  where
    by_kind : (b : Bool) (k : ℕ) → slice_get (cond b ((n, m) ∷ routing_from (n + 1) ls) (routing_from (n + 1) ls)) k ≡ Some (i, l) → ((k i : ℕ) (l : Layer) → slice_get (routing_from (n + 1) ls) k ≡ Some (i, l) → i < n + 1 + length ls) → i < n + length (m ∷ ls)
    by_kind false k h later = omega (arith, later k i l h)
    by_kind true zero h later = let e : n ≡ i = (some_pair_parts n i m l h).0 in omega arith
    by_kind true (suc k) h later = omega (arith, later k i l h)
