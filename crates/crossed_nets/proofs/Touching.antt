-- What a shape hits is found near it.
use Rattle.std.proofs.Common.{◌≡◌, ℕ, List, ℤ, pos, Bool, true, false, ◌&&◌, refl, sym, ◌∙◌}
use Rattle.std.specs.List.{list_any}
use Rattle.std.proofs.lemmas.List.Sorted.{list_any-IsPermutation}
use Rattle.std.proofs.lemmas.Map.Views.{any-filter_same}
use Rattle.std.specs.declared.cmp.Ordering.{Ordering}
use Rattle.rt_base.specs.Conflict.{conflict_of, largest_spacing}
use Rattle.rt_base.specs.Geometry.{grown}
use Rattle.rt_base.specs.declared.tech.Shape.{Shape}
use Rattle.track_graph.specs.declared.design.Design.{Design}
use Rattle.shape_grid.specs.Stores.{is_touching, AreNear}
use Rattle.plain_route.proofs.TouchLemmas.{conflict_touches}
use Rattle.crossed_nets.specs.Hits.{is_hit, is_wire_of}

and_first : (a b : Bool) → (a && b) ≡ true → a ≡ true
and_first true b h = refl
and_first false b h = absurd cc

-- of what is near all that a shape hits is found
pub hit-near : (d : Design) (rips : ℕ → ℕ) (n m : ℕ) (a : Shape) (reach : ℤ) (cmp : Shape → Shape → Ordering) (shapes found : List Shape) → reach ≡ pos (largest_spacing d.tech a.layer) → AreNear cmp a.layer (grown a.rect reach) shapes found
    → list_any (is_hit d rips n m a) found ≡ list_any (is_hit d rips n m a) shapes
hit-near d rips n m a reach cmp shapes found is are =
    sym (list_any-IsPermutation (is_hit d rips n m a) _ found are.are)
    ∙ any-filter_same (is_hit d rips n m a) (is_touching a.layer (grown a.rect reach)) true (λ b h. conflict_touches d.tech a b reach is (and_first (conflict_of d.tech a b) (is_wire_of d rips n m b) h)) shapes
