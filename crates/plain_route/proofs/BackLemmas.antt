-- Each step of a net leads back by a step.
use Rattle.std.proofs.Common.{◌≡◌, ⊎_elim, inl, inr, ℕ, ℤ, ◌+ℤ◌, ◌-ℤ◌, List, [], ◌∷◌, false, refl, sym, subst, ap, ◌∙◌, arith}
use Rattle.std.specs.Int.{int_min, int_max}
use Rattle.std.proofs.lemmas.Int.{ints, clamps}
use Rattle.rt_base.specs.Sides.{Sides}
use Rattle.rt_base.specs.Geometry.{Holds, hull_of}
use Rattle.rt_base.specs.declared.geometry.Point.{Point}
use Rattle.rt_base.specs.declared.tech.Tech.{Tech}
use Rattle.rt_base.specs.declared.walk.Edge.{Edge}
use Rattle.rt_base.specs.declared.walk.EdgeKind.{EdgeKind}
use Rattle.rt_base.specs.declared.walk.EdgeKind.TheVariants.{Along, Via as ByVia}
use Rattle.rt_base.specs.declared.walk.Vertex.{Vertex}
use Rattle.track_graph.specs.declared.design.Design.{Design}
use Rattle.track_graph.specs.Edges.{AreNeighbours, IsAlong, IsVia, FitsKind, kind_metal, KindInGuide}
use Rattle.track_graph.specs.Guide.{Guide, InGuide}
use Rattle.track_graph.specs.Levels.{TrackSystem, track_system_of, NoneBetween, along, layer_no, line_of, positions_of}
use Rattle.track_graph.specs.Metal.{Metal, wire_metal, via_metal, half_width, shapes_of}
use Rattle.track_graph.specs.Searches.{Reading, guide_of, some_conflict}
use Rattle.plain_route.specs.Ground.{IsStep, read_edge_cost}

min_swapped : (a b : ℤ) → int_min a b ≡ int_min b a
min_swapped a b = omega (arith, ints, clamps)

max_swapped : (a b : ℤ) → int_max a b ≡ int_max b a
max_swapped a b = omega (arith, ints, clamps)

hull_swapped : (p q : Point) → hull_of p q ≡ hull_of q p
hull_swapped p q = ap (λ (z : ℤ). let s : Sides = record { xl = z; yl = int_min p.y q.y; xh = int_max p.x q.x; yh = int_max p.y q.y } in s) (min_swapped p.x q.x)
    ∙ ap (λ (z : ℤ). let s : Sides = record { xl = int_min q.x p.x; yl = z; xh = int_max p.x q.x; yh = int_max p.y q.y } in s) (min_swapped p.y q.y)
    ∙ ap (λ (z : ℤ). let s : Sides = record { xl = int_min q.x p.x; yl = int_min q.y p.y; xh = z; yh = int_max p.y q.y } in s) (max_swapped p.x q.x)
    ∙ ap (λ (z : ℤ). let s : Sides = record { xl = int_min q.x p.x; yl = int_min q.y p.y; xh = int_max q.x p.x; yh = z } in s) (max_swapped p.y q.y)

neighbours_back : (positions : List ℤ) (a b : ℤ) → AreNeighbours positions a b → AreNeighbours positions b a
neighbours_back positions a b h = (λ e. h.0 (sym e), subst (λ (z : ℤ). NoneBetween positions (int_min b a) z) (max_swapped a b) (subst (λ (z : ℤ). NoneBetween positions z (int_max a b)) (min_swapped a b) h.1))

along_back : (g : TrackSystem) (v w : Vertex) → IsAlong g v w → IsAlong g w v
along_back g v w h =
    let line : line_of g.tech w.level w.point ≡ line_of g.tech w.level v.point = subst (λ (n : ℕ). line_of g.tech n w.point ≡ line_of g.tech n v.point) h.level (sym h.line) in
    let near : AreNeighbours (positions_of g.tracks w.level) (along g.tech w.level v.point) (along g.tech w.level w.point) = subst (λ (n : ℕ). AreNeighbours (positions_of g.tracks n) (along g.tech n v.point) (along g.tech n w.point)) h.level h.neighbours in
    record { level = sym h.level; line = line; neighbours = neighbours_back (positions_of g.tracks w.level) (along g.tech w.level v.point) (along g.tech w.level w.point) near }

via_back : (tech : Tech) (k : ℕ) (v w : Vertex) → IsVia tech k v w → IsVia tech k w v
via_back tech k v w h = record { point = sym h.point; levels = ⊎_elim (λ up. inr up) (λ down. inl down) h.levels }

kind_back : (g : TrackSystem) (kind : EdgeKind) (v w : Vertex) → FitsKind g kind v w → FitsKind g kind w v
kind_back g Along v w h = along_back g v w h
kind_back g (ByVia k) v w h = via_back g.tech k v w h

guide_back : (g : TrackSystem) (guide : Guide) (kind : EdgeKind) (v w : Vertex) → FitsKind g kind v w → KindInGuide guide kind v w → KindInGuide guide kind w v
guide_back g guide Along v w fits h = λ r holds. subst (λ (n : ℕ). InGuide guide n r) fits.level (h r (subst (λ (s : Sides). Holds s r) (hull_swapped w.point v.point) holds))
guide_back g guide (ByVia k) v w fits h = (h.1, h.0)

wire_back : (tech : Tech) (level : ℕ) (p q : Point) → wire_metal tech level p q ≡ wire_metal tech level q p
wire_back tech level p q = ap (λ (s : Sides). wire_of s) (hull_swapped p q)
  where
    wire_of : Sides → Metal
    wire_of s = (record { 0 = layer_no tech level }, record { xl = s.xl -ℤ half_width tech level; yl = s.yl -ℤ half_width tech level; xh = s.xh +ℤ half_width tech level; yh = s.yh +ℤ half_width tech level })

metal_back : (d : Design) (kind : EdgeKind) (v w : Vertex) → FitsKind (track_system_of d) kind v w → kind_metal d kind v w ≡ kind_metal d kind w v
metal_back d Along v w fits = ap (λ (m : Metal). m ∷ []) (ap (λ (n : ℕ). wire_metal d.tech n v.point w.point) fits.level ∙ wire_back d.tech w.level v.point w.point)
metal_back d (ByVia k) v w fits = ap (via_metal d.tech k) fits.point

-- an edge of the same kind leads back
pub step_back : (d : Design) (n : ℕ) (r : Reading) (v : Vertex) (e : Edge) (cost : ℕ) → IsStep d n r v e cost → (f : Edge) × (other : ℕ) × IsStep d n r e.to f other × (f.to ≡ v)
step_back d n r v e cost step =
    let f : Edge = record { kind = e.kind; to = v } in
    let fits : FitsKind (track_system_of d) e.kind v e.to = step.legal.edge.kind in
    let clear : some_conflict d.tech (shapes_of n (kind_metal d e.kind e.to v)) r.forbidding ≡ false = subst (λ (ms : List Metal). some_conflict d.tech (shapes_of n ms) r.forbidding ≡ false) (metal_back d e.kind v e.to fits) step.legal.clear in (
      f,
      read_edge_cost d n r e.to f,
      record {
        legal = record {
          edge = record { start = step.legal.edge.end; end = step.legal.edge.start; kind = kind_back (track_system_of d) e.kind v e.to fits };
          inside = guide_back (track_system_of d) (guide_of d n) e.kind v e.to fits step.legal.inside;
          clear = clear;
        };
        sum = refl;
      },
      refl,
    )
