-- The wiring of strokes means the strokes' rectangles.
use Rattle.std.proofs.Common.{append-nil, ◌≡◌, ℕ, pos, List, [], ◌∷◌, map, Some, slice_get, All, refl, ap, arith}
use Rattle.std.proofs.lemmas.Int.{ints, clamps}
use Rattle.std.proofs.lemmas.List.Elements.{All-head, All-tail}
use Rattle.std.specs.Int.{int_min, int_max}
use Rattle.rt_base.specs.Sides.{Sides}
use Rattle.rt_base.specs.Geometry.{moved}
use Rattle.rt_base.specs.Orientations.{placed}
use Rattle.rt_base.specs.declared.geometry.Point.{Point}
use Rattle.rt_base.specs.declared.orient.Orient.TheVariants.{N}
use Rattle.rt_base.specs.declared.tech.Tech.{Tech}
use Rattle.rt_base.specs.declared.tech.Via.{Via}
use Rattle.track_graph.specs.declared.history.Stroke.{Stroke}
use Rattle.track_graph.specs.declared.history.Stroke.TheVariants.{Run, Via as ViaAt}
use Rattle.track_graph.specs.Designs.{IsTech}
use Rattle.track_graph.specs.Levels.{width_of}
use Rattle.track_graph.specs.Metal.{Metal}
use Rattle.def_wires.specs.Meaning.{path_metal, wiring_metal, via_metal as through_metal}
use Rattle.written.specs.Wires.{stroke_path, strokes_wiring, stroke_metal, strokes_metal}
use Rattle.wire_cover.specs.GoodStrokes.{IsGoodRun, IsGoodVia, IsGoodStroke, IsOrdered, AreViasOrdered, HasVias}
use Rattle.wire_cover.proofs.LevelLemmas.{level_width, level_is_width}
use Rattle.wire_cover.proofs.WireShapes.{wire_is}

run_covers : (W tech : Tech) (level : ℕ) (a b : Point) → IsTech tech → W.layers ≡ tech.layers → IsGoodRun tech level a b → path_metal W (stroke_path tech (Run level a b)) ≡ stroke_metal tech (Run level a b)
run_covers W tech level a b ok same good = rw (level_width W tech level same good.on_level, wire_is (width_of tech level) a b (level_is_width tech level ok good.on_level) good.straight good.apart) refl

-- a rectangle in order stays as it is under N
placed_as_it_is : (s : Sides) → IsOrdered s → placed N (pos 0) (pos 0) s ≡ s
placed_as_it_is s h =
    let xl : int_min s.xl s.xh ≡ s.xl = omega (arith, ints, clamps) in
    let yl : int_min s.yl s.yh ≡ s.yl = omega (arith, ints, clamps) in
    let xh : int_max s.xl s.xh ≡ s.xh = omega (arith, ints, clamps) in
    let yh : int_max s.yl s.yh ≡ s.yh = omega (arith, ints, clamps) in
    rw (xl, yl, xh, yh) refl

vias_moved : (p : Point) (ms : List Metal) → All (λ (m : Metal). IsOrdered m.1) ms → map (through_metal N p) ms ≡ map (λ (m : Metal). (m.0, moved p m.1)) ms
vias_moved p [] all = refl
vias_moved p (m ∷ ms) all =
    let first : placed N (pos 0) (pos 0) m.1 ≡ m.1 = placed_as_it_is m.1 (All-head (λ (m : Metal). IsOrdered m.1) m ms all) in
    let later : map (through_metal N p) ms ≡ map (λ (m : Metal). (m.0, moved p m.1)) ms = vias_moved p ms (All-tail (λ (m : Metal). IsOrdered m.1) m ms all) in
    joined (ap (λ (s : Sides). (let at : Metal = (m.0, moved p s) in at)) first) later
  where
    joined : {x y : Metal} {xs ys : List Metal} → x ≡ y → xs ≡ ys → x ∷ xs ≡ y ∷ ys
    joined h k = cc

via_covers : (W tech : Tech) (k : ℕ) (p : Point) → AreViasOrdered tech → HasVias W tech → IsGoodVia tech k p → path_metal W (stroke_path tech (ViaAt k p)) ≡ stroke_metal tech (ViaAt k p)
via_covers W tech k p ordered vias good =
    let v : Via = good.joins.via in
    let at : slice_get tech.vias k ≡ Some v = good.joins.is_via in
    let other : (u : Via) × (slice_get W.vias k ≡ Some u) × (u.rects ≡ v.rects) = vias k v at good.joins.usable in
    rw (at, other.1, other.2, append-nil) (vias_moved p v.rects (ordered k v at good.joins.usable))

stroke_covers : (W tech : Tech) (s : Stroke) → IsTech tech → AreViasOrdered tech → W.layers ≡ tech.layers → HasVias W tech → IsGoodStroke tech s → path_metal W (stroke_path tech s) ≡ stroke_metal tech s
stroke_covers W tech (Run level a b) ok ordered same vias good = run_covers W tech level a b ok same good
stroke_covers W tech (ViaAt k p) ok ordered same vias good = via_covers W tech k p ordered vias good

-- what is written of strokes means their rectangles, under a technology with the same layers and the same usable vias
pub wiring_covers : (W tech : Tech) → IsTech tech → AreViasOrdered tech → W.layers ≡ tech.layers → HasVias W tech → (ss : List Stroke) → All (IsGoodStroke tech) ss → wiring_metal W (strokes_wiring tech ss) ≡ strokes_metal tech ss
wiring_covers W tech ok ordered same vias [] all = refl
wiring_covers W tech ok ordered same vias (s ∷ ss) all =
    let first : path_metal W (stroke_path tech s) ≡ stroke_metal tech s = stroke_covers W tech s ok ordered same vias (All-head (IsGoodStroke tech) s ss all) in
    let later : wiring_metal W (strokes_wiring tech ss) ≡ strokes_metal tech ss = wiring_covers W tech ok ordered same vias ss (All-tail (IsGoodStroke tech) s ss all) in
    cc
