-- The wiring that is written of a net's walks covers exactly the points of the walks' shapes.
use Rattle.std.proofs.Common.{◌≡◌, ℕ, List, map, flat_map, All, refl}
use Rattle.rt_base.specs.declared.tech.Shape.{Shape}
use Rattle.rt_base.specs.declared.tech.Tech.{Tech}
use Rattle.rt_base.specs.declared.walk.Walk.{Walk}
use Rattle.track_graph.specs.declared.design.Design.{Design}
use Rattle.track_graph.specs.declared.history.Stroke.{Stroke}
use Rattle.track_graph.specs.Designs.{IsDesign}
use Rattle.track_graph.specs.NetWalks.{IsNetWalk}
use Rattle.track_graph.specs.Metal.{Metal}
use Rattle.track_graph.specs.Strokes.{walk_strokes}
use Rattle.track_graph.specs.Walks.{walk_shapes_of}
use Rattle.def_wires.specs.Meaning.{wiring_metal}
use Rattle.written.specs.Cover.{CoverSame}
use Rattle.written.specs.Wires.{strokes_wiring, strokes_metal}
use Rattle.wire_cover.specs.GoodStrokes.{IsNear, AreViasOrdered, HasVias}
use Rattle.wire_cover.proofs.Covering.{cover_between}
use Rattle.wire_cover.proofs.GoodWalks.{net_strokes_good}
use Rattle.wire_cover.proofs.StrokeWiring.{wiring_covers}
use Rattle.wire_cover.proofs.WalkCover.{net_cover}

-- under a technology with the same layers and the same usable vias
pub net_wiring_covers : (W : Tech) (d : Design) (n : ℕ) (walks : List Walk) → IsDesign d → IsNear d → AreViasOrdered d.tech → W.layers ≡ d.tech.layers → HasVias W d.tech → All (IsNetWalk d n) walks → CoverSame (wiring_metal W (strokes_wiring d.tech (flat_map (walk_strokes d n) walks))) (map (λ (s : Shape). (s.layer, s.rect)) (flat_map (walk_shapes_of d n) walks))
net_wiring_covers W d n walks ok near ordered same vias all =
    let strokes : List Stroke = flat_map (walk_strokes d n) walks in
    let shapes : List Metal = map (λ (s : Shape). (s.layer, s.rect)) (flat_map (walk_shapes_of d n) walks) in
    cover_between (wiring_metal W (strokes_wiring d.tech strokes)) (strokes_metal d.tech strokes) shapes shapes
    (wiring_covers W d.tech ok.tech ordered same vias strokes (net_strokes_good d n walks ok near all))
    refl
    (net_cover d n walks ok all)
