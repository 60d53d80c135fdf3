use Rattle.std.proofs.Common.{◌+◌, ◌++◌, ℤ, List, length, Contains, Result, Ok, Err, OnOk, subst}
use Rattle.rt_base.specs.declared.walk.Edge.{Edge}
use Rattle.track_graph.specs.Edges.{IsEdge}
use Rattle.track_graph.specs.Levels.{lines_of, lines_below, track_system_of}
use Rattle.plain_route.specs.Steps.{HasNeighbours, HasVias}
use Rattle.plain_route.proofs.StepLemmas.{steps_cover}
use Rattle.plain_route.proofs.steps.add_steps.Goals as goal

ok_then : {X Y : Type 0} (r : Result X Y) (P Q : Type 0) → (P → Q) → OnOk r P → OnOk r Q
ok_then (Ok x) P Q f h = f h
ok_then (Err e) P Q f h = tt

pub returns : goal.returns
returns c =
    let d = c.args.design.now in
    let v = c.args.v in
    let near : HasNeighbours d.tech v (lines_below d.tracks v.level ++ lines_of d.tracks (v.level + 1)) c.args.edges.now c.add_neighbours.new.edges =
    subst (λ (ls : List ℤ). HasNeighbours d.tech v (ls ++ lines_of d.tracks (v.level + 1)) c.args.edges.now c.add_neighbours.new.edges) c.lines_under-under.ensures
    (subst (λ (ls : List ℤ). HasNeighbours d.tech v (c.lines_under-under.result.now ++ ls) c.args.edges.now c.add_neighbours.new.edges) c.level_lines-over.ensures c.in_ok-add_neighbours.ensures) in
    let cover : HasVias d.tech v (length d.tech.vias) c.add_neighbours.new.edges c.add_vias.new.edges → (e : Edge) → IsEdge (track_system_of d) v e → Contains c.add_vias.new.edges e = λ vias. steps_cover d v c.args.edges.now c.add_neighbours.new.edges c.add_vias.new.edges c.requires near vias in
    ok_then c.add_vias.result _ _ cover c.add_vias.ensures
