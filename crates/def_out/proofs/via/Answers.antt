use Rattle.std.proofs.Common.{◌≡◌, ◌++◌, List, ℕ, rules, to_z, of_z, w64}
use Rattle.std.specs.Prelude.{codes}
use Rattle.std.proofs.lemmas.Int.{to_z-of_z}
use Rattle.rt_text.specs.Point.{point_text}
use Rattle.track_graph.proofs.PathLemmas.{joined}
use Rattle.def_out.proofs.via.Goals as goal

pub returns : goal.returns
returns c =
    let t : List ℕ = c.args.text.now in
    let x : to_z w64 (of_z w64 c.args.point.x) ≡ c.args.point.x = to_z-of_z w64 _ (search rules) in
    let y : to_z w64 (of_z w64 c.args.point.y) ≡ c.args.point.y = to_z-of_z w64 _ (search rules) in
    let layer : List ℕ = c.args.layer.now in
    let space : List ℕ = codes " " in
    let p : List ℕ = point_text c.args.point.x c.args.point.y in
    let name : List ℕ = c.args.name.now in
    joined t _ _ (layer ++ space ++ p ++ space) name
    (joined t _ _ (layer ++ space ++ p) space
    (joined t _ _ (layer ++ space) p
    (joined t _ _ layer space c.in_ok-bytes.ensures.ok c.in_ok-bytes-2.ensures.ok)
    (rw (x, y) at c.in_ok-point.ensures.ok))
    c.in_ok-bytes-3.ensures.ok)
    c.in_ok-bytes-4.ensures.ok
