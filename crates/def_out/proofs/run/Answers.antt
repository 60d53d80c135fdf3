use Rattle.std.proofs.Common.{◌≡◌, ◌++◌, List, ℕ, rules, to_z, of_z, w64}
use Rattle.std.specs.Prelude.{codes}
use Rattle.std.proofs.lemmas.Int.{to_z-of_z}
use Rattle.rt_text.specs.Point.{point_text}
use Rattle.track_graph.proofs.PathLemmas.{joined}
use Rattle.def_out.proofs.run.Goals as goal

pub returns : goal.returns
returns c =
    let t : List ℕ = c.args.text.now in
    let ax : to_z w64 (of_z w64 c.args.a.x) ≡ c.args.a.x = to_z-of_z w64 _ (search rules) in
    let ay : to_z w64 (of_z w64 c.args.a.y) ≡ c.args.a.y = to_z-of_z w64 _ (search rules) in
    let bx : to_z w64 (of_z w64 c.args.b.x) ≡ c.args.b.x = to_z-of_z w64 _ (search rules) in
    let by_ : to_z w64 (of_z w64 c.args.b.y) ≡ c.args.b.y = to_z-of_z w64 _ (search rules) in
    let layer : List ℕ = c.args.layer.now in
    let space : List ℕ = codes " " in
    let a : List ℕ = point_text c.args.a.x c.args.a.y in
    let b : List ℕ = point_text c.args.b.x c.args.b.y in
    joined t _ _ (layer ++ space ++ a ++ space) b
    (joined t _ _ (layer ++ space ++ a) space
    (joined t _ _ (layer ++ space) a
    (joined t _ _ layer space c.in_ok-bytes.ensures.ok c.in_ok-bytes-2.ensures.ok)
    (rw (ax, ay) at c.in_ok-point.ensures.ok))
    c.in_ok-bytes-3.ensures.ok)
    (rw (bx, by_) at c.in_ok-point-2.ensures.ok)
