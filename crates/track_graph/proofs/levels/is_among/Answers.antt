use Rattle.std.proofs.Common.{◌≡◌, ◌↔◌, IsTrue, Contains, to_z, of_z, w64}
use Rattle.std.specs.Result.{is_ok}
use Rattle.std.proofs.lemmas.Int.{to_z-of_z}
use Rattle.track_graph.proofs.GraphLemmas.{found_exactly}
use Rattle.track_graph.proofs.levels.is_among.Goals as goal

pub returns : goal.returns
returns c =
    let z : to_z w64 (of_z w64 c.args.z) ≡ c.args.z = to_z-of_z w64 _ c.ranges.z in
    let exact : IsTrue (is_ok c.binary_search.result) ↔ Contains c.args.lines.now c.args.z = rw z at (found_exactly _ _ _ c.requires c.binary_search.ensures.bound c.binary_search.ensures.position) in
    rw c.is_ok.ensures.value exact
