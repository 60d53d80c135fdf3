use Rattle.std.proofs.Common.{◌≡◌, ◌++◌}
use Rattle.std.proofs.lemmas.Result.{on_ok_weaker}
use Rattle.rt_base.specs.Geometry.{nearest_point}
use Rattle.track_graph.specs.Entries.{corner_of, rect_of}
use Rattle.track_graph.specs.Strokes.{run_between}
use Rattle.track_graph.proofs.EntryLemmas.{stub_rect-exists}
use Rattle.track_graph.proofs.PathLemmas.{joined}
use Rattle.track_graph.proofs.stroke_list.push_entry.Goals as goal

pub stub_point-from-requires : goal.stub_point-from-requires
stub_point-from-requires c = stub_rect-exists c.args.design.now c.args.net c.args.entry.now c.in-Stub.pin c.in-Stub.rect c.requires.design c.requires.entry c.in-Stub.is

pub returns-in_ok-push_run-in-Stub : goal.returns-in_ok-push_run-in-Stub
returns-in_ok-push_run-in-Stub c =
    let v = c.args.entry.now.vertex in
    let from = nearest_point (rect_of c.args.design.now c.args.net c.in-Stub.pin c.in-Stub.rect) v.point in
    let turn = corner_of from v in
    let first = run_between v.level from turn in
    let last = run_between v.level turn v.point in
    let begun : c.push_run.new.strokes ≡ c.args.strokes.now ++ first = rw (c.corner-turn.ensures, c.stub_point-from.ensures) at c.in_ok-push_run-in-Stub.ensures in
    rw c.in-Stub.is (on_ok_weaker {P = c.push_run-in-Stub.new.strokes ≡ c.push_run.new.strokes ++ last} c.push_run-in-Stub.result
    (λ h. joined c.args.strokes.now c.push_run.new.strokes c.push_run-in-Stub.new.strokes first last begun h)
    (rw (c.corner-turn.ensures, c.stub_point-from.ensures) at c.push_run-in-Stub.ensures))
