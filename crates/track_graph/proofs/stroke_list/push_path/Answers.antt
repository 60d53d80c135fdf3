use Rattle.std.proofs.Common.{◌++◌, ◌+◌, sym, ap, ◌∙◌, arith}
use Rattle.track_graph.proofs.PathLemmas.{strokes-begun, written_on, written_run, written_via, rest_is}
use Rattle.track_graph.proofs.stroke_list.push_path.Goals as goal
use Rattle.track_graph.proofs.stroke_list.push_path.Goals.{in-Along+then-not-goes_on+in_ok-push-in-Along, in-Along+else-not-goes_on, in-Via+in_ok-push-in-Via}

pub loop-i-init : goal.loop-i-init
loop-i-init c = ap (λ ss. c.args.strokes.now ++ ss) (strokes-begun c.args.start c.args.edges.now)

pub loop-i-preserved : goal.loop-i-preserved
loop-i-preserved c =
    let es = c.args.edges.now in
    elim c.match-e.branch [
      | in-Along+then-not-goes_on+in_ok-push-in-Along w ↦
          let off = sym (rw (rest_is es (c.loop-i.i + 1)) at w.goes_on.ensures) ∙ w.if-not-goes_on.true in
          rw (w.strokes-is, w.in_ok-push-in-Along.ensures.ok, w.from-is) (written_run c.loop-i.strokes c.loop-i.at es c.loop-i.i _ c.loop-i.from _ (omega arith) w.in-Along.is off c.loop-i.invariant)
      | in-Along+else-not-goes_on w ↦
          let on = sym (rw (rest_is es (c.loop-i.i + 1)) at w.goes_on.ensures) ∙ w.if-not-goes_on.false in
          rw (w.strokes-is, w.from-is) (written_on c.loop-i.strokes c.loop-i.at es c.loop-i.i _ c.loop-i.from _ (omega arith) w.in-Along.is on c.loop-i.invariant)
      | in-Via+in_ok-push-in-Via w ↦ rw (w.strokes-is, w.in_ok-push-in-Via.ensures.ok, w.from-is) (written_via c.loop-i.strokes c.loop-i.at es c.loop-i.i _ c.loop-i.from w.in-Via.via _ (omega arith) w.in-Via.is c.loop-i.invariant)
    ]
