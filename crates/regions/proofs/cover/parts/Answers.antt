use Rattle.std.proofs.Common.{◌∙◌, ◌+◌, take, sym, subst, ap, Vec, Global}
use Rattle.rt_base.specs.declared.geometry.Span.{Span}
use Rattle.regions.proofs.CoverLemmas.{ArePartsOf, parts_more, parts_skip, parts_all}
use Rattle.regions.proofs.cover.parts.Goals.{in-Some+in_ok-push-in-Some, in-None}
use Rattle.regions.proofs.cover.parts.Goals as goal

pub loop-guide_box-preserved : goal.loop-guide_box-preserved
loop-guide_box-preserved c =
    let guide = c.args.guide.now in
    let i = c.loop-guide_box.guide_box-index in
    let box = c.guide_box-item.result in
    elim c.match-part.branch [
      | in-Some+in_ok-push-in-Some w ↦
          subst (ArePartsOf c.args.line c.args.level (take (i + 1) guide)) (sym (ap (λ (v : Vec Span Global). v.items) w.spans-is ∙ w.in_ok-push-in-Some.ensures.items))
          (parts_more c.args.line c.args.level guide i box c.loop-guide_box.spans.items w.in-Some.span c.loop-guide_box-test.true c.guide_box-item.is w.in-Some.ensures.some c.loop-guide_box.invariant)
      | in-None w ↦
          subst (ArePartsOf c.args.line c.args.level (take (i + 1) guide)) (sym (ap (λ (v : Vec Span Global). v.items) w.spans-is))
          (parts_skip c.args.line c.args.level guide i box c.loop-guide_box.spans.items c.loop-guide_box-test.true c.guide_box-item.is w.in-None.ensures.none c.loop-guide_box.invariant)
    ]

pub returns-clause-full : goal.returns-clause-full
returns-clause-full c = (parts_all c.args.line c.args.level c.args.guide.now c.loop-guide_box.guide_box-index c.loop-guide_box.spans.items c.loop-guide_box-test.false c.loop-guide_box.invariant).full

pub returns-clause-exact : goal.returns-clause-exact
returns-clause-exact c = (parts_all c.args.line c.args.level c.args.guide.now c.loop-guide_box.guide_box-index c.loop-guide_box.spans.items c.loop-guide_box-test.false c.loop-guide_box.invariant).exact
