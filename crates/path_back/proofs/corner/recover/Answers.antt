use Rattle.std.proofs.Common.{◌≡◌, ◌∙◌, ap, subst, sym, List, reverse, arith, ◌∷◌}
use Rattle.std.proofs.lemmas.Option.{slice_get_within}
use Rattle.path_back.specs.declared.corner.Corner.{Corner}
use Rattle.path_back.specs.Corners.{corner_of}
use Rattle.path_back.proofs.Back.{IsBack, back_first, back_more, back_whole, gathered, origin_within}
use Rattle.path_back.proofs.corner.recover.Goals as goal

pub back-init : goal.back-init
back-init c = record { inside = c.requires.label; back = back_first _ _ _ _ c.requires.label c.new-corners.ensures.items }

pub back-smaller : goal.back-smaller
back-smaller c = (origin_within _ _ c.back.at.0 c.label-label.result c.in-Some.origin c.requires.traced c.label-label.ensures c.in-Some.is).0

pub back-preserved : goal.back-preserved
back-preserved c = record {
  inside = (origin_within _ _ c.back.at.0 c.label-label.result c.in-Some.origin c.requires.traced c.label-label.ensures c.in-Some.is).1;
  back = rw (gathered _ _ (corner_of c.label-label.result) c.in_ok-push.ensures.items) (back_more _ _ _ c.back.at.0 _ c.label-label.result c.in-Some.origin c.requires.traced c.label-label.ensures c.in-Some.is c.back.invariant.back);
}

pub returns-in-None : goal.returns-in-None
returns-in-None c = back_whole _ _ _ c.back.at.0 (reverse c.back.corners.items) _ c.label-label.result c.requires.traced c.label-label.ensures c.in-None.is
    (c.reverse.ensures.items ∙ gathered _ _ (corner_of c.label-label.result) c.in_ok-push.ensures.items) c.back.invariant.back
