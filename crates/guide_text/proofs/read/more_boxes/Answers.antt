use Rattle.std.proofs.Common.{sym, subst, All}
use Rattle.guide_text.specs.IsGuides.{IsBox}
use Rattle.guide_text.proofs.Listing.{all_one}
use Rattle.guide_text.proofs.read.more_boxes.Goals as goal

pub returns-clause-sound : goal.returns-clause-sound
returns-clause-sound c = subst (λ bs. All IsBox bs) (sym c.in_ok-push.ensures.ok) (all_one IsBox c.args.boxes.now c.in_ok-box_from.field-0 c.requires c.in_ok-box_from.ensures.sound)
