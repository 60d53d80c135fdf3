use Rattle.std.proofs.Common.{◌≡◌, ◌^◌, true, sym, subst}
use Rattle.rt_base.specs.Ranges.{AreSidesWithin}
use Rattle.rt_base.proofs.Ranges.{hull_within}
use Rattle.rt_forms.specs.Reading.{is_name_word}
use Rattle.guide_text.proofs.read.box_from.Goals as goal

pub returns-clause-sound : goal.returns-clause-sound
returns-clause-sound c = (
  subst (λ n. is_name_word n ≡ true) (sym c.in_ok-new.ensures) c.in_ok-layer.ensures.name,
  subst (λ s. AreSidesWithin (2 ^ 30) s) (sym c.hull.ensures) (hull_within (2 ^ 30) c.in_ok-low.low c.in_ok-high.high c.in_ok-low.ensures.small c.in_ok-high.ensures.small),
)
