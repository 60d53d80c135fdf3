use Rattle.std.proofs.Common.{rules}
use Rattle.plain_route.proofs.GuideLemmas.{in_guide_from_box}
use Rattle.plain_route.proofs.guide.is_in_guide.Goals as goal

pub returns-in-Some : goal.returns-in-Some
returns-in-Some c = let h = c.in-Some.ensures.some in (λ _. in_guide_from_box _ _ h.box _ h.holds h.in_guide, λ _. search rules)
