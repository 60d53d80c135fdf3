use Rattle.std.proofs.Common.{take}
use Rattle.regions.proofs.CoverLemmas.{ArePartsOf}
use Rattle.regions.proofs.cover.parts.Given as goal

abbrev pub invariant-loop-guide_box : goal.invariant-loop-guide_box
invariant-loop-guide_box l = ArePartsOf l.line l.level (take l.guide_box-index l.guide) l.spans.items
