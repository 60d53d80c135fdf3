use Rattle.std.proofs.Common.{◌≡◌, ℤ, ◌&&◌, true, IfOk, w64, subst}
use Rattle.std.specs.List.{list_any}
use Rattle.std.proofs.lemmas.Int.{to_z-of_z}
use Rattle.regions.specs.Spans.{AreSpansOf}
use Rattle.legality.specs.Rules.{Kept, kept_forbids, is_other}
use Rattle.legality.proofs.blocked.Blocked.spans.Goals as goal

pub returns : goal.returns
returns c =
    subst (λ (at : ℤ). IfOk c.spans_of.result (λ v. AreSpansOf (λ z. list_any (λ (k : Kept). is_other c.args.net k.shape && kept_forbids c.args.level at z k) c.args.self.now ≡ true) v.items)) (to_z-of_z w64 c.args.line c.ranges.line) c.spans_of.ensures
