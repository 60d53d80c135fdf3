use Rattle.std.proofs.Common.{subst}
use Rattle.std.proofs.lemmas.List.{take_all}
use Rattle.def_text.specs.declared.def.Component.{Component}
use Rattle.cells.specs.Firsts.{ArePlaces}
use Rattle.cells.proofs.FirstLemmas.{claims_more}
use Rattle.cells.proofs.index.components_by_name.Goals as goal

pub loop-place-preserved : goal.loop-place-preserved
loop-place-preserved c =
    claims_more (λ (c : Component). c.name) c.args.components.now c.loop-place.place c.index-components-place.result c.loop-place.places c.claim.new.self c.bytes.result.now c.loop-place-test.true c.index-components-place.is c.bytes.ensures c.loop-place.invariant c.in_ok-claim.ensures.paired c.in_ok-claim.ensures.claimed

pub returns : goal.returns
returns c = subst (λ xs. ArePlaces (λ (c : Component). c.name) xs c.loop-place.places) (take_all c.loop-place.place c.args.components.now c.loop-place-test.false) c.loop-place.invariant
