use Rattle.std.proofs.Common.{subst}
use Rattle.std.proofs.lemmas.List.{take_all}
use Rattle.lef_text.specs.declared.lef.Macro.{Macro}
use Rattle.cells.specs.Firsts.{ArePlaces}
use Rattle.cells.proofs.FirstLemmas.{claims_more}
use Rattle.cells.proofs.index.macros_by_name.Goals as goal

pub loop-place-preserved : goal.loop-place-preserved
loop-place-preserved c =
    claims_more (λ (m : Macro). m.name) c.args.macros.now c.loop-place.place c.index-macros-place.result c.loop-place.places c.claim.new.self c.bytes.result.now c.loop-place-test.true c.index-macros-place.is c.bytes.ensures c.loop-place.invariant c.in_ok-claim.ensures.paired c.in_ok-claim.ensures.claimed

pub returns : goal.returns
returns c = subst (λ xs. ArePlaces (λ (m : Macro). m.name) xs c.loop-place.places) (take_all c.loop-place.place c.args.macros.now c.loop-place-test.false) c.loop-place.invariant
