use Rattle.std.proofs.Common.{◌≡◌, ◌<◌, ◌∙◌, Contains, List, length, get_or, ap, sym, arith}
use Rattle.std.proofs.lemmas.List.{get_or_default}
use Rattle.std.proofs.lemmas.List.Elements.{AllWithin-more}
use Rattle.rt_base.specs.declared.tech.Shape.{Shape}
use Rattle.legality.proofs.RowLemmas.{part_less, part_back, none_in_parts}
use Rattle.legality.proofs.row.take_from.Goals as goal

pub loop-i-preserved : goal.loop-i-preserved
loop-i-preserved c =
    let bs = c.loop-i.bands.items in
    let old = c.index_mut-band.result.now in
    let long : length bs ≡ length c.args.bands.now.items = ap (λ (l : List (List Shape)). length l) c.loop-i.invariant.same in
    let less : c.loop-i.i < length bs = omega arith in
    record {
      same = part_back bs c.loop-i.i old c.take.new.self c.index_mut-band.ensures.value c.if-take.ensures.same ∙ c.loop-i.invariant.same;
      none = AllWithin-more (λ (b : List Shape). Contains b c.args.shape.now → ⊥) c.args.bands.now.items 0 c.loop-i.i c.loop-i.invariant.none (λ d.
          (let here : get_or bs c.loop-i.i d ≡ old = get_or_default bs c.loop-i.i d old less ∙ sym c.index_mut-band.ensures.value in rw (← c.loop-i.invariant.same, here) c.if-take.ensures.absent));
    }

pub returns-then-take-clause-found : goal.returns-then-take-clause-found
returns-then-take-clause-found c =
    let bs = c.loop-i.bands.items in
    let long : length bs ≡ length c.args.bands.now.items = ap (λ (l : List (List Shape)). length l) c.loop-i.invariant.same in
    let less : c.loop-i.i < length bs = omega arith in
    rw (← c.loop-i.invariant.same) (part_less (λ (b : List Shape). b) bs c.loop-i.i c.index_mut-band.result.now c.take.new.self c.args.shape.now less c.index_mut-band.ensures.value c.if-take.ensures.found)

pub returns-clause-absent : goal.returns-clause-absent
returns-clause-absent c = none_in_parts (λ (b : List Shape). b) c.args.bands.now.items c.loop-i.i c.args.shape.now (omega arith) c.loop-i.invariant.none
