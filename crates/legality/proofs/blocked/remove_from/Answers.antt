use Rattle.std.proofs.Common.{◌≡◌, ◌<◌, ◌∙◌, Contains, List, length, get_or, refl, ap, sym, arith}
use Rattle.std.proofs.lemmas.List.{get_or_default}
use Rattle.std.proofs.lemmas.List.Elements.{AllWithin-more}
use Rattle.legality.specs.Rows.{RowOf, row_kept, kept_in}
use Rattle.legality.proofs.RowLemmas.{part_less, part_back, none_in_parts, row_less, rows_shapes}
use Rattle.legality.proofs.blocked.remove_from.Goals as goal

pub loop-i-preserved : goal.loop-i-preserved
loop-i-preserved c =
    let rs = c.loop-i.rows.items in
    let old = c.index_mut-row.result.now in
    let long : length rs ≡ length c.args.rows.now.items = ap (λ (l : List RowOf). length l) c.loop-i.invariant.same in
    let less : c.loop-i.i < length rs = omega arith in
    record {
      same = part_back rs c.loop-i.i old c.remove.new.self c.index_mut-row.ensures.value c.if-remove.ensures.same ∙ c.loop-i.invariant.same;
      none = AllWithin-more (λ (r : RowOf). Contains r.shapes c.args.shape.now → ⊥) c.args.rows.now.items 0 c.loop-i.i c.loop-i.invariant.none (λ d.
          (let here : get_or rs c.loop-i.i d ≡ old = get_or_default rs c.loop-i.i d old less ∙ sym c.index_mut-row.ensures.value in rw (← c.loop-i.invariant.same, here) c.if-remove.ensures.absent));
    }

pub returns-then-remove-clause-found : goal.returns-then-remove-clause-found
returns-then-remove-clause-found c =
    let rs = c.loop-i.rows.items in
    let old = c.index_mut-row.result.now in
    let long : length rs ≡ length c.args.rows.now.items = ap (λ (l : List RowOf). length l) c.loop-i.invariant.same in
    let less : c.loop-i.i < length rs = omega arith in
    (kept_in old.rule c.args.shape.now, refl, rw (← c.loop-i.invariant.same) (part_less row_kept rs c.loop-i.i old c.remove.new.self (kept_in old.rule c.args.shape.now) less c.index_mut-row.ensures.value (row_less old c.remove.new.self c.args.shape.now c.if-remove.ensures.rule c.if-remove.ensures.found)))

pub returns-clause-absent : goal.returns-clause-absent
returns-clause-absent c = rw (rows_shapes c.args.rows.now.items) (none_in_parts (λ (r : RowOf). r.shapes) c.args.rows.now.items c.loop-i.i c.args.shape.now (omega arith) c.loop-i.invariant.none)
