use Rattle.std.proofs.Common.{◌≡◌, ◌<◌, ◌∙◌, Contains, List, length, get_or, ap, sym, arith}
use Rattle.std.proofs.lemmas.List.{get_or_default}
use Rattle.std.proofs.lemmas.List.Elements.{AllWithin-more}
use Rattle.shape_grid.specs.Cells.{Kept}
use Rattle.shape_grid.proofs.Tables.{table_less, written_back, in_none}
use Rattle.shape_grid.proofs.tile.remove_from.Goals as goal

pub loop-i-preserved : goal.loop-i-preserved
loop-i-preserved c =
    let ts = c.loop-i.tables.items in
    let old = c.index_mut-table.result.now in
    let long : length ts ≡ length c.args.tables.now.items = ap (λ (l : List Kept). length l) c.loop-i.invariant.same in
    let less : c.loop-i.i < length ts = omega arith in
    record {
      same = written_back ts c.loop-i.i old c.remove.new.self c.index_mut-table.ensures.value c.if-remove.ensures.same ∙ c.loop-i.invariant.same;
      none = AllWithin-more (λ (t : Kept). Contains t.shapes c.args.shape.now → ⊥) c.args.tables.now.items 0 c.loop-i.i c.loop-i.invariant.none (λ d.
          (let here : get_or ts c.loop-i.i d ≡ old = get_or_default ts c.loop-i.i d old less ∙ sym c.index_mut-table.ensures.value in rw (← c.loop-i.invariant.same, here) c.if-remove.ensures.absent));
    }

pub returns-then-remove-clause-found : goal.returns-then-remove-clause-found
returns-then-remove-clause-found c =
    let ts = c.loop-i.tables.items in
    let long : length ts ≡ length c.args.tables.now.items = ap (λ (l : List Kept). length l) c.loop-i.invariant.same in
    let less : c.loop-i.i < length ts = omega arith in
    rw (← c.loop-i.invariant.same) (table_less ts c.loop-i.i c.index_mut-table.result.now c.remove.new.self c.args.shape.now less c.index_mut-table.ensures.value c.if-remove.ensures.found)

pub returns-clause-absent : goal.returns-clause-absent
returns-clause-absent c =
    in_none c.args.tables.now.items c.loop-i.i c.args.shape.now (omega arith) c.loop-i.invariant.none
