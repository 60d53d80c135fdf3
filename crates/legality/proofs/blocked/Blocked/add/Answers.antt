use Rattle.std.proofs.Common.{◌≡◌, ◌∙◌, ◌<◌, List, length, get_or, set, Option, ap, sym, subst}
use Rattle.legality.specs.declared.rule.WireRule.{WireRule}
use Rattle.legality.specs.Rows.{RowOf, row_kept, kept_in, all_kept}
use Rattle.legality.specs.Rules.{Says}
use Rattle.legality.proofs.RowLemmas.{part_more, part_same, row_more, row_same, added}
use Rattle.legality.proofs.blocked.Blocked.add.Goals as goal

pub returns-in-Some-clause-ok : goal.returns-in-Some-clause-ok
returns-in-Some-clause-ok c =
    let rs = c.self.inside.rows.items in
    let i = c.in-Some.place in
    let old = c.index_mut-row.result.now in
    let new = c.add.new.self in
    let at : old ≡ get_or c.as_slice.result.now i old = c.index_mut-row.ensures.value ∙ ap (λ (l : List RowOf). get_or l i old) (sym c.as_slice.ensures.value) in
    let rule : old.rule ≡ c.wire_rule-rule.result = ap (λ (r : RowOf). r.rule) at ∙ (c.in-Some.ensures.row old).1 in
    let less : i < length rs = rw (← c.as_slice.ensures.value) c.in-Some.ensures.within in
    added c.add.result c.args.tech.now c.args.shape old.rule c.args.self.now (all_kept (set rs i new)) (subst (λ (o : Option WireRule). Says c.args.tech.now c.args.shape o) (sym rule) c.wire_rule-rule.ensures.rule)
    (rw (← c.self.view_is) (part_more c.add.result row_kept rs i old new (kept_in old.rule c.args.shape) less c.index_mut-row.ensures.value (row_more c.add.result old new c.args.shape c.add.ensures.rule c.add.ensures.ok)))

pub returns-in-Some-clause-err : goal.returns-in-Some-clause-err
returns-in-Some-clause-err c =
    rw (← c.self.view_is) (part_same c.add.result row_kept c.self.inside.rows.items c.in-Some.place c.index_mut-row.result.now c.add.new.self c.index_mut-row.ensures.value (row_same c.add.result c.index_mut-row.result.now c.add.new.self c.add.ensures.rule c.add.ensures.err))
