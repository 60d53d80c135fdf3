use Rattle.std.proofs.Common.{◌≡◌, ◌<◌, ◌≤◌, pos, length, Some, slice_get, slice_index_or, Contains, refl, sym, ap, ◌∙◌, subst, arith, ⊎_elim}
use Rattle.std.proofs.lemmas.Bool.{cases_lt}
use Rattle.std.proofs.lemmas.Option.{same_Some, slice_get-get_or}
use Rattle.std.proofs.lemmas.List.Elements.{Contains-get_or}
use Rattle.label_arena.specs.declared.place.Place.{Place}
use Rattle.interval_label.specs.declared.marking.Mark.{Mark}
use Rattle.interval_label.proofs.MarkList.{at_index}
use Rattle.interval_label.proofs.marking.has.Goals as goal

same_mark : (x y : Mark) → x.coord ≡ y.coord → x ≡ y
same_mark x y e = ap (λ z. let m : Mark = record { coord = z } in m) e

pub returns-then-is_at-clause-yes : goal.returns-then-is_at-clause-yes
returns-then-is_at-clause-yes c =
    let m : Mark = slice_index_or c.args.row.now c.row.mark-index (record { coord = pos 0 }) in
    let e : m.coord ≡ c.args.place.coord = sym (ap (λ (p : Place). p.coord) c.on-other.ensures) ∙ c.if-is_at.ensures.yes in
    subst (λ (n : Mark). Contains c.args.row.now n) (same_mark m (record { coord = c.args.place.coord }) e) (Contains-get_or c.args.row.now c.row.mark-index (record { coord = pos 0 }) c.row-test.true)

pub row-preserved : goal.row-preserved
row-preserved c j m l h e = ⊎_elim
    (λ (l : j < c.row.mark-index). c.row.invariant j m l h e)
    (λ (k : c.row.mark-index ≤ j).
    let i : c.row.mark-index ≡ j = omega (arith, l) in
    let here : slice_get c.args.row.now c.row.mark-index ≡ Some (slice_index_or c.args.row.now c.row.mark-index (record { coord = pos 0 })) = slice_get-get_or c.args.row.now c.row.mark-index (record { coord = pos 0 }) c.row-test.true in
    let same : slice_index_or c.args.row.now c.row.mark-index (record { coord = pos 0 }) ≡ m = same_Some _ m (sym here ∙ ap (slice_get c.args.row.now) i ∙ h) in
    c.if-is_at.ensures.no (ap (λ (p : Place). p.coord) c.on-other.ensures ∙ ap (λ (n : Mark). n.coord) same ∙ e))
    (cases_lt j c.row.mark-index)

pub returns-clause-no : goal.returns-clause-no
returns-clause-no c h =
    let w : h.0 < length c.args.row.now = h.1 in
    c.row.invariant h.0 (record { coord = c.args.place.coord }) (omega (arith, w, c.row-test.false)) (at_index c.args.row.now (record { coord = c.args.place.coord }) h) refl
