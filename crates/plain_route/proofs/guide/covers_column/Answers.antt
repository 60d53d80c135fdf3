use Rattle.std.proofs.Common.{◌≡◌, ◌≤ℤ◌, ◌<ℤ◌, ◌+ℤ◌, pos, to_z, of_z, w64, sym, subst, ap, ◌∙◌, rules, arith, ℤ}
use Rattle.std.proofs.lemmas.Bool.{false≢true}
use Rattle.std.proofs.lemmas.Int.{ints, to_z-of_z}
use Rattle.rt_base.specs.declared.geometry.Point.{Point}
use Rattle.plain_route.specs.Ground.{Reaches}
use Rattle.plain_route.proofs.GuideLemmas.{ColumnBefore, column_start, column_more, column_covered, column_uncovered, column_nearer, column_later, next_within, no_later}
use Rattle.plain_route.proofs.guide.covers_column.Goals as goal

pub loop-far-init : goal.loop-far-init
loop-far-init c =
    let x : c.low-at.result.y ≡ c.args.segment.yl = ap (λ (p : Point). p.y) c.low-at.ensures in
    record {
      column = ap (λ (p : Point). p.x) c.low-at.ensures;
      from = no_later _ _ (sym x);
      to = subst (λ (z : ℤ). z ≤ℤ c.args.segment.yh) (sym x) c.high-end.ensures.tall;
      before = column_start _ _ c.args.segment c.low-at.result c.low-at.ensures;
    }

pub returns-then-far-end : goal.returns-then-far-end
returns-then-far-end c =
    let h : Reaches c.args.guide.now c.args.level c.loop-far.at c.in-Some.far = c.in-Some.ensures.some in
    let e : to_z w64 (of_z w64 c.high-end.result.y) ≡ c.high-end.result.y = to_z-of_z w64 _ (search rules) in
    let f : to_z w64 (of_z w64 c.in-Some.far.y) ≡ c.in-Some.far.y = to_z-of_z w64 _ (search rules) in
    let past : c.high-end.result.y ≤ℤ c.in-Some.far.y = let t = rw (e, f) at c.if-far-end.true in grind (arith, ints) in
    let past_end : c.args.segment.yh ≤ℤ c.in-Some.far.y = subst (λ (p : Point). p.y ≤ℤ c.in-Some.far.y) c.high-end.ensures.corner past in
    let inv = c.loop-far.invariant in
    (λ _. column_covered _ _ c.args.segment c.in-Some.far.y c.requires (column_more _ _ c.args.segment c.loop-far.at c.in-Some.far inv.column inv.before h) past_end, λ _. search rules)

pub loop-far-smaller : goal.loop-far-smaller
loop-far-smaller c =
    let h : Reaches c.args.guide.now c.args.level c.loop-far.at c.in-Some.far = c.in-Some.ensures.some in
    let e : to_z w64 (of_z w64 c.high-end.result.y) ≡ c.high-end.result.y = to_z-of_z w64 _ (search rules) in
    let f : to_z w64 (of_z w64 c.in-Some.far.y) ≡ c.in-Some.far.y = to_z-of_z w64 _ (search rules) in
    let before : c.in-Some.far.y <ℤ c.high-end.result.y = let t = rw (e, f) at c.if-far-end.false in grind (arith, ints) in
    let before_end : c.in-Some.far.y <ℤ c.args.segment.yh = subst (λ (p : Point). c.in-Some.far.y <ℤ p.y) c.high-end.ensures.corner before in
    let next : c.above-at.result.y ≡ c.in-Some.far.y +ℤ pos 1 = ap (λ (p : Point). p.y) c.above-at.ensures in
    rw next (column_nearer _ _ c.loop-far.at c.in-Some.far c.args.segment.yh h before_end)

pub loop-far-preserved : goal.loop-far-preserved
loop-far-preserved c =
    let h : Reaches c.args.guide.now c.args.level c.loop-far.at c.in-Some.far = c.in-Some.ensures.some in
    let e : to_z w64 (of_z w64 c.high-end.result.y) ≡ c.high-end.result.y = to_z-of_z w64 _ (search rules) in
    let f : to_z w64 (of_z w64 c.in-Some.far.y) ≡ c.in-Some.far.y = to_z-of_z w64 _ (search rules) in
    let before : c.in-Some.far.y <ℤ c.high-end.result.y = let t = rw (e, f) at c.if-far-end.false in grind (arith, ints) in
    let before_end : c.in-Some.far.y <ℤ c.args.segment.yh = subst (λ (p : Point). c.in-Some.far.y <ℤ p.y) c.high-end.ensures.corner before in
    let next : c.in-Some.far.y +ℤ pos 1 ≡ c.above-at.result.y = sym (ap (λ (p : Point). p.y) c.above-at.ensures) in
    let inv = c.loop-far.invariant in
    record {
      column = ap (λ (p : Point). p.x) c.above-at.ensures ∙ ap (λ (p : Point). p.x) c.high-end.ensures.corner ∙ sym c.requires;
      from = subst (λ (z : ℤ). c.args.segment.yl ≤ℤ z) next (column_later _ _ c.loop-far.at c.in-Some.far c.args.segment.yl h inv.from);
      to = subst (λ (z : ℤ). z ≤ℤ c.args.segment.yh) next (next_within _ _ before_end);
      before = subst (ColumnBefore c.args.guide.now c.args.level c.args.segment) next (column_more _ _ c.args.segment c.loop-far.at c.in-Some.far inv.column inv.before h);
    }

pub returns : goal.returns
returns c =
    let inv = c.loop-far.invariant in
    (λ t. absurd (false≢true t), λ all. absurd (column_uncovered _ _ c.args.segment c.loop-far.at c.requires inv.column inv.from inv.to c.in_default.ensures.none all))
