use Rattle.std.proofs.Common.{◌≡◌, ◌≤ℤ◌, ◌<ℤ◌, ◌+ℤ◌, pos, to_z, of_z, w64, sym, subst, ap, ◌∙◌, rules, arith, ℤ}
use Rattle.std.proofs.lemmas.Bool.{false≢true}
use Rattle.std.proofs.lemmas.Int.{ints, to_z-of_z}
use Rattle.rt_base.specs.declared.geometry.Point.{Point}
use Rattle.plain_route.specs.Ground.{Reaches}
use Rattle.plain_route.proofs.GuideLemmas.{RowBefore, row_start, row_more, row_covered, row_uncovered, row_nearer, row_later, next_within, no_later}
use Rattle.plain_route.proofs.guide.covers_row.Goals as goal

pub loop-far-init : goal.loop-far-init
loop-far-init c =
    let x : c.low-at.result.x ≡ c.args.segment.xl = ap (λ (p : Point). p.x) c.low-at.ensures in
    record {
      row = ap (λ (p : Point). p.y) c.low-at.ensures;
      from = no_later _ _ (sym x);
      to = subst (λ (z : ℤ). z ≤ℤ c.args.segment.xh) (sym x) c.high-end.ensures.wide;
      before = row_start _ _ c.args.segment c.low-at.result c.low-at.ensures;
    }

pub returns-then-far-end : goal.returns-then-far-end
returns-then-far-end c =
    let h : Reaches c.args.guide.now c.args.level c.loop-far.at c.in-Some.far = c.in-Some.ensures.some in
    let e : to_z w64 (of_z w64 c.high-end.result.x) ≡ c.high-end.result.x = to_z-of_z w64 _ (search rules) in
    let f : to_z w64 (of_z w64 c.in-Some.far.x) ≡ c.in-Some.far.x = to_z-of_z w64 _ (search rules) in
    let past : c.high-end.result.x ≤ℤ c.in-Some.far.x = let t = rw (e, f) at c.if-far-end.true in grind (arith, ints) in
    let past_end : c.args.segment.xh ≤ℤ c.in-Some.far.x = subst (λ (p : Point). p.x ≤ℤ c.in-Some.far.x) c.high-end.ensures.corner past in
    let inv = c.loop-far.invariant in
    (λ _. row_covered _ _ c.args.segment c.in-Some.far.x c.requires (row_more _ _ c.args.segment c.loop-far.at c.in-Some.far inv.row inv.before h) past_end, λ _. search rules)

pub loop-far-smaller : goal.loop-far-smaller
loop-far-smaller c =
    let h : Reaches c.args.guide.now c.args.level c.loop-far.at c.in-Some.far = c.in-Some.ensures.some in
    let e : to_z w64 (of_z w64 c.high-end.result.x) ≡ c.high-end.result.x = to_z-of_z w64 _ (search rules) in
    let f : to_z w64 (of_z w64 c.in-Some.far.x) ≡ c.in-Some.far.x = to_z-of_z w64 _ (search rules) in
    let before : c.in-Some.far.x <ℤ c.high-end.result.x = let t = rw (e, f) at c.if-far-end.false in grind (arith, ints) in
    let before_end : c.in-Some.far.x <ℤ c.args.segment.xh = subst (λ (p : Point). c.in-Some.far.x <ℤ p.x) c.high-end.ensures.corner before in
    let next : c.right_of-at.result.x ≡ c.in-Some.far.x +ℤ pos 1 = ap (λ (p : Point). p.x) c.right_of-at.ensures in
    rw next (row_nearer _ _ c.loop-far.at c.in-Some.far c.args.segment.xh h before_end)

pub loop-far-preserved : goal.loop-far-preserved
loop-far-preserved c =
    let h : Reaches c.args.guide.now c.args.level c.loop-far.at c.in-Some.far = c.in-Some.ensures.some in
    let e : to_z w64 (of_z w64 c.high-end.result.x) ≡ c.high-end.result.x = to_z-of_z w64 _ (search rules) in
    let f : to_z w64 (of_z w64 c.in-Some.far.x) ≡ c.in-Some.far.x = to_z-of_z w64 _ (search rules) in
    let before : c.in-Some.far.x <ℤ c.high-end.result.x = let t = rw (e, f) at c.if-far-end.false in grind (arith, ints) in
    let before_end : c.in-Some.far.x <ℤ c.args.segment.xh = subst (λ (p : Point). c.in-Some.far.x <ℤ p.x) c.high-end.ensures.corner before in
    let next : c.in-Some.far.x +ℤ pos 1 ≡ c.right_of-at.result.x = sym (ap (λ (p : Point). p.x) c.right_of-at.ensures) in
    let inv = c.loop-far.invariant in
    record {
      row = ap (λ (p : Point). p.y) c.right_of-at.ensures ∙ ap (λ (p : Point). p.y) c.high-end.ensures.corner ∙ sym c.requires;
      from = subst (λ (z : ℤ). c.args.segment.xl ≤ℤ z) next (row_later _ _ c.loop-far.at c.in-Some.far c.args.segment.xl h inv.from);
      to = subst (λ (z : ℤ). z ≤ℤ c.args.segment.xh) next (next_within _ _ before_end);
      before = subst (RowBefore c.args.guide.now c.args.level c.args.segment) next (row_more _ _ c.args.segment c.loop-far.at c.in-Some.far inv.row inv.before h);
    }

pub returns : goal.returns
returns c =
    let inv = c.loop-far.invariant in
    (λ t. absurd (false≢true t), λ all. absurd (row_uncovered _ _ c.args.segment c.loop-far.at c.requires inv.row inv.from inv.to c.in_default.ensures.none all))
