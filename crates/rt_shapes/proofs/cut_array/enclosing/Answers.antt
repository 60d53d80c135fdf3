use Rattle.std.proofs.Common.{◌≡◌, ◌∙◌, ap, to_z, of_z, w64, rules}
use Rattle.std.proofs.lemmas.Int.{to_z-of_z}
use Rattle.rt_base.specs.declared.geometry.Span.{Span}
use Rattle.rt_shapes.specs.GeneratedVias.{width_of, height_of, range_of}
use Rattle.rt_shapes.proofs.cut_array.enclosing.Goals as goal

pub returns-clause-exact : goal.returns-clause-exact
returns-clause-exact c =
    let f = c.args.form.now in
    let columns : to_z w64 (of_z w64 f.columns) ≡ f.columns = to_z-of_z w64 _ (search rules) in
    let cut_x : to_z w64 (of_z w64 f.cut.0) ≡ f.cut.0 = to_z-of_z w64 _ (search rules) in
    let gap_x : to_z w64 (of_z w64 f.spacing.0) ≡ f.spacing.0 = to_z-of_z w64 _ (search rules) in
    let rows : to_z w64 (of_z w64 f.rows) ≡ f.rows = to_z-of_z w64 _ (search rules) in
    let cut_y : to_z w64 (of_z w64 f.cut.1) ≡ f.cut.1 = to_z-of_z w64 _ (search rules) in
    let gap_y : to_z w64 (of_z w64 f.spacing.1) ≡ f.spacing.1 = to_z-of_z w64 _ (search rules) in
    let dx : to_z w64 (of_z w64 c.args.dx) ≡ c.args.dx = to_z-of_z w64 _ c.ranges.dx in
    let dy : to_z w64 (of_z w64 c.args.dy) ≡ c.args.dy = to_z-of_z w64 _ c.ranges.dy in
    let x : c.range_round-x.result ≡ range_of (width_of f) c.args.dx = rw (columns, cut_x, gap_x, dx) at c.range_round-x.ensures.exact in
    let y : c.range_round-y.result ≡ range_of (height_of f) c.args.dy = rw (rows, cut_y, gap_y, dy) at c.range_round-y.ensures.exact in
    let xl : to_z w64 (of_z w64 c.range_round-x.result.lo) ≡ (range_of (width_of f) c.args.dx).lo = to_z-of_z w64 _ (search rules) ∙ ap (λ (s : Span). s.lo) x in
    let xh : to_z w64 (of_z w64 c.range_round-x.result.hi) ≡ (range_of (width_of f) c.args.dx).hi = to_z-of_z w64 _ (search rules) ∙ ap (λ (s : Span). s.hi) x in
    let yl : to_z w64 (of_z w64 c.range_round-y.result.lo) ≡ (range_of (height_of f) c.args.dy).lo = to_z-of_z w64 _ (search rules) ∙ ap (λ (s : Span). s.lo) y in
    let yh : to_z w64 (of_z w64 c.range_round-y.result.hi) ≡ (range_of (height_of f) c.args.dy).hi = to_z-of_z w64 _ (search rules) ∙ ap (λ (s : Span). s.hi) y in
    rw (xl, yl, xh, yh)
