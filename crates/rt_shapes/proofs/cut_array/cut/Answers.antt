use Rattle.std.proofs.Common.{◌≡◌, ◌∙◌, ap, to_z, of_z, w64, rules}
use Rattle.std.proofs.lemmas.Int.{to_z-of_z}
use Rattle.rt_base.specs.declared.geometry.Span.{Span}
use Rattle.rt_shapes.specs.GeneratedVias.{width_of, height_of, cut_range_of}
use Rattle.rt_shapes.proofs.cut_array.cut.Goals as goal

pub returns-clause-exact : goal.returns-clause-exact
returns-clause-exact c =
    let f = c.args.form.now in
    let columns : to_z w64 (of_z w64 f.columns) ≡ f.columns = to_z-of_z w64 _ (search rules) in
    let cut_x : to_z w64 (of_z w64 f.cut.0) ≡ f.cut.0 = to_z-of_z w64 _ (search rules) in
    let gap_x : to_z w64 (of_z w64 f.spacing.0) ≡ f.spacing.0 = to_z-of_z w64 _ (search rules) in
    let rows : to_z w64 (of_z w64 f.rows) ≡ f.rows = to_z-of_z w64 _ (search rules) in
    let cut_y : to_z w64 (of_z w64 f.cut.1) ≡ f.cut.1 = to_z-of_z w64 _ (search rules) in
    let gap_y : to_z w64 (of_z w64 f.spacing.1) ≡ f.spacing.1 = to_z-of_z w64 _ (search rules) in
    let x : c.range_at-x.result ≡ cut_range_of (width_of f) c.args.column f.cut.0 f.spacing.0 = rw (columns, cut_x, gap_x) at c.range_at-x.ensures.exact in
    let y : c.range_at-y.result ≡ cut_range_of (height_of f) c.args.row f.cut.1 f.spacing.1 = rw (rows, cut_y, gap_y) at c.range_at-y.ensures.exact in
    let xl : to_z w64 (of_z w64 c.range_at-x.result.lo) ≡ (cut_range_of (width_of f) c.args.column f.cut.0 f.spacing.0).lo = to_z-of_z w64 _ (search rules) ∙ ap (λ (s : Span). s.lo) x in
    let xh : to_z w64 (of_z w64 c.range_at-x.result.hi) ≡ (cut_range_of (width_of f) c.args.column f.cut.0 f.spacing.0).hi = to_z-of_z w64 _ (search rules) ∙ ap (λ (s : Span). s.hi) x in
    let yl : to_z w64 (of_z w64 c.range_at-y.result.lo) ≡ (cut_range_of (height_of f) c.args.row f.cut.1 f.spacing.1).lo = to_z-of_z w64 _ (search rules) ∙ ap (λ (s : Span). s.lo) y in
    let yh : to_z w64 (of_z w64 c.range_at-y.result.hi) ≡ (cut_range_of (height_of f) c.args.row f.cut.1 f.spacing.1).hi = to_z-of_z w64 _ (search rules) ∙ ap (λ (s : Span). s.hi) y in
    rw (xl, yl, xh, yh)
