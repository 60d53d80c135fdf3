use Rattle.std.proofs.Common.{◌^◌, ap}
use Rattle.rt_base.specs.Sides.{Sides}
use Rattle.rt_base.specs.Ranges.{IsWithin, AreSidesWithin}
use Rattle.rt_base.proofs.Ranges.{sum_is, diff_is, within-from_range, grown_ordered}
use Rattle.rt_base.proofs.geometry.Rect.grown.Goals as goal

pub invariant_of-result : goal.invariant_of-result
invariant_of-result c =
    let s : AreSidesWithin (2 ^ 61) c.args.self = c.requires.rect in
    let by : IsWithin (2 ^ 61) c.args.by = within-from_range _ _ c.requires.low c.requires.high in
    let is = c.self.view_is in
    let xl = diff_is c.self.inside.xl c.args.self.xl c.args.by (ap (λ (r : Sides). r.xl) is) s.0 by in
    let yl = diff_is c.self.inside.yl c.args.self.yl c.args.by (ap (λ (r : Sides). r.yl) is) s.1 by in
    let xh = sum_is c.self.inside.xh c.args.self.xh c.args.by (ap (λ (r : Sides). r.xh) is) s.2 by in
    let yh = sum_is c.self.inside.yh c.args.self.yh c.args.by (ap (λ (r : Sides). r.yh) is) s.3 by in
    rw (xl, yl, xh, yh) (grown_ordered _ _ _ (rw (ap (λ (r : Sides). r.xl) is, ap (λ (r : Sides). r.xh) is) at c.self.invariant.0) c.requires.low, grown_ordered _ _ _ (rw (ap (λ (r : Sides). r.yl) is, ap (λ (r : Sides). r.yh) is) at c.self.invariant.1) c.requires.low)

pub returns : goal.returns
returns c =
    let s : AreSidesWithin (2 ^ 61) c.args.self = c.requires.rect in
    let by : IsWithin (2 ^ 61) c.args.by = within-from_range _ _ c.requires.low c.requires.high in
    let is = c.self.view_is in
    let xl = diff_is c.self.inside.xl c.args.self.xl c.args.by (ap (λ (r : Sides). r.xl) is) s.0 by in
    let yl = diff_is c.self.inside.yl c.args.self.yl c.args.by (ap (λ (r : Sides). r.yl) is) s.1 by in
    let xh = sum_is c.self.inside.xh c.args.self.xh c.args.by (ap (λ (r : Sides). r.xh) is) s.2 by in
    let yh = sum_is c.self.inside.yh c.args.self.yh c.args.by (ap (λ (r : Sides). r.yh) is) s.3 by in
    rw (xl, yl, xh, yh)
