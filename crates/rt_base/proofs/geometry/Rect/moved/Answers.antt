use Rattle.std.proofs.Common.{◌^◌, ap}
use Rattle.rt_base.specs.Sides.{Sides}
use Rattle.rt_base.specs.Ranges.{IsPointWithin, AreSidesWithin}
use Rattle.rt_base.proofs.Ranges.{sum_is, moved_ordered}
use Rattle.rt_base.proofs.geometry.Rect.moved.Goals as goal

pub invariant_of-result : goal.invariant_of-result
invariant_of-result c =
    let s : AreSidesWithin (2 ^ 61) c.args.self = c.requires.rect in
    let p : IsPointWithin (2 ^ 61) c.args.by = c.requires.by in
    let is = c.self.view_is in
    let xl = sum_is c.self.inside.xl c.args.self.xl c.args.by.x (ap (λ (r : Sides). r.xl) is) s.0 p.0 in
    let yl = sum_is c.self.inside.yl c.args.self.yl c.args.by.y (ap (λ (r : Sides). r.yl) is) s.1 p.1 in
    let xh = sum_is c.self.inside.xh c.args.self.xh c.args.by.x (ap (λ (r : Sides). r.xh) is) s.2 p.0 in
    let yh = sum_is c.self.inside.yh c.args.self.yh c.args.by.y (ap (λ (r : Sides). r.yh) is) s.3 p.1 in
    rw (xl, yl, xh, yh) (moved_ordered _ _ _ (rw (ap (λ (r : Sides). r.xl) is, ap (λ (r : Sides). r.xh) is) at c.self.invariant.0), moved_ordered _ _ _ (rw (ap (λ (r : Sides). r.yl) is, ap (λ (r : Sides). r.yh) is) at c.self.invariant.1))

pub returns : goal.returns
returns c =
    let s : AreSidesWithin (2 ^ 61) c.args.self = c.requires.rect in
    let p : IsPointWithin (2 ^ 61) c.args.by = c.requires.by in
    let is = c.self.view_is in
    let xl = sum_is c.self.inside.xl c.args.self.xl c.args.by.x (ap (λ (r : Sides). r.xl) is) s.0 p.0 in
    let yl = sum_is c.self.inside.yl c.args.self.yl c.args.by.y (ap (λ (r : Sides). r.yl) is) s.1 p.1 in
    let xh = sum_is c.self.inside.xh c.args.self.xh c.args.by.x (ap (λ (r : Sides). r.xh) is) s.2 p.0 in
    let yh = sum_is c.self.inside.yh c.args.self.yh c.args.by.y (ap (λ (r : Sides). r.yh) is) s.3 p.1 in
    rw (xl, yl, xh, yh)
