use Rattle.std.proofs.Common.{◌≡◌, to_z, of_z, w64, ap, ◌∙◌, rules}
use Rattle.std.proofs.lemmas.Int.{to_z-of_z}
use Rattle.rt_base.specs.Sides.{Sides}
use Rattle.rt_base.specs.Geometry.{nearest}
use Rattle.rt_base.proofs.geometry.Rect.nearest.Goals as goal

pub returns : goal.returns
returns c =
    let s = c.args.self in
    let xl : to_z w64 (of_z w64 c.self.inside.xl) ≡ s.xl = to_z-of_z w64 _ (search rules) ∙ ap (λ (r : Sides). r.xl) c.self.view_is in
    let xh : to_z w64 (of_z w64 c.self.inside.xh) ≡ s.xh = to_z-of_z w64 _ (search rules) ∙ ap (λ (r : Sides). r.xh) c.self.view_is in
    let yl : to_z w64 (of_z w64 c.self.inside.yl) ≡ s.yl = to_z-of_z w64 _ (search rules) ∙ ap (λ (r : Sides). r.yl) c.self.view_is in
    let yh : to_z w64 (of_z w64 c.self.inside.yh) ≡ s.yh = to_z-of_z w64 _ (search rules) ∙ ap (λ (r : Sides). r.yh) c.self.view_is in
    let tx : to_z w64 (of_z w64 c.args.p.x) ≡ c.args.p.x = to_z-of_z w64 _ (search rules) in
    let ty : to_z w64 (of_z w64 c.args.p.y) ≡ c.args.p.y = to_z-of_z w64 _ (search rules) in
    let x : to_z w64 (of_z w64 c.nearest.result) ≡ nearest s.xl s.xh c.args.p.x = to_z-of_z w64 _ (search rules) ∙ (rw (xl, xh, tx) at c.nearest.ensures) in
    let y : to_z w64 (of_z w64 c.nearest-2.result) ≡ nearest s.yl s.yh c.args.p.y = to_z-of_z w64 _ (search rules) ∙ (rw (yl, yh, ty) at c.nearest-2.ensures) in
    rw (x, y)
