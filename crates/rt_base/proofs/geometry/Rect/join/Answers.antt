use Rattle.std.proofs.Common.{◌≡◌, ◌∙◌, ℤ, refl, ap, arith, to_z, of_z, w64}
use Rattle.std.proofs.lemmas.Int.{to_z-of_z}
use Rattle.std.specs.Int.{int_min, int_max}
use Rattle.rt_base.specs.Sides.{Sides}
use Rattle.rt_base.specs.Geometry.{hull_of_sides}
use Rattle.rt_base.proofs.geometry.Rect.join.Goals as goal

same_sides : (a b c d p q r s : ℤ) → a ≡ p → b ≡ q → c ≡ r → d ≡ s → (let x : Sides = record { xl = a; yl = b; xh = c; yh = d } in x) ≡ record { xl = p; yl = q; xh = r; yh = s }
same_sides a b c d p q r s e f g h = rw (e, f, g, h) refl

pub returns : goal.returns
returns c =
    let xl : to_z w64 (of_z w64 c.min.result) ≡ int_min c.self.inside.xl c.other.inside.xl = grind (arith, to_z-of_z) in
    let yl : to_z w64 (of_z w64 c.min-2.result) ≡ int_min c.self.inside.yl c.other.inside.yl = grind (arith, to_z-of_z) in
    let xh : to_z w64 (of_z w64 c.max.result) ≡ int_max c.self.inside.xh c.other.inside.xh = grind (arith, to_z-of_z) in
    let yh : to_z w64 (of_z w64 c.max-2.result) ≡ int_max c.self.inside.yh c.other.inside.yh = grind (arith, to_z-of_z) in
    let rect : Sides = record { xl = c.other.inside.xl; yl = c.other.inside.yl; xh = c.other.inside.xh; yh = c.other.inside.yh } in
    same_sides _ _ _ _ _ _ _ _ xl yl xh yh
    ∙ ap (λ (s : Sides). hull_of_sides s rect) c.self.view_is
    ∙ ap (λ (s : Sides). hull_of_sides c.args.self s) c.other.view_is
