-- Macros whose numbers are in range, so that they can be placed.
use Rattle.std.specs.Prelude.{ℕ, ◌^◌, List, All}
use Rattle.rt_base.specs.Sides.{Sides}
use Rattle.rt_base.specs.Ranges.{IsWithin, AreSidesWithin}
use Rattle.rt_base.specs.declared.tech.LayerNo.{LayerNo}
use Rattle.lef_text.specs.declared.lef.Macro.{Macro}

abbrev pub AreNear : List (LayerNo × Sides) → Type 0
AreNear rects = All (λ (r : LayerNo × Sides). AreSidesWithin (2 ^ 31) r.1) rects

pub record IsPlaceable (m : Macro) : Type 0 where
  pub w : IsWithin (2 ^ 30) m.w
  pub h : IsWithin (2 ^ 30) m.h
  pub pins : All (λ (p : List ℕ × List (LayerNo × Sides)). AreNear p.1) m.pins
  pub obs : AreNear m.obs
