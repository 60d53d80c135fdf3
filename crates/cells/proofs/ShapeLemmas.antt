-- Shapes of components, one after the other.
use Rattle.std.proofs.Common.{◌≡◌, ℕ, ◌<◌, List, length, get_or, All, Option, Some, None, option_and_then, bytes_eq, refl, sym, subst}
use Rattle.std.proofs.lemmas.List.Elements.{All-get_or}
use Rattle.rt_base.specs.Sides.{Sides}
use Rattle.rt_base.specs.declared.tech.LayerNo.{LayerNo}
use Rattle.rt_base.specs.declared.tech.Owner.{Owner}
use Rattle.rt_base.specs.declared.tech.Shape.{Shape}
use Rattle.lef_text.specs.declared.lef.Macro.{Macro}
use Rattle.def_text.specs.declared.def.Component.{Component}
use Rattle.cells.specs.Cells.{macro_of, pin_in, placed_rects, fixed_shapes}
use Rattle.cells.specs.Owners.{cell_owner}
use Rattle.cells.specs.Ranges.{AreNear, IsPlaceable}
use Rattle.cells.proofs.Lists.{All-found}

-- the shapes of a pin of a component
abbrev pub pin_part : (List ℕ × List ℕ → Owner) → Component → Macro → List ℕ × List (LayerNo × Sides) → List Shape
pin_part whose c m p = fixed_shapes (cell_owner whose (c.name, p.0)) (placed_rects m c.placed p.1)

-- the rectangles of a macro's pin are in range
pub near_pin : (m : Macro) (pins : List (List ℕ × List (LayerNo × Sides))) (i : ℕ) (pin : List ℕ × List (LayerNo × Sides)) → IsPlaceable m → pins ≡ m.pins → i < length pins → pin ≡ get_or pins i pin → AreNear pin.1
near_pin m pins i pin ok same within at =
    let near : List ℕ × List (LayerNo × Sides) → Type 0 = λ p. AreNear p.1 in
    subst near (sym at) (All-get_or near pins i pin within (subst (λ (ps : List (List ℕ × List (LayerNo × Sides))). All near ps) (sym same) ok.pins))

-- the macro of a name is one of those
pub placeable_found : (macros : List Macro) (name : List ℕ) (m : Macro) → All IsPlaceable macros → Some m ≡ macro_of macros name → IsPlaceable m
placeable_found macros name m all h = All-found IsPlaceable (λ (x : Macro). bytes_eq name x.name) macros m all (sym h)

pub near_found : (macros : List Macro) (name pin : List ℕ) (p : List ℕ × List (LayerNo × Sides)) → All IsPlaceable macros → Some p ≡ option_and_then (pin_in pin) (macro_of macros name) → AreNear p.1
near_found macros name pin p all h = by_macro (macro_of macros name) (λ m e. placeable_found macros name m all (sym e)) h
  where
    by_macro : (o : Option Macro) → ((m : Macro) → o ≡ Some m → IsPlaceable m) → Some p ≡ option_and_then (pin_in pin) o → AreNear p.1
    by_macro None ok e = cc
    by_macro (Some m) ok e = All-found (λ (q : List ℕ × List (LayerNo × Sides)). AreNear q.1) (λ (q : List ℕ × List (LayerNo × Sides)). bytes_eq pin q.0) m.pins p (ok m refl).pins (sym e)
