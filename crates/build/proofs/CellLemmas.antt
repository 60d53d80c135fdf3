-- Components give metal of the technology, and no pin has more of it than there are shapes.
use Rattle.std.proofs.Common.{◌≡◌, ℕ, ◌+◌, ◌^◌, ◌≤◌, List, [], ◌∷◌, Bool, true, false, cond, Option, Some, None, IfSome, length, All, option_map, option_and_then, unwrap_or, bytes_eq, refl, ap, arith}
use Rattle.std.specs.Prelude.{flat_map, sum_by}
use Rattle.std.specs.List.{find}
use Rattle.std.proofs.lemmas.List.{length-map, length-append}
use Rattle.std.proofs.lemmas.List.Concat.{length-flat_map}
use Rattle.std.proofs.lemmas.List.Elements.{All-head, All-tail, All-map, All-append, All-weaker}
use Rattle.std.proofs.lemmas.List.Sums.{sum_by-cons}
use Rattle.std.proofs.lemmas.Option.{same_Some}
use Rattle.rt_base.specs.Ranges.{IsPointWithin}
use Rattle.rt_base.specs.declared.geometry.Point.{Point}
use Rattle.rt_base.specs.declared.orient.Orient.{Orient}
use Rattle.rt_base.specs.declared.tech.Owner.{Owner}
use Rattle.rt_base.specs.declared.tech.Owner.TheVariants.{Nobody}
use Rattle.rt_base.specs.declared.tech.Shape.{Shape}
use Rattle.rt_base.specs.declared.tech.Tech.{Tech}
use Rattle.track_graph.specs.Designs.{IsMetal, IsFixed}
use Rattle.track_graph.specs.Metal.{Metal}
use Rattle.lef_text.specs.declared.lef.Macro.{Macro}
use Rattle.lef_text.specs.IsLef.{IsMacro, IsPin, IsOn}
use Rattle.def_text.specs.declared.def.Component.{Component}
use Rattle.def_text.specs.Defs.{IsComponent}
use Rattle.cells.specs.Cells.{macro_of, component_of, pin_in, placed_rect, placed_rects, pin_of, cell_pin, fixed_shape, fixed_shapes, macro_shapes, component_shapes}
use Rattle.cells.specs.Owners.{cell_owner}
use Rattle.cells.specs.Ranges.{IsPlaceable, AreNear}
use Rattle.cells.proofs.Lists.{All-found}
use Rattle.cells.proofs.Placing.{cell_within}

none_of : {X : Type 0} → (P : X → Type 0) → All P []
none_of P = λ k d lt. absurd (omega arith)

-- a macro of LEF can be placed
near : (n : ℕ) (rects : List Metal) → All (IsOn n (2 ^ 31)) rects → AreNear rects
near n rects all = All-weaker (IsOn n (2 ^ 31)) _ (λ r h. h.1) rects all

pub placeable : (n : ℕ) (macros : List Macro) → All (IsMacro n) macros → All IsPlaceable macros
placeable n macros all = All-weaker (IsMacro n) IsPlaceable (λ m h. record {
  w = h.w;
  h = h.h;
  pins = All-weaker (IsPin n) (λ (p : List ℕ × List Metal). AreNear p.1) (λ p q. near n p.1 q.1) m.pins h.pins;
  obs = near n m.obs h.obs;
}) macros all

-- placed rectangles are metal
metal_at : (tech : Tech) (m : Macro) (at : Option (Point × Orient)) (rects : List Metal) → IsMacro (length tech.layers) m → IfSome at (λ p. IsPointWithin (2 ^ 30) p.0) → All (IsOn (length tech.layers) (2 ^ 31)) rects → All (IsMetal tech) (placed_rects m at rects)
metal_at tech m None rects ok within all = none_of (IsMetal tech)
metal_at tech m (Some at) rects ok within all =
    All-map (IsMetal tech) (placed_rect m at) rects
    (All-weaker (IsOn (length tech.layers) (2 ^ 31)) (λ r. IsMetal tech (placed_rect m at r)) (λ r h. record { layer = h.0; sides = cell_within at.1 at.0 m.w m.h r.1 ok.w ok.h within h.1 }) rects all)

-- metal of the input is fixed
pub fixed_metal : (tech : Tech) (owner : Owner) (metals : List Metal) → All (IsMetal tech) metals → All (IsFixed tech) (fixed_shapes owner metals)
fixed_metal tech owner metals all =
    All-map (IsFixed tech) (fixed_shape owner) metals
    (All-weaker (IsMetal tech) (λ (m : Metal). IsFixed tech (fixed_shape owner m)) (λ m h. record { metal = record { layer = h.layer; sides = h.sides }; fixed = refl }) metals all)

-- what holds of each part holds of all
pub All-parts : {X Y : Type 0} → (P : Y → Type 0) (Q : X → Type 0) (f : X → List Y) → ((x : X) → Q x → All P (f x)) → (xs : List X) → All Q xs → All P (flat_map f xs)
All-parts P Q f each [] all = none_of P
All-parts P Q f each (x ∷ xs) all = All-append P (f x) (flat_map f xs) (each x (All-head Q x xs all)) (All-parts P Q f each xs (All-tail Q x xs all))

macro_fixed : (tech : Tech) (whose : List ℕ → Owner) (at : Option (Point × Orient)) (m : Macro) → IsMacro (length tech.layers) m → IfSome at (λ p. IsPointWithin (2 ^ 30) p.0) → All (IsFixed tech) (macro_shapes whose at m)
macro_fixed tech whose at m ok within =
    let one : List ℕ × List Metal → List Shape = λ p. fixed_shapes (whose p.0) (placed_rects m at p.1) in
    All-append (IsFixed tech) (flat_map one m.pins) (fixed_shapes Nobody (placed_rects m at m.obs))
    (All-parts (IsFixed tech) (IsPin (length tech.layers)) one (λ p h. fixed_metal tech (whose p.0) (placed_rects m at p.1) (metal_at tech m at p.1 ok within h.1)) m.pins ok.pins)
    (fixed_metal tech Nobody (placed_rects m at m.obs) (metal_at tech m at m.obs ok within ok.obs))

-- the macro of a name is one of those
macro_ok : (n : ℕ) (macros : List Macro) (name : List ℕ) (m : Macro) → All (IsMacro n) macros → macro_of macros name ≡ Some m → IsMacro n m
macro_ok n macros name m all h = All-found (IsMacro n) (λ (x : Macro). bytes_eq name x.name) macros m all h

component_fixed : (tech : Tech) (macros : List Macro) (whose : List ℕ × List ℕ → Owner) (c : Component) → All (IsMacro (length tech.layers)) macros → IsComponent c → All (IsFixed tech) (component_shapes macros whose c)
component_fixed tech macros whose c all ok = by_macro (macro_of macros c.of) (λ m h. macro_ok (length tech.layers) macros c.of m all h)
  where
    by_macro : (o : Option Macro) → ((m : Macro) → o ≡ Some m → IsMacro (length tech.layers) m) → All (IsFixed tech) (unwrap_or (option_map (macro_shapes (λ (name : List ℕ). cell_owner whose (c.name, name)) c.placed) o) [])
    by_macro None h = none_of (IsFixed tech)
    by_macro (Some m) h = macro_fixed tech (λ (name : List ℕ). cell_owner whose (c.name, name)) c.placed m (h m refl) ok.placed

pub components_fixed : (tech : Tech) (macros : List Macro) (whose : List ℕ × List ℕ → Owner) (components : List Component) → All (IsMacro (length tech.layers)) macros → All IsComponent components → All (IsFixed tech) (flat_map (component_shapes macros whose) components)
components_fixed tech macros whose components all oks = All-parts (IsFixed tech) IsComponent (component_shapes macros whose) (λ c ok. component_fixed tech macros whose c all ok) components oks

-- the pin of a connection is metal
pin_metal : (tech : Tech) (name : List ℕ) (at : Option (Point × Orient)) (m : Macro) → IsMacro (length tech.layers) m → IfSome at (λ p. IsPointWithin (2 ^ 30) p.0) → All (IsMetal tech) (unwrap_or (option_map (λ (p : List ℕ × List Metal). placed_rects m at p.1) (pin_in name m)) [])
pin_metal tech name at m ok within = by_pin (pin_in name m) (λ p h. All-found (IsPin (length tech.layers)) (λ (q : List ℕ × List Metal). bytes_eq name q.0) m.pins p ok.pins h)
  where
    by_pin : (o : Option (List ℕ × List Metal)) → ((p : List ℕ × List Metal) → o ≡ Some p → IsPin (length tech.layers) p) → All (IsMetal tech) (unwrap_or (option_map (λ (p : List ℕ × List Metal). placed_rects m at p.1) o) [])
    by_pin None h = none_of (IsMetal tech)
    by_pin (Some p) h = metal_at tech m at p.1 ok within (h p refl).1

pub cell_metal : (tech : Tech) (macros : List Macro) (components : List Component) (c : List ℕ × List ℕ) → All (IsMacro (length tech.layers)) macros → All IsComponent components → All (IsMetal tech) (unwrap_or (cell_pin macros components c) [])
cell_metal tech macros components c all oks = by_component (component_of components c.0) (λ x h. All-found IsComponent (λ (y : Component). bytes_eq c.0 y.name) components x oks h)
  where
    by_macro : (x : Component) (o : Option Macro) → IsComponent x → ((m : Macro) → o ≡ Some m → IsMacro (length tech.layers) m) → All (IsMetal tech) (unwrap_or (option_and_then (λ (m : Macro). option_map (λ (p : List ℕ × List Metal). placed_rects m x.placed p.1) (pin_in c.1 m)) o) [])
    by_macro x None ok h = none_of (IsMetal tech)
    by_macro x (Some m) ok h = pin_metal tech c.1 x.placed m (h m refl) ok.placed

    by_component : (o : Option Component) → ((x : Component) → o ≡ Some x → IsComponent x) → All (IsMetal tech) (unwrap_or (option_and_then (pin_of macros c.1) o) [])
    by_component None h = none_of (IsMetal tech)
    by_component (Some x) h = by_macro x (macro_of macros x.of) (h x refl) (λ m k. macro_ok (length tech.layers) macros x.of m all k)

-- one of those counts at most what all do
found_le : {X : Type 0} → (f : X → ℕ) (test : X → Bool) (xs : List X) (y : X) → find test xs ≡ Some y → f y ≤ sum_by f xs
found_le f test [] y h = cc
found_le {X} f test (x ∷ xs) y h = by_test (test x) h (λ e. found_le f test xs y e)
  where
    by_test : (b : Bool) → cond b (Some x) (find test xs) ≡ Some y → (find test xs ≡ Some y → f y ≤ sum_by f xs) → f y ≤ sum_by f (x ∷ xs)
    by_test true e later = omega (arith, sum_by-cons f x xs, ap f (same_Some x y e))
    by_test false e later = omega (arith, sum_by-cons f x xs, later e)

-- the shapes of one pin of a macro
abbrev pin_part : (List ℕ → Owner) → Option (Point × Orient) → Macro → List ℕ × List Metal → List Shape
pin_part whose at m p = fixed_shapes (whose p.0) (placed_rects m at p.1)

pin_few : (whose : List ℕ → Owner) (name : List ℕ) (at : Option (Point × Orient)) (m : Macro) → length (unwrap_or (option_map (λ (p : List ℕ × List Metal). placed_rects m at p.1) (pin_in name m)) []) ≤ length (macro_shapes whose at m)
pin_few whose name at m = by_pin (pin_in name m) (λ p h. found_le (λ (q : List ℕ × List Metal). length (pin_part whose at m q)) (λ (q : List ℕ × List Metal). bytes_eq name q.0) m.pins p h)
  where
    by_pin : (o : Option (List ℕ × List Metal)) → ((p : List ℕ × List Metal) → o ≡ Some p → length (pin_part whose at m p) ≤ sum_by (λ (q : List ℕ × List Metal). length (pin_part whose at m q)) m.pins) → length (unwrap_or (option_map (λ (p : List ℕ × List Metal). placed_rects m at p.1) o) []) ≤ length (macro_shapes whose at m)
    by_pin None h = omega arith
    by_pin (Some p) h =
        let same : length (pin_part whose at m p) ≡ length (placed_rects m at p.1) = length-map (placed_rects m at p.1) (fixed_shape (whose p.0)) in
        let all : length (macro_shapes whose at m) ≡ length (flat_map (pin_part whose at m) m.pins) + length (fixed_shapes Nobody (placed_rects m at m.obs)) = length-append (flat_map (pin_part whose at m) m.pins) (fixed_shapes Nobody (placed_rects m at m.obs)) in
        omega (arith, same, all, length-flat_map (pin_part whose at m) m.pins, h p refl)

pub cell_few : (macros : List Macro) (whose : List ℕ × List ℕ → Owner) (components : List Component) (c : List ℕ × List ℕ) → length (unwrap_or (cell_pin macros components c) []) ≤ length (flat_map (component_shapes macros whose) components)
cell_few macros whose components c = by_component (component_of components c.0) (λ x h. found_le (λ (y : Component). length (component_shapes macros whose y)) (λ (y : Component). bytes_eq c.0 y.name) components x h)
  where
    by_macro : (x : Component) (o : Option Macro) → length (unwrap_or (option_and_then (λ (m : Macro). option_map (λ (p : List ℕ × List Metal). placed_rects m x.placed p.1) (pin_in c.1 m)) o) []) ≤ length (unwrap_or (option_map (macro_shapes (λ (name : List ℕ). cell_owner whose (x.name, name)) x.placed) o) [])
    by_macro x None = omega arith
    by_macro x (Some m) = pin_few (λ (name : List ℕ). cell_owner whose (x.name, name)) c.1 x.placed m

    by_component : (o : Option Component) → ((x : Component) → o ≡ Some x → length (component_shapes macros whose x) ≤ sum_by (λ (y : Component). length (component_shapes macros whose y)) components) → length (unwrap_or (option_and_then (pin_of macros c.1) o) []) ≤ length (flat_map (component_shapes macros whose) components)
    by_component None h = omega arith
    by_component (Some x) h = omega (arith, by_macro x (macro_of macros x.of), h x refl, length-flat_map (component_shapes macros whose) components)
