-- Rectangles of DEF on the layers of LEF are metal of the technology.
use Rattle.std.proofs.Common.{◌≡◌, ℕ, ◌+◌, ◌^◌, ◌<◌, ◌≤◌, List, [], ◌∷◌, ◌++◌, Bool, true, false, cond, Option, Some, None, length, get_or, take, All, option_map, unwrap_or, bytes_eq, refl, sym, ap, subst, ◌∙◌, arith}
use Rattle.std.specs.List.{flat_map, cons_option}
use Rattle.std.proofs.lemmas.List.{length-map, length-append}
use Rattle.std.proofs.lemmas.List.Concat.{length-flat_map}
use Rattle.std.proofs.lemmas.List.Elements.{All-cons, All-head, All-tail, All-append, All-weaker, filter_map-append}
use Rattle.std.specs.Option.{option_to_list}
use Rattle.std.proofs.lemmas.Option.{same_Some}
use Rattle.build.proofs.Steps.{next, rects_named}
use Rattle.build.proofs.CellLemmas.{All-parts, fixed_metal, components_fixed, cell_metal, cell_few}
use Rattle.std.proofs.lemmas.List.Quantifiers.{position-Some}
use Rattle.std.proofs.lemmas.List.Sums.{get_or-le-sum_by}
use Rattle.rt_base.specs.Sides.{Sides}
use Rattle.rt_base.proofs.Ranges.{sides-weaker}
use Rattle.rt_base.specs.declared.tech.Layer.{Layer}
use Rattle.rt_base.specs.declared.tech.LayerNo.{LayerNo}
use Rattle.rt_base.specs.declared.tech.Owner.{Owner}
use Rattle.rt_base.specs.declared.tech.Owner.TheVariants.{Nobody}
use Rattle.rt_base.specs.declared.tech.Tech.{Tech}
use Rattle.track_graph.specs.Designs.{IsMetal, IsFixed}
use Rattle.track_graph.specs.Metal.{Metal}
use Rattle.lef_text.specs.declared.lef.Lef.{Lef}
use Rattle.lef_text.specs.IsLef.{IsLef, IsMacro}
use Rattle.cells.specs.Cells.{fixed_shape, component_shapes, cell_pin}
use Rattle.cells.specs.Owners.{is_io, io_owner, owner_of}
use Rattle.def_text.specs.declared.def.Def.{Def}
use Rattle.def_text.specs.declared.def.IoPin.{IoPin}
use Rattle.def_text.specs.Defs.{IsDef, IsIoPin, IsMetal as IsNamed}
use Rattle.build.specs.declared.layer_names.LayerNames.{LayerNames}
use Rattle.build.specs.LookUps.{layer_number, layer_no_of, layer_names_of, metal_of, metals_of, pin_rects, connected_rects}
use Rattle.build.specs.Built.{shapes_on, pin_shapes, placed_of}

-- one named rectangle
metal_is : (names : LayerNames) (tech : Tech) (k : Option ℕ) (r : List ℕ × Sides) (ms : List Metal) → layer_number names r.0 ≡ k → length names.shaped ≡ length tech.layers → IsNamed r → All (IsMetal tech) ms → All (IsMetal tech) (cons_option (option_map (λ (n : ℕ). (layer_no_of n, r.1)) k) ms)
metal_is names tech None r ms at same ok all = all
metal_is names tech (Some n) r ms at same ok all =
    let within : n < length names.shaped = (position-Some (bytes_eq r.0) names.shaped n [] at).0 in
    All-cons (IsMetal tech) (layer_no_of n, r.1) ms (record { layer = omega arith; sides = sides-weaker (2 ^ 31) (2 ^ 32) r.1 (omega arith) ok.1 }) all

pub metals_are : (names : LayerNames) (tech : Tech) (rects : List (List ℕ × Sides)) → length names.shaped ≡ length tech.layers → All IsNamed rects → All (IsMetal tech) (metals_of names rects)
metals_are names tech [] same all = λ k d lt. absurd (omega arith)
metals_are names tech (r ∷ rs) same all = metal_is names tech (layer_number names r.0) r (metals_of names rs) refl same (All-head IsNamed r rs all) (metals_are names tech rs same (All-tail IsNamed r rs all))

shapes_are : (names : LayerNames) (tech : Tech) (owner : Owner) (rects : List (List ℕ × Sides)) → length names.shaped ≡ length tech.layers → All IsNamed rects → All (IsFixed tech) (shapes_on names owner rects)
shapes_are names tech owner rects same all = fixed_metal tech owner (metals_of names rects) (metals_are names tech rects same all)

pins_are : (names : LayerNames) (tech : Tech) (whose : List ℕ × List ℕ → Owner) (pins : List IoPin) → length names.shaped ≡ length tech.layers → All IsIoPin pins → All (IsFixed tech) (flat_map (pin_shapes names whose) pins)
pins_are names tech whose pins same all = All-parts (IsFixed tech) IsIoPin (pin_shapes names whose) (λ p h. shapes_are names tech (io_owner whose p.name) p.rects same h.rects) pins all

-- the macros of LEF, by the layers of the technology
macros_ok : (lef : Lef) (tech : Tech) → IsLef lef → tech.layers ≡ lef.layers → All (IsMacro (length tech.layers)) lef.macros
macros_ok lef tech ok same = subst (λ (ls : List Layer). All (IsMacro (length ls)) lef.macros) (sym same) ok.macros

names_count : (lef : Lef) (tech : Tech) → tech.layers ≡ lef.layers → length (layer_names_of lef).shaped ≡ length tech.layers
names_count lef tech same = length-map lef.layers (λ (l : Layer). l.name) ∙ ap length (sym same)

-- each placed shape is fixed, on a layer and in range
pub placed_are : (lef : Lef) (def : Def) (tech : Tech) → IsLef lef → IsDef def → tech.layers ≡ lef.layers → All (IsFixed tech) (placed_of lef def)
placed_are lef def tech good ok same =
    let names = layer_names_of lef in
    let whose = owner_of def.nets in
    let cells = flat_map (component_shapes lef.macros whose) def.components in
    let pins = flat_map (pin_shapes names whose) def.pins in
    let count = names_count lef tech same in
    All-append (IsFixed tech) (cells ++ pins) (shapes_on names Nobody def.blockages)
    (All-append (IsFixed tech) cells pins
    (components_fixed tech lef.macros whose def.components (macros_ok lef tech good same) ok.components)
    (pins_are names tech whose def.pins count ok.pins))
    (shapes_are names tech Nobody def.blockages count ok.blockages)

-- how many shapes there are at least
fixed_count : (lef : Lef) (def : Def) → length (flat_map (component_shapes lef.macros (owner_of def.nets)) def.components) + length (flat_map (pin_shapes (layer_names_of lef) (owner_of def.nets)) def.pins) ≤ length (placed_of lef def)
fixed_count lef def =
    let names = layer_names_of lef in
    let whose = owner_of def.nets in
    let cells = flat_map (component_shapes lef.macros whose) def.components in
    let pins = flat_map (pin_shapes names whose) def.pins in
    omega (arith, length-append (cells ++ pins) (shapes_on names Nobody def.blockages), length-append cells pins)

-- no pin of the design has more rectangles than there are shapes
rects_few : (lef : Lef) (def : Def) → All (λ (p : IoPin). length (metals_of (layer_names_of lef) p.rects) ≤ length (placed_of lef def)) def.pins
rects_few lef def k d lt =
    let names = layer_names_of lef in
    let shapes = pin_shapes names (owner_of def.nets) in
    let one : length (metals_of names (get_or def.pins k d).rects) ≡ length (shapes (get_or def.pins k d)) = sym (length-map (metals_of names (get_or def.pins k d).rects) (fixed_shape (io_owner (owner_of def.nets) (get_or def.pins k d).name))) in
    omega (arith, one, length-flat_map shapes def.pins, fixed_count lef def, get_or-le-sum_by (λ (p : IoPin). length (shapes p)) def.pins k d lt)

-- the rectangles of a connection are metal
pub connected_metal : (lef : Lef) (def : Def) (tech : Tech) (c : List ℕ × List ℕ) → IsLef lef → IsDef def → tech.layers ≡ lef.layers → All (IsMetal tech) (connected_rects lef def c)
connected_metal lef def tech c good ok same = by_kind (is_io c)
  where
    by_kind : (b : Bool) → All (IsMetal tech) (cond b (metals_of (layer_names_of lef) (pin_rects def.pins c.1)) (unwrap_or (cell_pin lef.macros def.components c) []))
    by_kind true =
        metals_are (layer_names_of lef) tech (pin_rects def.pins c.1) (names_count lef tech same)
        (rects_named (λ rs. All IsNamed rs) def.pins c.1 (λ k d lt. absurd (omega arith)) (All-weaker IsIoPin (λ (p : IoPin). All IsNamed p.rects) (λ p h. h.rects) def.pins ok.pins))
    by_kind false = cell_metal tech lef.macros def.components c (macros_ok lef tech good same) ok.components

-- and no more than there are shapes
pub connected_few : (lef : Lef) (def : Def) (c : List ℕ × List ℕ) → length (connected_rects lef def c) ≤ length (placed_of lef def)
connected_few lef def c = by_kind (is_io c)
  where
    by_kind : (b : Bool) → length (cond b (metals_of (layer_names_of lef) (pin_rects def.pins c.1)) (unwrap_or (cell_pin lef.macros def.components c) [])) ≤ length (placed_of lef def)
    by_kind true = rects_named (λ rs. length (metals_of (layer_names_of lef) rs) ≤ length (placed_of lef def)) def.pins c.1 (omega arith) (rects_few lef def)
    by_kind false = omega (arith, cell_few lef.macros (owner_of def.nets) def.components c, fixed_count lef def)

-- one named rectangle more
pub metals_more : (names : LayerNames) (rects : List (List ℕ × Sides)) (i : ℕ) (r : List ℕ × Sides) (o : Option Metal) → i < length rects → r ≡ get_or rects i r → metal_of names r ≡ o → metals_of names (take (i + 1) rects) ≡ metals_of names (take i rects) ++ option_to_list o
metals_more names rects i r o within at is =
    ap (metals_of names) (next rects i r within at)
    ∙ filter_map-append (metal_of names) (take i rects) (r ∷ [])
    ∙ ap (λ (p : Option Metal). metals_of names (take i rects) ++ cons_option p []) is
    ∙ ap (λ (ms : List Metal). metals_of names (take i rects) ++ ms) (alone o)
  where
    alone : (p : Option Metal) → cons_option p [] ≡ option_to_list p
    alone None = refl
    alone (Some m) = refl

pub metal_some : (k : Option ℕ) (layer : LayerNo) (s : Sides) → option_map layer_no_of k ≡ Some layer → option_map {U = Metal} (λ (n : ℕ). (layer_no_of n, s)) k ≡ Some (layer, s)
metal_some None layer s h = cc
metal_some (Some n) layer s h = ap (λ (l : LayerNo). Some (l, s)) (same_Some (layer_no_of n) layer h)

pub metal_none : (k : Option ℕ) (s : Sides) → option_map layer_no_of k ≡ None → option_map {U = Metal} (λ (n : ℕ). (layer_no_of n, s)) k ≡ None
metal_none None s h = refl
metal_none (Some n) s h = cc
