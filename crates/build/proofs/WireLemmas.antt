-- The shapes of the input are fixed, and those of wiring follow those that are placed.
use Rattle.std.proofs.Common.{◌≡◌, ℕ, ◌+◌, ◌^◌, ◌<◌, ◌≤◌, List, [], ◌∷◌, ◌++◌, true, false, length, get_or, map, fold, max, All, refl, sym, ap, subst, ◌∙◌, arith}
use Rattle.std.specs.List.{flat_map, enumerate_from}
use Rattle.std.proofs.lemmas.List.{length-append, get_or-map}
use Rattle.std.proofs.lemmas.List.Elements.{All-cons, All-head, All-tail, All-append, All-weaker, All-map}
use Rattle.rt_base.specs.declared.tech.Layer.{Layer}
use Rattle.rt_base.specs.declared.tech.Owner.{Owner}
use Rattle.rt_base.specs.declared.tech.Owner.TheVariants.{Net as OfNet}
use Rattle.rt_base.specs.declared.tech.Shape.{Shape}
use Rattle.rt_base.specs.declared.tech.Tech.{Tech}
use Rattle.rt_base.specs.declared.tech.Via.{Via}
use Rattle.rt_base.specs.Sides.{Sides}
use Rattle.rt_base.specs.Ranges.{AreSidesWithin}
use Rattle.track_graph.specs.Designs.{IsFixed}
use Rattle.track_graph.specs.Metal.{Metal}
use Rattle.def_wires.specs.Sound.{IsOn}
use Rattle.def_text.specs.declared.def.DefNet.{DefNet}
use Rattle.fixed_wires.specs.declared.vias.WireTech.{WireTech}
use Rattle.cells.specs.Cells.{fixed_shape, fixed_shapes}
use Rattle.build.specs.declared.wires.WireMetal.{WireMetal}
use Rattle.build.specs.Built.{placed_of, fixed_of}
use Rattle.build.specs.Faults.{farthest, largest_coordinate}
use Rattle.build.specs.Inputs.{Input, IsInput}
use Rattle.build.specs.LookUps.{connected_rects}
use Rattle.build.specs.Metals.{AreOn, IsWireTech, IsWireMetal, AreWires, IsOnLayer, wire_shapes}
use Rattle.build.specs.Wires.{tech_said, metal_of_net, named_owner, special_shapes, wired_shapes}
use Rattle.build.proofs.MetalLemmas.{placed_are, connected_few}

-- no shape is farther off than the largest coordinate
all_near : (m most : ℕ) (shapes : List Shape) → fold (λ (n : ℕ) (s : Shape). max n (farthest s.rect)) most shapes ≤ m → (most ≤ m) × All (λ (s : Shape). farthest s.rect ≤ m) shapes
all_near m most [] h = (h, λ k d lt. absurd (omega arith))
all_near m most (s ∷ ss) h =
    let p = all_near m (max most (farthest s.rect)) ss h in
    (omega (arith, p.0), All-cons (λ (x : Shape). farthest x.rect ≤ m) s ss (omega (arith, p.0)) p.1)

near_sides : (s : Sides) → farthest s ≤ 1073741824 → AreSidesWithin (2 ^ 32) s
near_sides s h = (omega (arith, h), omega (arith, h), omega (arith, h), omega (arith, h))

-- shapes on layers, not far off, are fixed
pub fixed_are : (i : Input) (tech : Tech) → tech.layers ≡ i.lef.layers → All (IsOnLayer (length i.lef.layers)) (fixed_of i) → largest_coordinate (fixed_of i) ≤ 1073741824 → All (IsFixed tech) (fixed_of i)
fixed_are i tech same on near k d lt =
    let far = (all_near 1073741824 0 (fixed_of i) near).1 k d lt in
    let one = on k d lt in
    record { metal = record { layer = subst (λ (ls : List Layer). (get_or (fixed_of i) k d).layer.0 < length ls) (sym same) one.0; sides = near_sides (get_or (fixed_of i) k d).rect far }; fixed = one.1 }

-- no pin has more rectangles than there are shapes
pub rects_few : (i : Input) (c : List ℕ × List ℕ) → length (connected_rects i.lef i.def c) ≤ length (fixed_of i)
rects_few i c =
    let placed = placed_of i.lef i.def in
    let special = flat_map (special_shapes i) i.def.special in
    let wired = flat_map (wired_shapes i) (enumerate_from 0 i.def.nets) in
    omega (arith, connected_few i.lef i.def c, length-append (placed ++ special) wired, length-append placed special)

-- the shapes of wiring, by its rectangles
wires_from : (i : Input) (n : ℕ) (nets : List DefNet) → flat_map wire_shapes (enumerate_from n (map (metal_of_net i false) nets)) ≡ flat_map (wired_shapes i) (enumerate_from n nets)
wires_from i n [] = refl
wires_from i n (net ∷ nets) = ap (λ (ss : List Shape). wired_shapes i (n, net) ++ ss) (wires_from i (n + 1) nets)

pub wires_same : (i : Input) (metal : WireMetal) → IsWireMetal i metal → flat_map wire_shapes (enumerate_from 0 metal.nets) ≡ flat_map (wired_shapes i) (enumerate_from 0 i.def.nets)
wires_same i metal h = ap (λ (ms : List (List Metal)). flat_map wire_shapes (enumerate_from 0 ms)) h.nets ∙ wires_from i 0 i.def.nets

-- wiring that was read stands on layers of LEF
on_layers : (n : ℕ) (owner : Owner) (ms : List Metal) → All (IsOn n (2 ^ 62)) ms → All (IsOnLayer n) (fixed_shapes owner ms)
on_layers n owner ms all = All-map (IsOnLayer n) (fixed_shape owner) ms (All-weaker (IsOn n (2 ^ 62)) (λ (m : Metal). IsOnLayer n (fixed_shape owner m)) (λ m h. (h.0, refl)) ms all)

special_on : (i : Input) (nets : List DefNet) → All (AreOn i) (map (metal_of_net i true) nets) → All (IsOnLayer (length i.lef.layers)) (flat_map (special_shapes i) nets)
special_on i [] h = λ k d lt. absurd (omega arith)
special_on i (net ∷ nets) h =
    let ms = map (metal_of_net i true) nets in
    All-append (IsOnLayer (length i.lef.layers)) (special_shapes i net) (flat_map (special_shapes i) nets)
    (on_layers (length i.lef.layers) (named_owner i.def.nets net.name) (metal_of_net i true net) (All-head (AreOn i) (metal_of_net i true net) ms h))
    (special_on i nets (All-tail (AreOn i) (metal_of_net i true net) ms h))

wired_on : (i : Input) (n : ℕ) (nets : List DefNet) → All (AreOn i) (map (metal_of_net i false) nets) → All (IsOnLayer (length i.lef.layers)) (flat_map (wired_shapes i) (enumerate_from n nets))
wired_on i n [] h = λ k d lt. absurd (omega arith)
wired_on i n (net ∷ nets) h =
    let ms = map (metal_of_net i false) nets in
    All-append (IsOnLayer (length i.lef.layers)) (wired_shapes i (n, net)) (flat_map (wired_shapes i) (enumerate_from (n + 1) nets))
    (on_layers (length i.lef.layers) (OfNet n) (metal_of_net i false net) (All-head (AreOn i) (metal_of_net i false net) ms h))
    (wired_on i (n + 1) nets (All-tail (AreOn i) (metal_of_net i false net) ms h))

-- each shape of the input stands on a layer
pub all_on : (i : Input) (metal : WireMetal) → IsInput i → IsWireMetal i metal → All (IsOnLayer (length i.lef.layers)) (fixed_of i)
all_on i metal ok h =
    let on = IsOnLayer (length i.lef.layers) in
    let placed = placed_of i.lef i.def in
    let special = flat_map (special_shapes i) i.def.special in
    All-append on (placed ++ special) (flat_map (wired_shapes i) (enumerate_from 0 i.def.nets))
    (All-append on placed special
    (All-weaker (IsFixed (tech_said i.lef)) on (λ s f. (f.metal.layer, f.fixed)) placed (placed_are i.lef i.def (tech_said i.lef) ok.is_lef ok.is_def refl))
    (special_on i i.def.special (subst (λ (ms : List (List Metal)). All (AreOn i) ms) h.special h.special_on)))
    (wired_on i 0 i.def.nets (subst (λ (ms : List (List Metal)). All (AreOn i) ms) h.nets h.nets_on))

-- the rectangles at a place are those of the net there
pub metal_at : (f : DefNet → List Metal) (nets : List DefNet) (metals : List (List Metal)) (k : ℕ) (net : DefNet) (m : List Metal) → metals ≡ map f nets → k < length nets → net ≡ get_or nets k net → m ≡ get_or metals k m → m ≡ f net
metal_at f nets metals k net m is within at there = there ∙ ap (λ (ms : List (List Metal)). get_or ms k m) is ∙ get_or-map f nets k net m within ∙ ap f (sym at)

-- the vias of what wiring names, with the rectangles of the wiring
pub wires_are : (i : Input) (on : WireTech) (metal : WireMetal) → IsWireTech i on → IsWireMetal i metal → AreWires i (on.tech.vias, metal)
wires_are i on metal o m = record {
  vias = ap (λ (t : Tech). t.vias) o.tech;
  few = o.fits.few_vias;
  vias_on = subst (λ (n : ℕ). All (λ (v : Via). All (IsOn n (2 ^ 60 + 2 ^ 30)) v.rects) on.tech.vias) (ap (λ (t : Tech). length t.layers) o.tech) o.fits.vias;
  metal = m;
}
