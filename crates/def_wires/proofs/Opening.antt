-- What is read stays in range.
use Rattle.std.proofs.Common.{◌≡◌, ℕ, ◌+◌, ◌^◌, ◌≤◌, ◌<◌, ◌==◌, nat_lt, ℤ, pos, cond, Bool, true, false, refl, sym, subst, lit≤, unsigned_abs, arith, List, [], ◌∷◌, ◌++◌, length, slice_get, Option, Some, None, All, fold, ◌||◌}
use Rattle.std.specs.Prelude.{IfSome}
use Rattle.std.specs.Option.{option_map_or}
use Rattle.std.specs.List.{range_with_len, flat_map}
use Rattle.std.proofs.lemmas.Int.{ints}
use Rattle.std.proofs.lemmas.Option.{slice_get_within}
use Rattle.std.proofs.lemmas.List.Elements.{All-append, All-nil, All-cons, All-push}
use Rattle.rt_base.specs.Sides.{Sides}
use Rattle.rt_base.specs.Ranges.{IsWithin, IsPointWithin, AreSidesWithin}
use Rattle.rt_base.proofs.Ranges.{point-weaker}
use Rattle.rt_base.specs.declared.geometry.Point.{Point}
use Rattle.rt_base.specs.declared.orient.Orient.{Orient}
use Rattle.rt_base.specs.declared.tech.LayerNo.{LayerNo}
use Rattle.rt_base.specs.declared.tech.Layer.{Layer}
use Rattle.rt_base.specs.declared.tech.Tech.{Tech}
use Rattle.def_wires.specs.declared.points.Corner.{Corner}
use Rattle.def_wires.specs.declared.arrays.Array.{Array}
use Rattle.def_wires.specs.declared.steps.OpenPath.{OpenPath}
use Rattle.def_wires.specs.declared.joined.Reach.{Reach}
use Rattle.def_wires.specs.declared.joined.Reach.TheVariants.{Nowhere, One, Two, More}
use Rattle.def_wires.specs.declared.wiring.Joined.{Joined}
use Rattle.def_wires.specs.declared.wiring.Spot.{Spot}
use Rattle.def_wires.specs.declared.wiring.WireStep.{WireStep}
use Rattle.def_wires.specs.declared.wiring.WireStep.TheVariants.{Start, Go, Via as Through, Patch}
use Rattle.def_wires.specs.Meaning.{Metal, is_routing, with_layer, with_metal, the_two, reach_of, joined_by, other_of}
use Rattle.def_wires.specs.Sound.{AreWithin, IsStep, IsLength, BeginsWithStart, IsWirePath, IsCorner, IsOpenPath, IsArray}
use Rattle.def_wires.specs.Paths.{copy_point, copy_at, copies_of_row, copies_of, via_steps, with_via, with_go, with_patch}
use Rattle.def_wires.specs.Options.{origin, rect_path, via_path}
use Rattle.def_wires.proofs.Copies.{copied_within, all_pieces}

-- ---- layers of vias

routing_at : (o : Option Layer) (layers : List Layer) (k : ℕ) → slice_get layers k ≡ o → option_map_or (λ (l : Layer). l.routing) o false ≡ true → k < length layers
routing_at None layers k e h = absurd cc
routing_at (Some l) layers k e h = slice_get_within layers k l e

routing_within : (tech : Tech) (k : ℕ) → is_routing tech k ≡ true → k < length tech.layers
routing_within tech k h = routing_at (slice_get tech.layers k) tech.layers k refl h

abbrev IsReach : ℕ → Reach → Type 0
IsReach n Nowhere = Unit {0}
IsReach n (One k) = k < n
IsReach n (Two a b) = (a < n) × (b < n)
IsReach n More = Unit {0}

two_within : (n a k : ℕ) (b d : Bool) → a < n → k < n → IsReach n (cond b (One a) (cond d (Two k a) (Two a k)))
two_within n a k true d h g = h
two_within n a k false true h g = (g, h)
two_within n a k false false h g = (h, g)

more_within : (n a c : ℕ) (b : Bool) → a < n → c < n → IsReach n (cond b (Two a c) More)
more_within n a c true h g = (h, g)
more_within n a c false h g = tt

layer_within : (n : ℕ) (r : Reach) (k : ℕ) → IsReach n r → k < n → IsReach n (with_layer r k)
layer_within n Nowhere k h g = g
layer_within n (One a) k h g = two_within n a k (k == a) (nat_lt k a) h g
layer_within n (Two a c) k h g = more_within n a c ((k == a) || (k == c)) h.0 h.1
layer_within n More k h g = tt

metal_within : (tech : Tech) (r : Reach) (m : Metal) → IsReach (length tech.layers) r → IsReach (length tech.layers) (with_metal tech r m)
metal_within tech r m h = by_case (is_routing tech m.0.0) refl
  where
    by_case : (b : Bool) → is_routing tech m.0.0 ≡ b → IsReach (length tech.layers) (cond b (with_layer r m.0.0) r)
    by_case true e = layer_within (length tech.layers) r m.0.0 h (routing_within tech m.0.0 e)
    by_case false e = h

reach_within : (tech : Tech) (rects : List Metal) (r : Reach) → IsReach (length tech.layers) r → IsReach (length tech.layers) (fold (with_metal tech) r rects)
reach_within tech [] r h = h
reach_within tech (m ∷ rects) r h = reach_within tech rects (with_metal tech r m) (metal_within tech r m h)

two_of : (n : ℕ) (r : Reach) → IsReach n r → IfSome (the_two r) (AreWithin n)
two_of n Nowhere h = tt
two_of n (One a) h = tt
two_of n (Two a b) h = h
two_of n More h = tt

pub joined_within : (tech : Tech) (rects : List Metal) → IfSome (joined_by tech rects) (AreWithin (length tech.layers))
joined_within tech rects = two_of (length tech.layers) (reach_of tech rects) (reach_within tech rects Nowhere tt)

pub other_within : (n : ℕ) (j : Joined) (layer : LayerNo) → AreWithin n j → IfSome (other_of j layer) (λ l. l.0 < n)
other_within n j layer h = pick (layer.0 == j.lower.0) (layer.0 == j.upper.0)
  where
    pick : (b d : Bool) → IfSome (cond b (Some j.upper) (cond d (Some j.lower) None)) (λ l. l.0 < n)
    pick true d = h.1
    pick false true = h.0
    pick false false = tt

-- ---- steps

pub begins_more : (steps more : List WireStep) → BeginsWithStart steps → BeginsWithStart (steps ++ more)
begins_more [] more h = absurd h
begins_more (Start layer point ext ∷ steps) more h = tt
begins_more (Go point ext ∷ steps) more h = absurd h
begins_more (Through v o ∷ steps) more h = absurd h
begins_more (Patch r ∷ steps) more h = absurd h

wide : (p : Point) → IsPointWithin (2 ^ 30) p → IsPointWithin (2 ^ 61) p
wide p h = point-weaker (2 ^ 30) (2 ^ 61) p (lit≤ tt) h

two_steps : (tech : Tech) (a b : WireStep) → IsStep tech a → IsStep tech b → All (IsStep tech) (a ∷ b ∷ [])
two_steps tech a b ha hb = All-cons (IsStep tech) a (b ∷ []) ha (All-cons (IsStep tech) b [] hb (All-nil (IsStep tech)))

copy_sound : (tech : Tech) (a : Array) (at : Spot) (v : ℕ) (o : Orient) (j i : ℕ) → IsArray a → IsPointWithin (2 ^ 30) at.point → at.layer.0 < length tech.layers → v < length tech.vias → j < unsigned_abs a.rows → i < unsigned_abs a.columns → All (IsStep tech) (copy_at at.layer v o (copy_point at.point a.step j i))
copy_sound tech a at v o j i ha hp hl hv hj hi =
    let few_columns : i < 2 ^ 30 = omega (arith, ints, ha.columns.1, ha.columns.0) in
    let few_rows : j < 2 ^ 30 = omega (arith, ints, ha.rows.1, ha.rows.0) in
    two_steps tech (Start at.layer (copy_point at.point a.step j i) None) (Through v o)
    (hl, (copied_within at.point.x a.step.x i hp.0 ha.step.0 few_columns, copied_within at.point.y a.step.y j hp.1 ha.step.1 few_rows), tt) hv

copies_sound : (tech : Tech) (a : Array) (at : Spot) (v : ℕ) (o : Orient) → IsArray a → IsPointWithin (2 ^ 30) at.point → at.layer.0 < length tech.layers → v < length tech.vias → All (IsStep tech) (copies_of a at v o)
copies_sound tech a at v o ha hp hl hv =
    all_pieces (IsStep tech) (copies_of_row a at v o) 0 (unsigned_abs a.rows) (unsigned_abs a.rows) (omega arith)
    (λ j hj. all_pieces (IsStep tech) (λ i. copy_at at.layer v o (copy_point at.point a.step j i)) 0 (unsigned_abs a.columns) (unsigned_abs a.columns) (omega arith) (λ i hi. copy_sound tech a at v o j i ha hp hl hv hj hi))

via_steps_sound : (tech : Tech) (at : Spot) (v : ℕ) (o : Orient) (other : LayerNo) (a : Option Array) → IsPointWithin (2 ^ 30) at.point → IfSome at.ext IsLength → at.layer.0 < length tech.layers → v < length tech.vias → other.0 < length tech.layers → IfSome a IsArray → All (IsStep tech) (via_steps at v o other a)
via_steps_sound tech at v o other None hp he hl hv ho ha = All-cons (IsStep tech) (Through v o) [] hv (All-nil (IsStep tech))
via_steps_sound tech at v o other (Some a) hp he hl hv ho ha =
    All-append (IsStep tech) (copies_of a at v o) (Start other at.point at.ext ∷ []) (copies_sound tech a at v o ha hp hl hv)
    (All-cons (IsStep tech) (Start other at.point at.ext) [] (ho, wide at.point hp, he) (All-nil (IsStep tech)))

pub via_sound : (tech : Tech) (path : OpenPath) (v : ℕ) (o : Orient) (other : LayerNo) (a : Option Array) → IsOpenPath tech path → v < length tech.vias → other.0 < length tech.layers → IfSome a IsArray → IsOpenPath tech (with_via path v o other a)
via_sound tech path v o other a h hv ho ha = record {
  width = h.width;
  first = begins_more path.steps (via_steps path.spot v o other a) h.first;
  steps = All-append (IsStep tech) path.steps (via_steps path.spot v o other a) h.steps (via_steps_sound tech path.spot v o other a h.point h.ext h.layer hv ho ha);
  layer = ho;
  point = h.point;
  ext = h.ext;
}

pub go_sound : (tech : Tech) (path : OpenPath) (c : Corner) → IsOpenPath tech path → IsCorner c → IsOpenPath tech (with_go path c)
go_sound tech path c h k = record {
  width = h.width;
  first = begins_more path.steps (Go c.point c.ext ∷ []) h.first;
  steps = All-push (IsStep tech) path.steps (Go c.point c.ext) h.steps (wide c.point k.point, k.ext);
  layer = h.layer;
  point = k.point;
  ext = k.ext;
}

pub patch_sound : (tech : Tech) (path : OpenPath) (r : Sides) → IsOpenPath tech path → AreSidesWithin (2 ^ 30) r → IsOpenPath tech (with_patch path r)
patch_sound tech path r h k = record {
  width = h.width;
  first = begins_more path.steps (Patch r ∷ []) h.first;
  steps = All-push (IsStep tech) path.steps (Patch r) h.steps k;
  layer = h.layer;
  point = h.point;
  ext = h.ext;
}

-- ---- paths of options

zero_length : IsLength (pos 0)
zero_length = (omega (arith, ints), omega (arith, ints))

pub rect_path_sound : (tech : Tech) (layer : LayerNo) (r : Sides) → layer.0 < length tech.layers → AreSidesWithin (2 ^ 30) r → IsWirePath tech (rect_path layer r)
rect_path_sound tech layer r hl hr = record {
  width = zero_length;
  first = tt;
  steps = two_steps tech (Start layer origin None) (Patch r) (hl, (lit≤ tt, lit≤ tt), tt) hr;
}

pub via_path_sound : (tech : Tech) (layer : LayerNo) (v : ℕ) (o : Orient) (p : Point) → layer.0 < length tech.layers → v < length tech.vias → IsPointWithin (2 ^ 30) p → IsWirePath tech (via_path layer v o p)
via_path_sound tech layer v o p hl hv hp = record {
  width = zero_length;
  first = tt;
  steps = two_steps tech (Start layer p None) (Through v o) (hl, wide p hp, tt) hv;
}
