-- Levels by their layers, usable vias, and that the technology built is one.
use Rattle.std.proofs.Common.{◌≡◌, ℕ, zero, suc, ◌+◌, ◌^◌, ◌<◌, ◌≤◌, List, [], ◌∷◌, Bool, true, false, not, cond, length, get_or, map, unwrap_or, All, refl, sym, ap, subst, ◌∙◌, arith}
use Rattle.std.specs.List.{AllZip}
use Rattle.std.proofs.lemmas.List.{length-map}
use Rattle.std.proofs.lemmas.List.Elements.{All-cons, All-head, All-tail, All-weaker}
use Rattle.std.proofs.lemmas.Option.{slice_get-map, unwrap_or-slice_get}
use Rattle.rt_base.specs.Ranges.{IsWithin, AreSidesWithin, IsWidth}
use Rattle.rt_base.proofs.Ranges.{within-weaker, sides-weaker}
use Rattle.rt_base.specs.declared.tech.Layer.{Layer}
use Rattle.rt_base.specs.declared.tech.Tech.{Tech}
use Rattle.rt_base.specs.declared.tech.Via.{Via}
use Rattle.track_graph.specs.Designs.{IsUsable, IsViaOf, IsTech, IsLayerOf, Alternate as AlternateLevels}
use Rattle.track_graph.specs.Levels.{routing_from, levels, is_horizontal}
use Rattle.track_graph.specs.Metal.{Metal}
use Rattle.lef_text.specs.declared.lef.Lef.{Lef}
use Rattle.lef_text.specs.IsLef.{IsLef, IsLayer, IfRouting, Alternate, directions}
pub use Rattle.cells.proofs.Lists.{AllZip-length}
use Rattle.rt_base.specs.Tables.{IsTable}
use Rattle.def_wires.specs.Sound.{IsOn}
use Rattle.build.specs.Built.{IsViaSaid}
use Rattle.build.specs.TrackLines.{routing_layers}

-- the layers of the levels are the routing layers
pub layers-routing_from : (n : ℕ) (ls : List Layer) → map (λ (l : ℕ × Layer). l.1) (routing_from n ls) ≡ routing_layers ls
layers-routing_from n [] = refl
layers-routing_from n (l ∷ ls) = by_test l.routing (layers-routing_from (n + 1) ls)
  where
    by_test : (b : Bool) → map (λ (l : ℕ × Layer). l.1) (routing_from (n + 1) ls) ≡ routing_layers ls → map (λ (l : ℕ × Layer). l.1) (cond b ((n, l) ∷ routing_from (n + 1) ls) (routing_from (n + 1) ls)) ≡ cond b (l ∷ routing_layers ls) (routing_layers ls)
    by_test true h = ap (λ (xs : List Layer). l ∷ xs) h
    by_test false h = h

pub length-levels : (tech : Tech) → length (levels tech) ≡ length (routing_layers tech.layers)
length-levels tech = sym (length-map (levels tech) (λ (l : ℕ × Layer). l.1)) ∙ ap length (layers-routing_from 0 tech.layers)

-- the levels of a technology have the directions of its routing layers
horizontal_is : (tech : Tech) (level : ℕ) → is_horizontal tech level ≡ get_or (directions tech.layers) level false
horizontal_is tech level =
    ap (λ o. unwrap_or o false) (sym (slice_get-map (λ (l : ℕ × Layer). l.1.horizontal) (levels tech) level))
    ∙ unwrap_or-slice_get (map (λ (l : ℕ × Layer). l.1.horizontal) (levels tech)) level false
    ∙ ap (λ (bs : List Bool). get_or bs level false) (directions_are 0 tech.layers)
  where
    directions_are : (n : ℕ) (ls : List Layer) → map (λ (l : ℕ × Layer). l.1.horizontal) (routing_from n ls) ≡ directions ls
    directions_are n ls = sym (map_twice (routing_from n ls)) ∙ ap (map (λ (l : Layer). l.horizontal)) (layers-routing_from n ls)
      where
        map_twice : (xs : List (ℕ × Layer)) → map (λ (l : Layer). l.horizontal) (map (λ (l : ℕ × Layer). l.1) xs) ≡ map (λ (l : ℕ × Layer). l.1.horizontal) xs
        map_twice [] = refl
        map_twice (x ∷ xs) = ap (λ (bs : List Bool). x.1.horizontal ∷ bs) (map_twice xs)

alternate_at : (bs : List Bool) (k : ℕ) → Alternate bs → suc k < length bs → get_or bs (suc k) false ≡ not (get_or bs k false)
alternate_at [] k h lt = absurd (omega arith)
alternate_at (b ∷ []) k h lt = absurd (omega arith)
alternate_at (a ∷ b ∷ bs) zero h lt = h.0
alternate_at (a ∷ b ∷ bs) (suc k) h lt = alternate_at (b ∷ bs) k h.1 (omega arith)

-- the width of each level
widths_from : (n : ℕ) (ls : List Layer) → All IsLayer ls → All (λ (l : ℕ × Layer). IsWidth l.1.width) (routing_from n ls)
widths_from n [] all = λ k d lt. absurd (omega arith)
widths_from n (l ∷ ls) all = by_test l.routing refl (widths_from (n + 1) ls (All-tail IsLayer l ls all))
  where
    by_test : (b : Bool) → l.routing ≡ b → All (λ (x : ℕ × Layer). IsWidth x.1.width) (routing_from (n + 1) ls) → All (λ (x : ℕ × Layer). IsWidth x.1.width) (cond b ((n, l) ∷ routing_from (n + 1) ls) (routing_from (n + 1) ls))
    by_test true e h = All-cons (λ (x : ℕ × Layer). IsWidth x.1.width) (n, l) (routing_from (n + 1) ls) (subst (λ (b : Bool). IfRouting b (IsWidth l.width)) e (All-head IsLayer l ls all).width) h
    by_test false e h = h

-- each of the second list has what its partner in the first gives it
pub AllZip-all : {A B : Type 0} → (R : A → B → Type 0) (P : A → Type 0) (Q : B → Type 0) → ((x : A) (y : B) → R x y → P x → Q y) → (xs : List A) (ys : List B) → AllZip R xs ys → All P xs → All Q ys
AllZip-all R P Q f [] [] h all = λ k d lt. absurd (omega arith)
AllZip-all R P Q f [] (b ∷ bs) h all = absurd h
AllZip-all R P Q f (a ∷ as') [] h all = absurd h
AllZip-all R P Q f (a ∷ as') (b ∷ bs) h all = All-cons Q b bs (f a b h.0 (All-head P a as' all)) (AllZip-all R P Q f as' bs h.1 (All-tail P a as' all))

via_is : (lef : Lef) (tech : Tech) (said via : Via) → tech.layers ≡ lef.layers → IsViaSaid tech said via → All (IsOn (length lef.layers) (2 ^ 60 + 2 ^ 30)) said.rects → IsViaOf tech via
via_is lef tech said via same v ok = record {
  usable = λ t. subst (IsUsable tech) (sym v.rects) (v.usable.0 t).1;
  layers = subst (λ (rs : List Metal). All (λ (r : Metal). IsLayerOf tech r.0) rs) (sym v.rects) (λ k d lt. subst (λ (ls : List Layer). (get_or said.rects k d).0.0 < length ls) (sym same) (ok k d lt).0);
  sides = subst (λ (rs : List Metal). All (λ (r : Metal). AreSidesWithin (2 ^ 61) r.1) rs) (sym v.rects) (λ k d lt. sides-weaker (2 ^ 60 + 2 ^ 30) (2 ^ 61) (get_or said.rects k d).1 (omega arith) (ok k d lt).1);
  usable_sides = λ t. subst (λ (rs : List Metal). All (λ (r : Metal). AreSidesWithin (2 ^ 60 + 2 ^ 30) r.1) rs) (sym v.rects) (λ k d lt. (ok k d lt).1);
}

-- a technology with the layers of a LEF with at most 16 routing layers
pub tech_is : (lef : Lef) (tech : Tech) (said : List Via) → IsLef lef → tech.layers ≡ lef.layers → length (routing_layers lef.layers) ≤ 16 → length said < 2 ^ 32 → All (λ (v : Via). All (IsOn (length lef.layers) (2 ^ 60 + 2 ^ 30)) v.rects) said → AllZip (IsViaSaid tech) said tech.vias → IsTech tech
tech_is lef tech said ok same few count on vias =
    let levels_few : length (routing_layers tech.layers) ≤ 16 = subst (λ (ls : List Layer). length (routing_layers ls) ≤ 16) (sym same) few in
    record {
      layer_count = subst (λ (ls : List Layer). length ls < 2 ^ 32) (sym same) ok.few_layers;
      via_count = omega (arith, count, AllZip-length (IsViaSaid tech) said tech.vias vias);
      level_count = omega (arith, levels_few, length-levels tech);
      widths = subst (λ (ls : List Layer). All (λ (l : ℕ × Layer). IsWidth l.1.width) (routing_from 0 ls)) (sym same) (widths_from 0 lef.layers ok.layers);
      spacings = subst (λ (ls : List Layer). All (λ (l : Layer). IsWithin (2 ^ 32) l.spacing) ls) (sym same) (All-weaker IsLayer (λ (l : Layer). IsWithin (2 ^ 32) l.spacing) (λ l h. within-weaker (2 ^ 30) (2 ^ 32) l.spacing (omega arith) h.spacing.1) lef.layers ok.layers);
      tables = subst (λ (ls : List Layer). All (λ (l : Layer). IsTable l.table) ls) (sym same) (All-weaker IsLayer (λ (l : Layer). IsTable l.table) (λ l h. h.table) lef.layers ok.layers);
      vias = AllZip-all (IsViaSaid tech) (λ (v : Via). All (IsOn (length lef.layers) (2 ^ 60 + 2 ^ 30)) v.rects) (IsViaOf tech) (λ said via v o. via_is lef tech said via same v o) said tech.vias vias on;
    }

-- its neighbouring levels have different directions
pub alternate_is : (lef : Lef) (tech : Tech) → IsLef lef → tech.layers ≡ lef.layers → AlternateLevels tech
alternate_is lef tech ok same level lt =
    horizontal_is tech (level + 1)
    ∙ ap (λ (k : ℕ). get_or (directions tech.layers) k false) (omega arith)
    ∙ alternate_at (directions tech.layers) level (subst (λ (ls : List Layer). Alternate (directions ls)) (sym same) ok.directions) (omega (arith, lt, length-levels tech, length-map (routing_layers tech.layers) (λ (l : Layer). l.horizontal)))
    ∙ ap not (sym (horizontal_is tech level))

-- what is said of a via hangs on the layers alone
pub said_again : (tech : Tech) (vias : List Via) (said via : Via) → IsViaSaid tech said via → IsViaSaid (let t : Tech = record { layers = tech.layers; vias = vias } in t) said via
said_again tech vias said via h = record {
  name = h.name;
  rects = h.rects;
  usable = (λ u. let p = h.usable.0 u in (p.0, there p.1), λ u. h.usable.1 (u.0, back u.1));
}
  where
    there : IsUsable tech said.rects → IsUsable (let t : Tech = record { layers = tech.layers; vias = vias } in t) said.rects
    there u = (u.0, record { joins = record { upper_level = u.1.joins.upper_level; lower = u.1.joins.lower; upper = u.1.joins.upper }; cut = u.1.cut; only = u.1.only })

    back : IsUsable (let t : Tech = record { layers = tech.layers; vias = vias } in t) said.rects → IsUsable tech said.rects
    back u = (u.0, record { joins = record { upper_level = u.1.joins.upper_level; lower = u.1.joins.lower; upper = u.1.joins.upper }; cut = u.1.cut; only = u.1.only })
