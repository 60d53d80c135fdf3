-- How great the parts of a halo are, and that there is one halo.
use Rattle.std.proofs.Common.{◌≡◌, ◌⊎◌, ℕ, ◌+◌, ◌*◌, ◌/◌, ◌^◌, ◌≤◌, max, ℤ, pos, negsuc, unsigned_abs, slice_get, Option, option_map, unwrap_or, Some, None, inl, inr, refl, sym, subst, arith}
use Rattle.std.specs.Int.{int_max}
use Rattle.std.proofs.lemmas.Int.{ints}
use Rattle.std.proofs.lemmas.List.Elements.{All-contains}
use Rattle.rt_base.proofs.Lists.{All-at}
use Rattle.rt_base.specs.Ranges.{IsWithin, IsWidth, AreSidesWithin}
use Rattle.rt_base.proofs.Ranges.{within-max}
use Rattle.rt_base.specs.declared.tech.Layer.{Layer}
use Rattle.track_graph.specs.declared.design.Design.{Design}
use Rattle.track_graph.specs.Designs.{IsDesign, IsViaOf}
use Rattle.track_graph.specs.Entries.{stub_reach}
use Rattle.track_graph.specs.Levels.{levels, track_system_of}
use Rattle.track_graph.specs.Metal.{Metal}
use Rattle.regions.specs.Halo.{IsGreatest, IsHalo, IsShapeReach, IsSpacing, IsStubReach, IsViaReach, half_of, stub_of}
use Rattle.regions.proofs.Greatest.{greatest_or, greatest_below, greatest_unique}

half_from : (w : ℤ) → IsWidth w → unsigned_abs (pos (unsigned_abs w / 2)) ≤ 2 ^ 32
half_from (pos n) ok = omega (arith, ints, ok.1)
half_from (negsuc n) ok = absurd (omega (arith, ints, ok.0))

pub half_most : (d : Design) → IsDesign d → (level : ℕ) → half_of d level ≤ 2 ^ 32
half_most d ok level = by_layer (slice_get (levels d.tech) level) refl
  where
    by_layer : (o : Option (ℕ × Layer)) → slice_get (levels d.tech) level ≡ o → unsigned_abs (pos (unsigned_abs (unwrap_or (option_map (λ (l : ℕ × Layer). l.1.width) o) (pos 0)) / 2)) ≤ 2 ^ 32
    by_layer None is = omega arith
    by_layer (Some l) is = half_from l.1.width (All-at (λ (m : ℕ × Layer). IsWidth m.1.width) (levels d.tech) level l ok.tech.widths is)

pub stub_most : (d : Design) → IsDesign d → (level : ℕ) → stub_reach (track_system_of d) level ≤ 2 ^ 33
stub_most d ok level = by_step (slice_get d.tracks.largest_step level) refl
  where
    by_step : (o : Option ℤ) → slice_get d.tracks.largest_step level ≡ o → 2 * unsigned_abs (unwrap_or o (pos 0)) ≤ 2 ^ 33
    by_step None is = omega arith
    by_step (Some z) is = omega (arith, All-at (IsWithin (2 ^ 32)) d.tracks.largest_step level z ok.tracks.steps is)

via_most : (d : Design) → IsDesign d → (v : ℕ) → IsViaReach d v → v ≤ 2 ^ 60 + 2 ^ 30
via_most d ok v (k, via, lt, at, (usable, (j, r, within, here, is))) =
    let of_via : IsViaOf d.tech via = All-contains (IsViaOf d.tech) d.tech.vias via ok.tech.vias (k, lt, at) in
    let sides : AreSidesWithin (2 ^ 60 + 2 ^ 30) r.1 = All-contains (λ (m : Metal). AreSidesWithin (2 ^ 60 + 2 ^ 30) m.1) via.rects r (of_via.usable_sides usable) (j, within, here) in
    omega (arith, sides.0, sides.1, sides.2, sides.3)

pub reach_most : (d : Design) (n : ℕ) → IsDesign d → IsGreatest (IsShapeReach d) n → n ≤ 2 ^ 60 + 2 ^ 34
reach_most d n ok g = greatest_below (IsShapeReach d) n (2 ^ 60 + 2 ^ 34) most g
  where
    most : (v : ℕ) → IsShapeReach d v → v ≤ 2 ^ 60 + 2 ^ 34
    most v (inl (level, lt, is)) = omega (arith, half_most d ok level)
    most v (inr (inl h)) = omega (arith, via_most d ok v h)
    most v (inr (inr (level, lt, is))) = omega (arith, half_most d ok level, stub_most d ok level)

pub spacing_most : (d : Design) (n : ℕ) → IsDesign d → IsGreatest (IsSpacing d) n → n ≤ 2 ^ 32
spacing_most d n ok g = greatest_below (IsSpacing d) n (2 ^ 32) (λ v h. subst (λ (m : ℕ). m ≤ 2 ^ 32) (sym h.2) (by_layer h.0.0 (slice_get d.tech.layers h.0.0) refl)) g
  where
    by_layer : (k : ℕ) (o : Option Layer) → slice_get d.tech.layers k ≡ o → unsigned_abs (int_max (unwrap_or (option_map (λ (l : Layer). l.spacing) o) (pos 0)) (pos 1)) ≤ 2 ^ 32
    by_layer k None is = omega arith
    by_layer k (Some l) is = within-max (2 ^ 32) l.spacing (pos 1) (All-at (λ (m : Layer). IsWithin (2 ^ 32) m.spacing) d.tech.layers k l ok.tech.spacings is) (omega arith)

pub halo_most : (d : Design) (halo : ℕ) → IsDesign d → IsHalo d halo → halo ≤ 2 ^ 61
halo_most d halo ok h = omega (arith, h.halo_is, reach_most d h.reach ok h.reach_is, spacing_most d h.spacing ok h.spacing_is)

pub halo_unique : (d : Design) (a b : ℕ) → IsHalo d a → IsHalo d b → a ≡ b
halo_unique d a b g h = omega (arith, g.halo_is, h.halo_is, greatest_unique (IsShapeReach d) g.reach h.reach g.reach_is h.reach_is, greatest_unique (IsSpacing d) g.spacing h.spacing g.spacing_is h.spacing_is)

-- no wire reaches farther than a stub of its level
pub shape_reach : (d : Design) (via stub reach : ℕ) → reach ≡ max via stub → IsGreatest (IsViaReach d) via → IsGreatest (IsStubReach d) stub → IsGreatest (IsShapeReach d) reach
shape_reach d via stub reach is g h = record { most = most; taken = wider both.taken }
  where
    both : IsGreatest (λ v. IsViaReach d v ⊎ IsStubReach d v) reach
    both = subst (IsGreatest (λ v. IsViaReach d v ⊎ IsStubReach d v)) (sym is) (greatest_or (IsViaReach d) (IsStubReach d) via stub g h)

    most : (v : ℕ) → IsShapeReach d v → v ≤ reach
    most v (inl (level, lt, e)) = omega (arith, e, is, h.most (stub_of d level) (level, lt, refl))
    most v (inr other) = both.most v other

    wider : (reach ≡ 0) ⊎ (IsViaReach d reach ⊎ IsStubReach d reach) → (reach ≡ 0) ⊎ IsShapeReach d reach
    wider (inl none) = inl none
    wider (inr other) = inr (inr other)
