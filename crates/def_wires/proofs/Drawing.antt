-- The rectangles of a path as they are made, step by step.
use Rattle.std.proofs.Common.{append_assoc, lit≤, ◌^◌, ◌≡◌, ℤ, List, [], ◌∷◌, ◌++◌, Option, refl, sym, ap, ◌∙◌}
use Rattle.rt_base.specs.declared.tech.Tech.{Tech}
use Rattle.def_wires.specs.declared.wiring.WireStep.{WireStep}
use Rattle.def_wires.specs.declared.wiring.WireStep.TheVariants.{Start, Go, Via as Through, Patch}
use Rattle.def_wires.specs.declared.wiring.Spot.{Spot}
use Rattle.def_wires.specs.Meaning.{Metal, spot_behind, step_metal, metal_behind}
use Rattle.def_wires.specs.Walks.{spot_after}
use Rattle.def_wires.specs.Sound.{IsSpot, IsStep, IsWireLength}
use Rattle.rt_base.specs.Ranges.{IsWithin}
use Rattle.rt_base.proofs.Ranges.{within-weaker, within-from_range}

-- the rectangles of steps from where a path stands
unfoldable pub metal_from : Tech → Option ℤ → Spot → List WireStep → List Metal
metal_from tech width at [] = []
metal_from tech width at (s ∷ steps) = step_metal tech width at s ++ metal_from tech width (spot_after tech at s) steps

spot_after_is : (tech : Tech) (before : List WireStep) (s : WireStep) → spot_behind tech (s ∷ before) ≡ spot_after tech (spot_behind tech before) s
spot_after_is tech before (Start layer point ext) = refl
spot_after_is tech before (Go point ext) = refl
spot_after_is tech before (Through v o) = refl
spot_after_is tech before (Patch r) = refl

pub metal_from_is : (tech : Tech) (width : Option ℤ) (before steps : List WireStep) → metal_from tech width (spot_behind tech before) steps ≡ metal_behind tech width before steps
unfolding metal_from
metal_from_is tech width before [] = refl
metal_from_is tech width before (s ∷ steps) = ap (λ (ms : List Metal). step_metal tech width (spot_behind tech before) s ++ ms) (ap (λ (at : Spot). metal_from tech width at steps) (sym (spot_after_is tech before s)) ∙ metal_from_is tech width (s ∷ before) steps)

-- one more step
pub drawn_more : (tech : Tech) (width : Option ℤ) (at to : Spot) (s : WireStep) (steps more : List WireStep) (metal new total : List Metal)
    → steps ≡ s ∷ more → new ≡ metal ++ step_metal tech width at s → to ≡ spot_after tech at s → metal ++ metal_from tech width at steps ≡ total → new ++ metal_from tech width to more ≡ total
unfolding metal_from
drawn_more tech width at to s steps more metal new total cons pushed moved same =
    let all : metal ++ metal_from tech width at (s ∷ more) ≡ total = rw cons at same in
    rw (pushed, moved, append_assoc) all

pub spot_sound : (tech : Tech) (at : Spot) (s : WireStep) → IsSpot at → IsStep tech s → IsSpot (spot_after tech at s)
spot_sound tech at (Start layer point ext) h k = record { point = k.1; ext = k.2 }
spot_sound tech at (Go point ext) h k = record { point = k.0; ext = k.1 }
spot_sound tech at (Through v o) h k = record { point = h.point; ext = h.ext }
spot_sound tech at (Patch r) h k = h

pub length_within : (z : ℤ) → IsWireLength z → IsWithin (2 ^ 61) z
length_within z h = within-weaker (2 ^ 32) (2 ^ 61) z (lit≤ tt) (within-from_range (2 ^ 32) z h.0 h.1)
