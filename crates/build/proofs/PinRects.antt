-- The rectangles of a pin that a connection names: on layers of the technology, in range, and few.
use Rattle.std.proofs.Common.{◌≡◌, ◌<◌, ◌≤◌, ◌^◌, ℕ, List, length, All, sym, ap, subst, arith}
use Rattle.std.proofs.lemmas.List.Elements.{All-weaker}
use Rattle.rt_base.specs.Ranges.{AreSidesWithin}
use Rattle.rt_base.specs.declared.tech.Tech.{Tech}
use Rattle.rt_base.proofs.Ranges.{sides-weaker}
use Rattle.track_graph.specs.Designs.{IsMetal}
use Rattle.track_graph.specs.Metal.{Metal}
use Rattle.pin_access.specs.Nearby.{IsPinMetal}
use Rattle.build.specs.declared.nets.Ground.{Ground}
use Rattle.build.specs.Ground.{IsGround, input_on}
use Rattle.build.specs.LookUps.{connected_rects}
use Rattle.build.proofs.MetalLemmas.{connected_metal}
use Rattle.build.proofs.WireLemmas.{rects_few}

pub are_metal : (on : Ground) (c : List ℕ × List ℕ) (rects : List Metal) → IsGround on → rects ≡ connected_rects (input_on on).lef (input_on on).def c → All (IsMetal on.tech.now) rects
are_metal on c rects g is = subst (λ (ms : List Metal). All (IsMetal on.tech.now) ms) (sym is) (connected_metal (input_on on).lef (input_on on).def on.tech.now c g.is_input.is_lef g.is_input.is_def g.same_layers)

pub are_at_most : (on : Ground) (c : List ℕ × List ℕ) (rects : List Metal) → IsGround on → rects ≡ connected_rects (input_on on).lef (input_on on).def c → length rects ≤ 4194304
are_at_most on c rects g is = omega (arith, ap length is, rects_few (input_on on) c, g.few_shapes)

pub are_few : (on : Ground) (c : List ℕ × List ℕ) (rects : List Metal) → IsGround on → rects ≡ connected_rects (input_on on).lef (input_on on).def c → length rects < 2 ^ 32
are_few on c rects g is = omega (arith, are_at_most on c rects g is)

pub are_pin_metal : (tech : Tech) (rects : List Metal) → All (IsMetal tech) rects → All (IsPinMetal tech) rects
are_pin_metal tech rects all = All-weaker (IsMetal tech) (IsPinMetal tech) (λ m h. record { layer = h.layer; sides = sides-weaker (2 ^ 32) (2 ^ 61) m.1 (omega arith) h.sides }) rects all

pub are_within : (tech : Tech) (rects : List Metal) → All (IsMetal tech) rects → All (λ (m : Metal). AreSidesWithin (2 ^ 61) m.1) rects
are_within tech rects all = All-weaker (IsMetal tech) (λ (m : Metal). AreSidesWithin (2 ^ 61) m.1) (λ m h. sides-weaker (2 ^ 32) (2 ^ 61) m.1 (omega arith) h.sides) rects all
