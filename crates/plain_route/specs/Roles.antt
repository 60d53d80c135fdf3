-- What one shape is for a search: dear, absent, or else forbidding.
use Rattle.std.specs.Prelude.{ℕ, length, Bool, true, false, not, ◌&&◌, ◌||◌, ◌==◌, nat_lt}
use Rattle.std.specs.List.{list_any}
use Rattle.rt_base.specs.Conflict.{conflict_of}
use Rattle.rt_base.specs.declared.tech.Owner.{Owner}
use Rattle.rt_base.specs.declared.tech.Owner.TheVariants.{Net as OfNet, Nobody}
use Rattle.rt_base.specs.declared.tech.Shape.{Shape}
use Rattle.plain_route.specs.declared.sense.Sense.{Sense}
use Rattle.plain_route.specs.declared.sense.Sense.TheVariants.{Hard, Soft, Without}
use Rattle.track_graph.specs.declared.design.Design.{Design}

-- net m is another one than n, and was ripped less often than the user allows
abbrev pub is_rippable : Design → (ℕ → ℕ) → ℕ → ℕ → Bool
is_rippable d rips n m = not (m == n) && nat_lt (rips m) d.options.rips

-- the wires of net m are dear
abbrev pub is_dear_net : Design → (ℕ → ℕ) → ℕ → Sense → ℕ → Bool
is_dear_net d rips n Hard m = false
is_dear_net d rips n Soft m = is_rippable d rips n m
is_dear_net d rips n (Without absent) m = false

-- the wires of net m are absent
abbrev pub is_absent_net : Sense → ℕ → Bool
is_absent_net Hard m = false
is_absent_net Soft m = false
is_absent_net (Without absent) m = list_any (λ k. k == m) absent

-- the owner is a net of which this holds
abbrev pub is_net_with : (ℕ → Bool) → Owner → Bool
is_net_with p (OfNet m) = p m
is_net_with p Nobody = false

-- a routed shape of a net whose wires are dear
abbrev pub is_dear : Design → (ℕ → ℕ) → ℕ → Sense → Shape → Bool
is_dear d rips n sense b = not b.fixed && is_net_with (is_dear_net d rips n sense) b.owner

-- a fixed shape, or one of a net whose wires are neither dear nor absent
abbrev pub is_forbidding : Design → (ℕ → ℕ) → ℕ → Sense → Shape → Bool
is_forbidding d rips n sense b = b.fixed || not (is_net_with (λ m. is_dear_net d rips n sense m || is_absent_net sense m) b.owner)

-- a dear shape, or a forbidding one
abbrev pub counts : Design → (ℕ → ℕ) → ℕ → Sense → Bool → Shape → Bool
counts d rips n sense true b = is_dear d rips n sense b
counts d rips n sense false b = is_forbidding d rips n sense b

-- a shape, on a layer that there is, conflicts with one that counts
abbrev pub clashes : Design → (ℕ → ℕ) → ℕ → Sense → Bool → Shape → Shape → Bool
clashes d rips n sense dear a b = nat_lt a.layer.0 (length d.tech.layers) && conflict_of d.tech a b && counts d rips n sense dear b
