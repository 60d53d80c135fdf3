-- The wires among the shapes of a state that stand for a net.
use Rattle.std.proofs.Common.{◌≡◌, ◌∙◌, ℕ, List, Bool, true, false, arith, not, ◌&&◌, ◌||◌, ◌==◌, nat_lt, All, refl, sym, ap}
use Rattle.std.specs.List.{list_any}
use Rattle.std.proofs.lemmas.List.Folds.{list_any-append}
use Rattle.rt_base.specs.Conflict.{conflict_of}
use Rattle.rt_base.specs.declared.tech.Owner.{Owner}
use Rattle.rt_base.specs.declared.tech.Owner.TheVariants.{Net as OfNet, Nobody}
use Rattle.rt_base.specs.declared.tech.Shape.{Shape}
use Rattle.rt_base.specs.declared.walk.Walk.{Walk}
use Rattle.track_graph.specs.declared.design.Design.{Design}
use Rattle.track_graph.specs.declared.history.State.{State}
use Rattle.track_graph.specs.Designs.{IsDesign, IsFixed}
use Rattle.track_graph.specs.Histories.{crossed_from}
use Rattle.track_graph.specs.States.{net_state, standing_from, standing}
use Rattle.track_graph.specs.Walks.{walk_shapes_of}
use Rattle.track_graph.proofs.ReadingLaw.{any_same}
use Rattle.plain_route.specs.Roles.{is_net_with, is_rippable}
use Rattle.plain_route.specs.Stocks.{StandFor}
use Rattle.plain_route.proofs.AnyLemmas.{any_const, all_then}
use Rattle.plain_route.proofs.CountLemmas.{IsOf, any_standing, ripped_in, state_at}
use Rattle.crossed_nets.specs.Hits.{has, is_hit, is_wire_of, AreCrossed}
use Rattle.crossed_nets.proofs.Conflicts.{crossed-has, is_rippable_as}
use Rattle.crossed_nets.proofs.CrossedLemmas.{crossed-ascend_from}
use Rattle.crossed_nets.proofs.Numbers.{ascend-from_pairs, ascend-same}

-- of a net it matters only how often it was ripped
wire_alike : (d : Design) (r q : ℕ → ℕ) (n m : ℕ) (b : Shape) → ((k : ℕ) → b.fixed ≡ false → b.owner ≡ OfNet k → r k ≡ q k) → is_wire_of d r n m b ≡ is_wire_of d q n m b
wire_alike d r q n m b h = by_parts b.fixed b.owner h
  where
    by_parts : (fixed : Bool) (o : Owner) → ((k : ℕ) → fixed ≡ false → o ≡ OfNet k → r k ≡ q k) → (not fixed && is_net_with (λ k. (k == m) && is_rippable d r n k) o) ≡ (not fixed && is_net_with (λ k. (k == m) && is_rippable d q n k) o)
    by_parts true o h = refl
    by_parts false (OfNet k) h = ap (λ (rips : ℕ). (k == m) && (not (k == n) && nat_lt rips d.options.rips)) (h k refl refl)
    by_parts false Nobody h = refl

module _ (d : Design) (s : State) (n m : ℕ) where
  -- whether net k is m and may be ripped
  abbrev counts_net : ℕ → Bool
  counts_net k = is_rippable_as d n m k (net_state s k)

  wire_counts : (k : ℕ) (b : Shape) → IsOf k b → is_wire_of d (ripped_in s) n m b ≡ counts_net k
  wire_counts k b h = ap (λ (o : Owner). not b.fixed && is_net_with counts_net o) h.0 ∙ ap (λ (f : Bool). not f && counts_net k) h.1

  no_wire : (b : Shape) → b.fixed ≡ true → is_wire_of d (ripped_in s) n m b ≡ false
  no_wire b h = ap (λ (f : Bool). not f && is_net_with counts_net b.owner) h

  -- a shape hits one of all shapes where it conflicts with a standing one of net m, which may be ripped
  any_hit : (a : Shape) (shapes : List Shape) (rips : ℕ → ℕ) → IsDesign d → StandFor d s shapes rips → list_any (is_hit d rips n m a) shapes ≡ list_any (conflict_of d.tech a) (standing_from d (is_rippable_as d n m) 0 s.nets)
  any_hit a shapes rips ok stands =
      let p : Shape → Bool = conflict_of d.tech a in
      let q : Shape → Bool = is_wire_of d (ripped_in s) n m in
      let fixed : All (λ b. q b ≡ false) d.fixed = all_then (IsFixed d.tech) (λ b. q b ≡ false) d.fixed (λ b h. no_wire b h.fixed) ok.fixed in
      any_same (is_hit d rips n m a) (is_hit d (ripped_in s) n m a) shapes (λ b c. ap (λ (t : Bool). p b && t) (wire_alike d rips (ripped_in s) n m b (λ k free own. stands.ripped b k c free own)))
      ∙ stands.same (is_hit d (ripped_in s) n m a)
      ∙ list_any-append (λ b. p b && q b) d.fixed (standing d s)
      ∙ ap (λ (t : Bool). t || list_any (λ b. p b && q b) (standing d s)) (any_const p q false d.fixed fixed)
      ∙ any_standing d p q counts_net (is_rippable_as d n m) 0 s.nets wire_counts (λ k i net e at. ap (is_rippable_as d n m k) (state_at s k i net e at))

  -- a walk hits one of all shapes where it crosses net m
  hit-crossed : (w : Walk) (shapes : List Shape) (rips : ℕ → ℕ) → IsDesign d → StandFor d s shapes rips → list_any (λ a. list_any (is_hit d rips n m a) shapes) (walk_shapes_of d n w) ≡ has (crossed_from d n w 0 s.nets) m
  hit-crossed w shapes rips ok stands =
      any_same (λ a. list_any (is_hit d rips n m a) shapes) (λ a. list_any (conflict_of d.tech a) (standing_from d (is_rippable_as d n m) 0 s.nets)) (walk_shapes_of d n w) (λ a h. any_hit a shapes rips ok stands)
      ∙ sym (crossed-has d n w m 0 s.nets)

-- among shapes that stand for a state a walk crosses the nets that it crosses in the state
pub crossed-nets_of : (d : Design) (s : State) (n : ℕ) (w : Walk) (shapes : List Shape) (rips : ℕ → ℕ) (nets : List ℕ) → IsDesign d → StandFor d s shapes rips → AreCrossed d rips n w shapes nets → nets ≡ crossed_from d n w 0 s.nets
crossed-nets_of d s n w shapes rips nets ok stands are =
    ascend-same 0 nets (crossed_from d n w 0 s.nets)
    (ascend-from_pairs 0 nets (λ k x within. omega arith) are.ascending)
    (crossed-ascend_from d n w 0 s.nets)
    (λ m. are.exactly m ∙ hit-crossed d s n m w shapes rips ok stands)
