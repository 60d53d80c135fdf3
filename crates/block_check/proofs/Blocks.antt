-- What makes a block right beside that its net waits.
use Rattle.std.proofs.Common.{◌≡◌, ◌∙◌, ◌↔◌, ℕ, List, sym, ap, subst}
use Rattle.rt_base.specs.declared.walk.Walk.{Walk}
use Rattle.track_graph.specs.declared.design.Design.{Design}
use Rattle.track_graph.specs.declared.history.Block.{Block}
use Rattle.track_graph.specs.declared.history.Block.TheVariants.{Wire, Stuck, RipFor}
use Rattle.track_graph.specs.declared.history.State.{State}
use Rattle.track_graph.specs.Histories.{IsRipRight, IsRight, IsStuckRight, IsWaiting, IsWireRight}
use Rattle.track_graph.specs.Orders.{net_of}
use Rattle.track_graph.specs.Readings.{hard_reading, reading_without, soft_reading}
use Rattle.track_graph.specs.Searches.{IsLeast, NoneLegal}
use Rattle.track_graph.specs.States.{net_state}
use Rattle.block_check.specs.Check.{MustRip}

module _ (d : Design) (s : State) (b : Block) (n : ℕ) (of : n ≡ net_of b) (waiting : IsWaiting d s n) where
  pub wire-right : (m : ℕ) (w : Walk) → b ≡ Wire m w → IsLeast d n (net_state s n) (hard_reading d s) w ↔ IsRight d s b
  wire-right m w is =
      let here : IsLeast d n (net_state s n) (hard_reading d s) w ↔ IsWireRight d s n w = (λ least. record { waiting = waiting; walk = least }, λ right. right.walk) in
      subst (λ (x : Block). IsLeast d n (net_state s n) (hard_reading d s) w ↔ IsRight d s x) (ap (λ (k : ℕ). Wire k w) (of ∙ ap net_of is) ∙ sym is) here

  pub stuck-right : (m : ℕ) → b ≡ Stuck m → (NoneLegal d n (net_state s n) (hard_reading d s) × NoneLegal d n (net_state s n) (soft_reading d s n)) ↔ IsRight d s b
  stuck-right m is =
      let none : Type 0 = NoneLegal d n (net_state s n) (hard_reading d s) × NoneLegal d n (net_state s n) (soft_reading d s n) in
      let here : none ↔ IsStuckRight d s n = (λ h. record { waiting = waiting; none = h.0; soft_none = h.1 }, λ right. (right.none, right.soft_none)) in
      subst (λ (x : Block). none ↔ IsRight d s x) (ap (λ (k : ℕ). Stuck k) (of ∙ ap net_of is) ∙ sym is) here

  pub rip-right : (m : ℕ) (soft : Walk) (ripped : List ℕ) (w : Walk) → b ≡ RipFor m soft ripped w → (MustRip d s n soft ripped × IsLeast d n (net_state s n) (reading_without d s ripped) w) ↔ IsRight d s b
  rip-right m soft ripped w is =
      let rip : Type 0 = MustRip d s n soft ripped × IsLeast d n (net_state s n) (reading_without d s ripped) w in
      let here : rip ↔ IsRipRight d s n soft ripped w = (
        λ h. record { waiting = waiting; none = h.0.none; soft_least = h.0.soft_least; ripped_exactly = h.0.crossed.exactly; some_ripped = h.0.crossed.some; walk = h.1 },
        λ right. (record { none = right.none; soft_least = right.soft_least; crossed = record { exactly = right.ripped_exactly; some = right.some_ripped } }, right.walk),
      ) in
      subst (λ (x : Block). rip ↔ IsRight d s x) (ap (λ (k : ℕ). RipFor k soft ripped w) (of ∙ ap net_of is) ∙ sym is) here
