-- What a search answers over a store of a state's shapes it answers of the state.
use Rattle.std.proofs.Common.{◌≡◌, ◌↔◌, ℕ, List, Bool, IsTrue, Result, Ok, Err, IfOk, sym, subst}
use Rattle.rt_base.specs.declared.memory.Memory.{Memory}
use Rattle.rt_base.specs.declared.tech.Shape.{Shape}
use Rattle.rt_base.specs.declared.walk.Walk.{Walk}
use Rattle.plain_route.specs.Ground.{IsGround}
use Rattle.plain_route.specs.Senses.{reading_of}
use Rattle.plain_route.specs.Stocks.{stock_reading}
use Rattle.plain_route.specs.declared.sense.Sense.{Sense}
use Rattle.plain_route.proofs.CountLemmas.{ripped_in}
use Rattle.plain_route.proofs.StockLaw.{state-ground, stored-answers}
use Rattle.track_graph.specs.declared.design.Design.{Design}
use Rattle.track_graph.specs.declared.history.NetState.{NetState}
use Rattle.track_graph.specs.declared.history.State.{State}
use Rattle.track_graph.specs.Searches.{IsLeast, NoneLegal}
use Rattle.track_graph.specs.States.{net_state}
use Rattle.block_check.specs.Check.{CanCheck}

-- an answer that tests a fact tests each that holds exactly where it does
pub tests-same : {P Q : Type 0} (r : Result Bool Memory) → P ↔ Q → IfOk r (λ b. IsTrue b ↔ P) → IfOk r (λ b. IsTrue b ↔ Q)
tests-same (Ok b) same h = (λ yes. same.0 (h.0 yes), λ q. h.1 (same.1 q))
tests-same (Err e) same h = tt

module _ (d : Design) (s : State) (n : ℕ) (shapes : List Shape) (own : NetState) (can : CanCheck d s n shapes) (is : own ≡ net_state s n) where
  pub stored-ground : IsGround d n own
  stored-ground = state-ground d s n own is can.design can.state can.net

  pub stored-least : (sense : Sense) (w : Walk) → IsLeast d n own (stock_reading d (ripped_in s) n sense shapes) w ↔ IsLeast d n (net_state s n) (reading_of d s n sense) w
  stored-least sense w = subst (λ (x : NetState). IsLeast d n x (stock_reading d (ripped_in s) n sense shapes) w ↔ IsLeast d n (net_state s n) (reading_of d s n sense) w) (sym is)
      ((stored-answers d s n (net_state s n) sense shapes can.design can.stored).least w)

  pub stored-none : (sense : Sense) → NoneLegal d n own (stock_reading d (ripped_in s) n sense shapes) ↔ NoneLegal d n (net_state s n) (reading_of d s n sense)
  stored-none sense = subst (λ (x : NetState). NoneLegal d n x (stock_reading d (ripped_in s) n sense shapes) ↔ NoneLegal d n (net_state s n) (reading_of d s n sense)) (sym is)
      (stored-answers d s n (net_state s n) sense shapes can.design can.stored).none
