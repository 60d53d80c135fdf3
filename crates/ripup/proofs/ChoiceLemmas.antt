-- What a search over a stock says of a state that the stock stands for.
use Rattle.std.proofs.Common.{◌≡◌, ◌≢◌, ◌∙◌, ℕ, List, [], ◌∷◌, Bool, true, false, cond, not, IsTrue, filter, All, refl, ap, subst, sym}
use Rattle.std.proofs.lemmas.List.Elements.{All-cons, All-nil}
use Rattle.crossed_nets.specs.Hits.{AreCrossed}
use Rattle.crossed_nets.proofs.Wires.{crossed-nets_of}
use Rattle.plain_route.specs.Senses.{reading_of}
use Rattle.plain_route.specs.Stocks.{stock_reading}
use Rattle.plain_route.specs.declared.sense.Sense.{Sense}
use Rattle.plain_route.specs.declared.sense.Sense.TheVariants.{Hard, Soft as AsSoft, Without}
use Rattle.plain_route.proofs.StockLaw.{stock-answers, stored-stands}
use Rattle.plain_route.proofs.CountLemmas.{ripped_in}
use Rattle.standing_shapes.specs.Standing.{AreShapesOf}
use Rattle.track_graph.specs.Conditions.{IsStateOf}
use Rattle.ripup.specs.Choices.{IsWidened, IsRipHeld, Shows}
use Rattle.ripup.proofs.SearchLemmas.{rip-right}
use Rattle.rt_base.specs.declared.tech.Shape.{Shape}
use Rattle.rt_base.specs.declared.walk.Walk.{Walk}
use Rattle.track_graph.specs.Designs.{IsDesign}
use Rattle.track_graph.specs.Histories.{all_joined, crossed_from, IsRoutable, IsWaiting}
use Rattle.track_graph.specs.Searches.{IsLeast, NoneLegal}
use Rattle.track_graph.specs.States.{net_state}
use Rattle.track_graph.specs.declared.design.Design.{Design}
use Rattle.track_graph.specs.declared.history.NetState.{NetState}
use Rattle.track_graph.specs.declared.history.State.{State}

-- where none is outside all are held
pub none_outside : (held : ℕ → Bool) (xs : List ℕ) → filter (λ m. not (held m)) xs ≡ [] → All (λ m. IsTrue (held m)) xs
none_outside held [] h = All-nil (λ m. IsTrue (held m))
none_outside held (x ∷ xs) h = by_test (held x) refl h (none_outside held xs)
  where
    by_test : (t : Bool) → held x ≡ t → cond (not t) (x ∷ filter (λ m. not (held m)) xs) (filter (λ m. not (held m)) xs) ≡ [] → (filter (λ m. not (held m)) xs ≡ [] → All (λ m. IsTrue (held m)) xs) → All (λ m. IsTrue (held m)) (x ∷ xs)
    by_test true e rest all = All-cons (λ m. IsTrue (held m)) x xs e (all rest)
    by_test false e rest all = absurd cc

module _ (d : Design) (n : ℕ) (own : NetState) (shapes : List Shape) (rips : ℕ → ℕ) (s : State) where
  pub least_of : (sense : Sense) (w : Walk) → IsDesign d → Shows d n own shapes rips s → IsLeast d n own (stock_reading d rips n sense shapes) w → IsLeast d n (net_state s n) (reading_of d s n sense) w
  least_of sense w ok shows h = subst (λ (o : NetState). IsLeast d n o (reading_of d s n sense) w) shows.known (((stock-answers d s n own sense shapes rips ok shows.stands).least w).0 h)

  pub none_of : (sense : Sense) → IsDesign d → Shows d n own shapes rips s → NoneLegal d n own (stock_reading d rips n sense shapes) → NoneLegal d n (net_state s n) (reading_of d s n sense)
  none_of sense ok shows h = subst (λ (o : NetState). NoneLegal d n o (reading_of d s n sense)) shows.known ((stock-answers d s n own sense shapes rips ok shows.stands).none.0 h)

  pub waiting_of : IsRoutable d n → own.stuck ≡ false → all_joined own ≡ false → Shows d n own shapes rips s → IsWaiting d s n
  waiting_of routable not_stuck unjoined shows = record {
    routable = routable;
    not_stuck = subst (λ (o : NetState). o.stuck ≡ false) shows.known not_stuck;
    unjoined = subst (λ (o : NetState). all_joined o ≡ false) shows.known unjoined;
  }

  pub widened_of : (held : ℕ → Bool) (soft : Walk) (ripped nets : List ℕ) → IsDesign d → Shows d n own shapes rips s → NoneLegal d n own (stock_reading d rips n Hard shapes) → IsLeast d n own (stock_reading d rips n AsSoft shapes) soft
      → AreCrossed d rips n soft shapes ripped → nets ≡ filter (λ m. not (held m)) ripped → nets ≢ [] → IsWidened d s held n nets
  widened_of held soft ripped nets ok shows none least crossed outside some = record {
    none = none_of Hard ok shows none;
    soft = soft;
    soft_least = least_of AsSoft soft ok shows least;
    exactly = outside ∙ ap (filter (λ m. not (held m))) (crossed-nets_of d s n soft shapes rips ripped ok shows.stands crossed);
    some = some;
  }

  pub held_of : (held : ℕ → Bool) (soft w : Walk) (ripped nets : List ℕ) → IsDesign d → IsWaiting d s n → Shows d n own shapes rips s → NoneLegal d n own (stock_reading d rips n Hard shapes) → IsLeast d n own (stock_reading d rips n AsSoft shapes) soft
      → AreCrossed d rips n soft shapes ripped → nets ≡ filter (λ m. not (held m)) ripped → nets ≡ [] → IsLeast d n own (stock_reading d rips n (Without ripped) shapes) w → IsRipHeld d s held n soft ripped w
  held_of held soft w ripped nets ok waiting shows none least crossed outside empty found = record {
    right = rip-right d s n soft ripped w waiting (none_of Hard ok shows none) (least_of AsSoft soft ok shows least)
        (crossed-nets_of d s n soft shapes rips ripped ok shows.stands crossed) (least_of (Without ripped) w ok shows found);
    are_held = none_outside held ripped (sym outside ∙ empty);
  }

-- where all nets are held none is outside
all_held : (xs : List ℕ) → filter (λ m. not true) xs ≡ []
all_held [] = refl
all_held (x ∷ xs) = all_held xs

pub widened_never : (d : Design) (s : State) (n : ℕ) (nets : List ℕ) → IsWidened d s (λ m. true) n nets → ⊥
widened_never d s n nets h = h.some (h.exactly ∙ all_held (crossed_from d n h.soft 0 s.nets))

-- a store of the shapes of a state shows it
pub stored-shows : (d : Design) (s : State) (n : ℕ) (own : NetState) (shapes : List Shape) → IsStateOf d s → AreShapesOf d s shapes → own ≡ net_state s n → Shows d n own shapes (ripped_in s) s
stored-shows d s n own shapes state stored known = record { state = state; stands = stored-stands d s shapes stored; known = known }
