-- The law of stocks: shapes that stand for a state have the legal walks of the state, at the same costs.
use Rattle.std.proofs.Common.{◌≡◌, ℕ, List, [], ◌∷◌, ◌++◌, Bool, true, false, cond, not, ◌&&◌, ◌||◌, ◌==◌, nat_lt, filter, refl, sym, ap, subst, ◌∙◌}
use Rattle.std.specs.List.{list_any}
use Rattle.rt_base.specs.Conflict.{conflict_of}
use Rattle.rt_base.specs.declared.tech.Owner.{Owner}
use Rattle.rt_base.specs.declared.tech.Owner.TheVariants.{Net as OfNet, Nobody}
use Rattle.rt_base.specs.declared.tech.Shape.{Shape}
use Rattle.standing_shapes.specs.Standing.{AreShapesOf}
use Rattle.track_graph.specs.declared.design.Design.{Design}
use Rattle.track_graph.specs.declared.history.NetState.{NetState}
use Rattle.track_graph.specs.declared.history.State.{State}
use Rattle.track_graph.specs.Designs.{IsDesign}
use Rattle.track_graph.specs.Conditions.{IsStateOf}
use Rattle.track_graph.specs.Histories.{IsRoutable}
use Rattle.track_graph.specs.Readings.{AnswerAlike}
use Rattle.track_graph.specs.States.{net_state, standing}
use Rattle.track_graph.proofs.ReadingLaw.{any_same, alike-answers}
use Rattle.plain_route.specs.declared.sense.Sense.{Sense}
use Rattle.plain_route.specs.declared.sense.Sense.TheVariants.{Hard, Soft, Without}
use Rattle.plain_route.specs.Ground.{IsGround, IsNetStateOf}
use Rattle.plain_route.specs.Roles.{is_dear_net, is_absent_net, is_dear, is_forbidding, counts}
use Rattle.plain_route.specs.Senses.{picked, reading_of}
use Rattle.plain_route.specs.Stocks.{stock_reading, StandFor}
use Rattle.plain_route.proofs.AnyLemmas.{any_by_sums}
use Rattle.plain_route.proofs.CountLemmas.{any_picked, ripped_in}

any_filter : (p q : Shape → Bool) (shapes : List Shape) → list_any (λ b. p b && q b) shapes ≡ list_any p (filter q shapes)
any_filter p q [] = refl
any_filter p q (b ∷ shapes) = ap (λ (t : Bool). (p b && q b) || t) (any_filter p q shapes) ∙ by_test (q b)
  where
    and_true : (t : Bool) → (t && true) ≡ t
    and_true true = refl
    and_true false = refl

    and_false : (t : Bool) → (t && false) ≡ false
    and_false true = refl
    and_false false = refl

    by_test : (t : Bool) → ((p b && t) || list_any p (filter q shapes)) ≡ list_any p (cond t (b ∷ filter q shapes) (filter q shapes))
    by_test true = ap (λ (x : Bool). x || list_any p (filter q shapes)) (and_true (p b))
    by_test false = ap (λ (x : Bool). x || list_any p (filter q shapes)) (and_false (p b))

-- those that count are those of the reading
pub any_picked_of : (d : Design) (rips : ℕ → ℕ) (n : ℕ) (p : Shape → Bool) (sense : Sense) (dear : Bool) (shapes : List Shape) → list_any (λ b. p b && counts d rips n sense dear b) shapes ≡ list_any p (picked dear (stock_reading d rips n sense shapes))
any_picked_of d rips n p sense true shapes = any_filter p (is_dear d rips n sense) shapes
any_picked_of d rips n p sense false shapes = any_filter p (is_forbidding d rips n sense) shapes

-- of a net it matters only how often it was ripped
dear_alike : (d : Design) (r q : ℕ → ℕ) (n : ℕ) (sense : Sense) (m : ℕ) → r m ≡ q m → is_dear_net d r n sense m ≡ is_dear_net d q n sense m
dear_alike d r q n Hard m e = refl
dear_alike d r q n Soft m e = ap (λ (k : ℕ). not (m == n) && nat_lt k d.options.rips) e
dear_alike d r q n (Without absent) m e = refl

counts_alike : (d : Design) (r q : ℕ → ℕ) (n : ℕ) (sense : Sense) (dear : Bool) (b : Shape) → ((m : ℕ) → b.fixed ≡ false → b.owner ≡ OfNet m → r m ≡ q m) → counts d r n sense dear b ≡ counts d q n sense dear b
counts_alike d r q n sense dear b h = by_parts dear b.fixed b.owner h
  where
    by_parts : (dear fixed : Bool) (o : Owner) → ((m : ℕ) → fixed ≡ false → o ≡ OfNet m → r m ≡ q m) → counts d r n sense dear (record b { fixed = fixed; owner = o }) ≡ counts d q n sense dear (record b { fixed = fixed; owner = o })
    by_parts true true o h = refl
    by_parts true false (OfNet m) h = dear_alike d r q n sense m (h m refl refl)
    by_parts true false Nobody h = refl
    by_parts false true o h = refl
    by_parts false false (OfNet m) h = ap (λ (t : Bool). not (t || is_absent_net sense m)) (dear_alike d r q n sense m (h m refl refl))
    by_parts false false Nobody h = refl

-- whatever is asked of the shapes that count, the stock answers as the state
picked_alike : (d : Design) (s : State) (n : ℕ) (sense : Sense) (shapes : List Shape) (rips : ℕ → ℕ) (dear : Bool) (p : Shape → Bool) → IsDesign d → StandFor d s shapes rips → list_any p (picked dear (stock_reading d rips n sense shapes)) ≡ list_any p (picked dear (reading_of d s n sense))
picked_alike d s n sense shapes rips dear p ok stands =
    sym (any_picked_of d rips n p sense dear shapes)
    ∙ any_same (λ b. p b && counts d rips n sense dear b) (λ b. p b && counts d (ripped_in s) n sense dear b) shapes
    (λ b c. ap (λ (t : Bool). p b && t) (counts_alike d rips (ripped_in s) n sense dear b (λ m free own. stands.ripped b m c free own)))
    ∙ stands.same (λ b. p b && counts d (ripped_in s) n sense dear b)
    ∙ any_picked d s n p sense dear ok

-- a store of the shapes of a state stands for it
pub stored-stands : (d : Design) (s : State) (shapes : List Shape) → AreShapesOf d s shapes → StandFor d s shapes (ripped_in s)
stored-stands d s shapes stored = record { same = λ test. any_by_sums test shapes (d.fixed ++ standing d s) stored; ripped = λ b m c free own. refl }

-- the law
pub stock-answers : (d : Design) (s : State) (n : ℕ) (own : NetState) (sense : Sense) (shapes : List Shape) (rips : ℕ → ℕ) → IsDesign d → StandFor d s shapes rips → AnswerAlike d n own (stock_reading d rips n sense shapes) (reading_of d s n sense)
stock-answers d s n own sense shapes rips ok stands = alike-answers d n own (stock_reading d rips n sense shapes) (reading_of d s n sense) (λ a can. record {
  forbidden = picked_alike d s n sense shapes rips false (conflict_of d.tech a) ok stands;
  dear = picked_alike d s n sense shapes rips true (conflict_of d.tech a) ok stands;
})

-- so does such a store
pub stored-answers : (d : Design) (s : State) (n : ℕ) (own : NetState) (sense : Sense) (shapes : List Shape) → IsDesign d → AreShapesOf d s shapes → AnswerAlike d n own (stock_reading d (ripped_in s) n sense shapes) (reading_of d s n sense)
stored-answers d s n own sense shapes ok stored = stock-answers d s n own sense shapes (ripped_in s) ok (stored-stands d s shapes stored)

-- a state of the design tells of each net what a search asks of it
pub state-ground : (d : Design) (s : State) (n : ℕ) (own : NetState) → own ≡ net_state s n → IsDesign d → IsStateOf d s → IsRoutable d n → IsGround d n own
state-ground d s n own is ok state routable = record {
  design = ok;
  net = routable;
  of_net = subst (IsNetStateOf d n) (sym is) (record { pins = state.pins n; walks = state.walks n });
}
