-- Where no net may be ripped nothing is soft; where a soft walk is legal, a walk is without the nets that it crosses.
use Rattle.std.proofs.Common.{◌≡◌, ◌∙◌, ℕ, List, [], ◌∷◌, Bool, true, false, cond, ◌&&◌, ◌==◌, not, refl, ap, sym, subst, arith, nat_lt, Option, None, IfNone, filter, ◌||◌}
use Rattle.std.proofs.lemmas.Bool.Decides.{nat_tests}
use Rattle.rt_base.specs.declared.tech.Shape.{Shape}
use Rattle.rt_base.specs.declared.walk.Walk.{Walk}
use Rattle.track_graph.specs.Histories.{crossed_from, IsRipRight, IsWaiting}
use Rattle.track_graph.specs.Readings.{hard_reading, reading_without, soft_reading}
use Rattle.track_graph.specs.declared.design.Design.{Design}
use Rattle.track_graph.specs.declared.history.NetState.{NetState}
use Rattle.track_graph.specs.declared.history.State.{State}
use Rattle.track_graph.specs.Searches.{some_conflict, IsLeast, IsLegal, NoneLegal}
use Rattle.track_graph.specs.States.{net_state}
use Rattle.track_graph.specs.Walks.{walk_shapes_of}
use Rattle.crossed_nets.proofs.CrossedLemmas.{crossed-some, legal-without}
use Rattle.plain_route.specs.Roles.{is_forbidding, is_rippable}
use Rattle.plain_route.specs.Stocks.{stock_reading}
use Rattle.plain_route.specs.declared.sense.Sense.TheVariants.{Hard, Soft as AsSoft}
use Rattle.rt_base.specs.declared.tech.Owner.{Owner}
use Rattle.rt_base.specs.declared.tech.Owner.TheVariants.{Net as OfNet, Nobody}

none_below : (n : ℕ) → nat_lt n 0 ≡ false
none_below n = grind (arith, nat_tests)

and_false : (b : Bool) → (b && false) ≡ false
and_false true = refl
and_false false = refl

none_rippable : (d : Design) (rips : ℕ → ℕ) (n m : ℕ) → d.options.rips ≡ 0 → is_rippable d rips n m ≡ false
none_rippable d rips n m no_rips =
    ap (λ (r : ℕ). not (m == n) && nat_lt (rips m) r) no_rips
    ∙ ap (λ (b : Bool). not (m == n) && b) (none_below (rips m))
    ∙ and_false (not (m == n))

filter_same : (p q : Shape → Bool) (shapes : List Shape) → ((b : Shape) → p b ≡ q b) → filter p shapes ≡ filter q shapes
filter_same p q [] h = refl
filter_same p q (b ∷ shapes) h =
    ap (λ (t : Bool). cond t (b ∷ filter p shapes) (filter p shapes)) (h b)
    ∙ ap (λ (rest : List Shape). cond (q b) (b ∷ rest) rest) (filter_same p q shapes h)

-- where no net may be ripped all shapes forbid in the soft reading
soft_forbids : (d : Design) (rips : ℕ → ℕ) (n : ℕ) (b : Shape) → d.options.rips ≡ 0 → is_forbidding d rips n AsSoft b ≡ is_forbidding d rips n Hard b
soft_forbids d rips n b no_rips = by_owner b.fixed b.owner
  where
    by_owner : (fixed : Bool) (o : Owner) → is_forbidding d rips n AsSoft (record b { fixed = fixed; owner = o }) ≡ is_forbidding d rips n Hard (record b { fixed = fixed; owner = o })
    by_owner true o = refl
    by_owner false (OfNet m) = ap (λ (t : Bool). not (t || false)) (none_rippable d rips n m no_rips)
    by_owner false Nobody = refl

-- where no net may be ripped a net without a legal walk has no soft one
pub NoneLegal-soft : (d : Design) (rips : ℕ → ℕ) (n : ℕ) (own : NetState) (shapes : List Shape) → d.options.rips ≡ 0
    → NoneLegal d n own (stock_reading d rips n Hard shapes) → NoneLegal d n own (stock_reading d rips n AsSoft shapes)
NoneLegal-soft d rips n own shapes no_rips none v legal = none v (record {
  walk = legal.walk;
  inside = legal.inside;
  clear = subst (λ (ss : List Shape). some_conflict d.tech (walk_shapes_of d n v) ss ≡ false) (filter_same (is_forbidding d rips n AsSoft) (is_forbidding d rips n Hard) shapes (λ b. soft_forbids d rips n b no_rips)) legal.clear;
})

-- without the nets that a soft walk crosses some walk is legal
pub some-without : (d : Design) (s : State) (n : ℕ) (soft : Walk) (ripped : List ℕ) (found : Option Walk) → IsLegal d n (net_state s n) (soft_reading d s n) soft → ripped ≡ crossed_from d n soft 0 s.nets
    → IfNone found (NoneLegal d n (net_state s n) (reading_without d s ripped)) → found ≡ None → ⊥
some-without d s n soft ripped found legal crossed none is =
    let none_at_all : NoneLegal d n (net_state s n) (reading_without d s ripped) = subst (λ (o : Option Walk). IfNone o (NoneLegal d n (net_state s n) (reading_without d s ripped))) is none in
    none_at_all soft (subst (λ (absent : List ℕ). IsLegal d n (net_state s n) (reading_without d s absent) soft) (sym crossed) (legal-without d s n (net_state s n) soft legal))

-- what is found with the nets emptied that a least soft walk crosses is right
pub rip-right : (d : Design) (s : State) (n : ℕ) (soft : Walk) (ripped : List ℕ) (w : Walk) → IsWaiting d s n → NoneLegal d n (net_state s n) (hard_reading d s) → IsLeast d n (net_state s n) (soft_reading d s n) soft
    → ripped ≡ crossed_from d n soft 0 s.nets → IsLeast d n (net_state s n) (reading_without d s ripped) w → IsRipRight d s n soft ripped w
rip-right d s n soft ripped w waiting none soft_least crossed least = record {
  waiting = waiting;
  none = none;
  soft_least = soft_least;
  ripped_exactly = crossed;
  some_ripped = λ e. crossed-some d s n (net_state s n) soft none soft_least.legal (sym crossed ∙ e);
  walk = least;
}
