-- Stops, entry by entry.
use Rattle.std.proofs.Common.{◌≡◌, ⊎_elim, ℕ, ◌+◌, ◌<◌, List, [], ◌∷◌, ◌++◌, length, take, get_or, Contains, sym, subst}
use Rattle.std.proofs.lemmas.List.{take_more}
use Rattle.std.proofs.lemmas.List.Elements.{Contains-append_left, Contains-push, Contains-push_cases}
use Rattle.rt_base.proofs.Lists.{none_in}
use Rattle.rt_base.specs.declared.walk.Entry.{Entry}
use Rattle.least_walk.specs.declared.graph.Stop.{Stop}
use Rattle.track_graph.specs.declared.design.Design.{Design}
use Rattle.track_graph.specs.Searches.{Reading}
use Rattle.plain_route.specs.Ground.{IsStopAt}
use Rattle.plain_route.specs.Stops.{AddsStop, AreStops}

pub stops_none : (d : Design) (n : ℕ) (r : Reading) → AreStops d n r [] []
stops_none d n r = record { only = λ s c. absurd (none_in s c); has = λ e k c h. absurd (none_in e c) }

pub stops_more : (d : Design) (n : ℕ) (r : Reading) (es : List Entry) (i : ℕ) (x : Entry) (old new : List Stop) → i < length es → AreStops d n r (take i es) old → AddsStop d n r (get_or es i x) old new → AreStops d n r (take (i + 1) es) new
stops_more d n r es i x old new lt h adds =
    let e : Entry = get_or es i x in
    subst (λ (ys : List Entry). AreStops d n r ys new) (sym (take_more es i x lt))
    (record {
      only = λ s c. ⊎_elim
          (λ (was : Contains old s). (Contains-append_left (take i es) (e ∷ []) s.entry (h.only s was).0, (h.only s was).1))
          (λ (its : (s.entry ≡ e) × IsStopAt d n r e s.cost). (subst (Contains (take i es ++ e ∷ [])) (sym its.0) (Contains-push (take i es) e), subst (λ (y : Entry). IsStopAt d n r y s.cost) (sym its.0) its.1))
          (adds.only s c);
      has = λ y k c at. ⊎_elim
          (λ (was : Contains (take i es) y). adds.keeps (record { entry = y; cost = k }) (h.has y k was at))
          (λ (its : e ≡ y). subst (λ (z : Entry). Contains new (record { entry = z; cost = k })) its (adds.has k (subst (λ (z : Entry). IsStopAt d n r z k) (sym its) at)))
          (Contains-push_cases (take i es) e y c);
    })
