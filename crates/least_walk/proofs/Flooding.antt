-- A flood that ends meets all from which its targets can be reached.
use Rattle.std.proofs.Common.{◌≡◌, ◌⊎◌, ℕ, ◌+◌, ◌<◌, ◌≤◌, Bool, true, false, sym, refl, ap, ◌∙◌, subst, List, [], ◌∷◌, ◌++◌, length, Option, Some, None, Result, Ok, Err, IfOk, IfSome, IfNone, Contains, arith, slice_get, ⊎_elim}
use Rattle.std.specs.Bool.{OnTrue}
use Rattle.std.specs.Option.{is_some}
use Rattle.std.proofs.lemmas.Bool.{cases_lt}
use Rattle.std.proofs.lemmas.Option.{slice_get-get_or, same_Some}
use Rattle.std.proofs.lemmas.List.Elements.{Contains-append_left, Contains-push}
use Rattle.rt_base.specs.declared.walk.Vertex.{Vertex}
use Rattle.rt_base.specs.declared.walk.Edge.{Edge}
use Rattle.least_walk.specs.declared.graph.Stop.{Stop}
use Rattle.least_walk.specs.declared.flood.Flood.{Flood}
use Rattle.least_walk.specs.Known.{number_of, Sets}
use Rattle.least_walk.specs.Routes.{IsPath, end_of, HasNoRoute, IsGraph, AreStarts}
use Rattle.least_walk.specs.Flood.{IsKnown, AreKnown, IsFlood, Grows, Reaches, Spreads, IsFloodFrom}
use Rattle.least_walk.proofs.Keys.{contains_cons}
use Rattle.least_walk.proofs.Lists.{get_left, length_more, contains_cases}

-- what follows of a true answer
pub then_true : {E P Q : Type 0} (r : Result Bool E) → (P → Q) → IfOk r (λ b. OnTrue b P) → IfOk r (λ b. OnTrue b Q)
then_true (Ok true) f h = f h
then_true (Ok false) f h = tt
then_true (Err e) f h = tt

pub when_true : {P : Type 0} (b : Bool) → b ≡ true → OnTrue b P → P
when_true true e h = h
when_true false e h = absurd (clash e)
  where
    clash : false ≡ true → ⊥
    clash e = cc

pub on_true : {P : Type 0} (b : Bool) → (b ≡ true → P) → OnTrue b P
on_true true f = f refl
on_true false f = tt

-- what follows of an answer that is there, and of one that isn't
pub when_some : {X : Type 0} {P : X → Type 0} (o : Option X) → is_some o ≡ true → IfSome o P → (x : X) × P x
when_some None e h = absurd (clash e)
  where
    clash : false ≡ true → ⊥
    clash e = cc
when_some (Some x) e h = (x, h)

pub when_none : {X P : Type 0} (o : Option X) → is_some o ≡ false → IfNone o P → P
when_none None e h = h
when_none (Some x) e h = absurd (clash e)
  where
    clash : true ≡ false → ⊥
    clash e = cc

none_some : {p : ℕ} → None ≡ Some p → ⊥
none_some e = cc

pub known_from : (known : List (Vertex × ℕ)) (v : Vertex) (o : Option ℕ) → o ≡ number_of known v → is_some o ≡ true → IsKnown known v
known_from known v None e some = absurd (clash some)
  where
    clash : false ≡ true → ⊥
    clash e = cc
known_from known v (Some n) e some = (n, sym e)

pub unknown_from : (known : List (Vertex × ℕ)) (v : Vertex) (o : Option ℕ) → o ≡ number_of known v → is_some o ≡ false → IsKnown known v → ⊥
unknown_from known v None e none k = none_some (e ∙ k.1)
unknown_from known v (Some n) e none k = cc

pub known_set : (v : Vertex) (n : ℕ) (old new : List (Vertex × ℕ)) (u : Vertex) → Sets v n old new → IsKnown old u → IsKnown new u
known_set v n old new u sets k = ⊎_elim
    (λ (e : u ≡ v). (n, ap (number_of new) e ∙ sets.here))
    (λ (e : number_of new u ≡ number_of old u). (k.0, e ∙ k.1))
    (sets.apart u)

pub grows_self : (f : Flood) → Grows f f
grows_self f = record { longer = omega arith; same = λ k l. refl; reached = λ v h. h }

pub grows_through : (f g h : Flood) → Grows f g → Grows g h → Grows f h
grows_through f g h a b = record {
  longer = omega (arith, a.longer, b.longer);
  same = λ k l. b.same k (omega (arith, l, a.longer)) ∙ a.same k l;
  reached = λ v x. b.reached v (a.reached v x);
}

module _ (vertices : List Vertex) (met : List (Vertex × ℕ)) where
  pub reaches_old : (v : Vertex) (f : Flood) → IsFlood vertices met f → IsKnown f.reached v → Reaches vertices met v f f
  reaches_old v f flood has = record { grown = record { flood = flood; grows = grows_self f }; has = has }

  pub reaches_new : (v : Vertex) (n : ℕ) (old new : Flood) → IsFlood vertices met old → Contains vertices v → (IsKnown met v → ⊥) → Sets v n old.reached new.reached → new.queue.items ≡ old.queue.items ++ v ∷ [] → Reaches vertices met v old new
  reaches_new v n old new flood within apart sets push = record {
    grown = record {
      flood = record {
        listed = λ u k. ⊎_elim
            (λ (e : u ≡ v). here (subst (λ (w : Vertex). Contains (old.queue.items ++ v ∷ []) w) (sym e) (Contains-push old.queue.items v)))
            (λ (e : number_of new.reached u ≡ number_of old.reached u). here (Contains-append_left old.queue.items (v ∷ []) u (flood.listed u (k.0, sym e ∙ k.1))))
            (sets.apart u);
        within = λ u h. ⊎_elim
            (λ (c : Contains old.queue.items u). flood.within u c)
            (λ (e : u ≡ v). subst (λ (w : Vertex). Contains vertices w) (sym e) within)
            (cases u h);
        apart = λ u h. ⊎_elim
            (λ (c : Contains old.queue.items u). flood.apart u c)
            (λ (e : u ≡ v). subst (λ (w : Vertex). IsKnown met w → ⊥) (sym e) apart)
            (cases u h);
      };
      grows = record {
        longer = rw push (omega (arith, length_more old.queue.items v));
        same = λ k l. ap (λ (vs : List Vertex). slice_get vs k) push ∙ get_left old.queue.items v k l;
        reached = λ u h. known_set v n old.reached new.reached u sets h;
      };
    };
    has = (n, sets.here);
  }
    where
      here : {u : Vertex} → Contains (old.queue.items ++ v ∷ []) u → Contains new.queue.items u
      here {u} h = subst (λ (vs : List Vertex). Contains vs u) (sym push) h

      cases : (u : Vertex) → Contains new.queue.items u → Contains old.queue.items u ⊎ (u ≡ v)
      cases u h = contains_cases old.queue.items v u (subst (λ (vs : List Vertex). Contains vs u) push h)

module _ (vertices : List Vertex) (HasEdge : Vertex → Edge → ℕ → Type 0) (met : List (Vertex × ℕ)) where
  only_one : (e f : Edge) → Contains (e ∷ []) f → f ≡ e
  only_one e f h = ⊎_elim (λ (same : f ≡ e). same) (λ (n : Contains [] f). absurd (omega (arith, n.1))) (contains_cons e [] f h)

  pub spreads_known : (v : Vertex) (e : Edge) (f : Flood) → IsFlood vertices met f → IsKnown f.reached e.to → Spreads vertices HasEdge met v (e ∷ []) f f
  spreads_known v e f flood known = record {
    grown = record { flood = flood; grows = grows_self f };
    has = λ g c h edge. subst (λ (x : Edge). IsKnown f.reached x.to) (sym (only_one e g h)) known;
  }

  pub spreads_barred : (v : Vertex) (e : Edge) (f : Flood) → IsFlood vertices met f → ((c : ℕ) → HasEdge v e c → ⊥) → Spreads vertices HasEdge met v (e ∷ []) f f
  spreads_barred v e f flood barred = record {
    grown = record { flood = flood; grows = grows_self f };
    has = λ g c h edge. absurd (barred c (subst (λ (x : Edge). HasEdge v x c) (only_one e g h) edge));
  }

  pub spreads_reached : (v : Vertex) (e : Edge) (old new : Flood) → Reaches vertices met e.to old new → Spreads vertices HasEdge met v (e ∷ []) old new
  spreads_reached v e old new r = record {
    grown = r.grown;
    has = λ g c h edge. subst (λ (x : Edge). IsKnown new.reached x.to) (sym (only_one e g h)) r.has;
  }

  pub spreads_none : (v : Vertex) (f : Flood) → IsFlood vertices met f → Spreads vertices HasEdge met v [] f f
  spreads_none v f flood = record {
    grown = record { flood = flood; grows = grows_self f };
    has = λ g c h edge. absurd (omega (arith, h.1));
  }

  pub spreads_more : (v : Vertex) (es : List Edge) (e : Edge) (f g h : Flood) → Spreads vertices HasEdge met v es f g → Spreads vertices HasEdge met v (e ∷ []) g h → Spreads vertices HasEdge met v (es ++ e ∷ []) f h
  spreads_more v es e f g h a b = record {
    grown = record { flood = b.grown.flood; grows = grows_through f g h a.grown.grows b.grown.grows };
    has = λ x c i edge. ⊎_elim
        (λ (old : Contains es x). b.grown.grows.reached x.to (a.has x c old edge))
        (λ (same : x ≡ e). b.has x c (subst (λ (y : Edge). Contains (e ∷ []) y) (sym same) (0, omega arith, refl)) edge)
        (contains_cases es e x i);
  }

  module _ (targets : List Stop) where
    -- one more vertex of the queue is done
    pub flood_more : (done : ℕ) (v : Vertex) (edges : List Edge) (old new : Flood) → IsFloodFrom vertices HasEdge met targets done old → slice_get old.queue.items done ≡ Some v → done < length old.queue.items → ((e : Edge) (c : ℕ) → HasEdge v e c → Contains edges e) → Spreads vertices HasEdge met v edges old new → IsFloodFrom vertices HasEdge met targets (done + 1) new
    flood_more done v edges old new from is l all s = record {
      flood = s.grown.flood;
      targets_in = λ t h. s.grown.grows.reached t.entry.vertex (from.targets_in t h);
      in_queue = omega (arith, l, s.grown.grows.longer);
      edges_in = λ k u e c lt at edge. ⊎_elim
          (λ (b : k < done). s.grown.grows.reached e.to (from.edges_in k u e c b (sym (s.grown.grows.same k (omega (arith, l, b))) ∙ at) edge))
          (λ (b : done ≤ k).
          let j : k ≡ done = omega arith in
          let same : u ≡ v = same_Some u v (sym at ∙ ap (slice_get new.queue.items) j ∙ s.grown.grows.same done l ∙ is) in
          let there : HasEdge v e c = subst (λ (w : Vertex). HasEdge w e c) same edge in
          s.has e c (all e c there) there)
          (cases_lt k done);
    }

    -- the flood has ended
    module _ (bound_of : Vertex → ℕ) (graph : IsGraph vertices HasEdge bound_of) (done : ℕ) (f : Flood) (from : IsFloodFrom vertices HasEdge met targets done f) (ended : length f.queue.items ≤ done) where
      closed : (v : Vertex) (e : Edge) (c : ℕ) → IsKnown f.reached v → HasEdge v e c → IsKnown f.reached e.to
      closed v e c known edge =
          let h : Contains f.queue.items v = from.flood.listed v known in
          from.edges_in h.0 v e c (omega (arith, h.1, ended)) (slice_get-get_or f.queue.items h.0 v h.1 ∙ ap Some h.2) edge

      -- what leads to what was reached was reached
      leads_here : (es : List Edge) (v : Vertex) (c : ℕ) → Contains vertices v → IsPath HasEdge v es c → IsKnown f.reached (end_of v es) → IsKnown f.reached v
      leads_here [] v c within path known = known
      leads_here (e ∷ es) v c within path known =
          let next : IsKnown f.reached e.to = leads_here es e.to path.1 (graph.leads v e path.0 within path.2) path.3 known in
          let b : (g : Edge) × (d : ℕ) × HasEdge e.to g d × (g.to ≡ v) = graph.back v e path.0 within path.2 in
          subst (λ (w : Vertex). IsKnown f.reached w) b.3 (closed e.to b.0 b.1 next b.2)

      pub no_route : (sources : List Stop) → AreStarts vertices sources → AreKnown met sources → HasNoRoute HasEdge sources targets
      no_route sources starts all w c r =
          let at : r.source.entry.vertex ≡ w.start.vertex = ap (λ e. e.vertex) (sym r.starts) in
          let within : Contains vertices w.start.vertex = subst (λ (v : Vertex). Contains vertices v) at (starts r.source r.is_source) in
          let last : r.target.entry.vertex ≡ end_of w.start.vertex w.edges = sym (r.arrives ∙ ap (λ e. e.vertex) r.finishes) in
          let known : IsKnown f.reached w.start.vertex = leads_here w.edges w.start.vertex r.between within r.path (subst (λ (v : Vertex). IsKnown f.reached v) last (from.targets_in r.target r.is_target)) in
          from.flood.apart w.start.vertex (from.flood.listed w.start.vertex known) (subst (λ (v : Vertex). IsKnown met v) at (all r.source r.is_source))

-- nothing is reached
pub flood_none : (vertices : List Vertex) (met : List (Vertex × ℕ)) (f : Flood) → f.reached ≡ [] → f.queue.items ≡ [] → IsFlood vertices met f
flood_none vertices met f r q = record {
  listed = λ v k. absurd (none_some (ap (λ (es : List (Vertex × ℕ)). number_of es v) (sym r) ∙ k.1));
  within = λ v h. absurd (none v h);
  apart = λ v h. absurd (none v h);
}
  where
    none : (v : Vertex) → Contains f.queue.items v → ⊥
    none v h = let n : Contains [] v = subst (λ (vs : List Vertex). Contains vs v) q h in omega (arith, n.1)

-- one more target is reached
pub known_more : (stops : List Stop) (s : Stop) (old new : Flood) → AreKnown old.reached stops → Grows old new → IsKnown new.reached s.entry.vertex → AreKnown new.reached (stops ++ s ∷ [])
known_more stops s old new are grows has t h = ⊎_elim
    (λ (c : Contains stops t). grows.reached t.entry.vertex (are t c))
    (λ (e : t ≡ s). subst (λ (x : Stop). IsKnown new.reached x.entry.vertex) (sym e) has)
    (contains_cases stops s t h)
