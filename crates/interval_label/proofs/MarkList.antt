use Rattle.std.proofs.Common.{◌≡◌, ◌⊎◌, inl, inr, ℕ, zero, suc, ◌<◌, ◌≤◌, ℤ, ◌≤ℤ◌, sym, refl, ap, ◌∙◌, subst, List, [], ◌∷◌, ◌++◌, length, Some, slice_get, slice_index_or, Contains, arith, ⊎_elim}
use Rattle.std.proofs.lemmas.Option.{same_Some, slice_get_within, slice_get_read, slice_get-get_or, get_or_from_slice_get}
use Rattle.std.proofs.lemmas.List.Elements.{Contains-append_left, Contains-append_right, Contains-append_cases}
use Rattle.label_arena.specs.declared.place.Place.{Place}
use Rattle.label_arena.specs.declared.place.IntervalNo.{IntervalNo}
use Rattle.label_arena.specs.declared.place.Bridge.{Bridge}
use Rattle.label_arena.specs.declared.place.Run.{Run}
use Rattle.label_arena.specs.Lists.{Graph}
use Rattle.label_arena.specs.Plain.{IsInside, IsRunWay, IsJoined, IsRun}
use Rattle.label_arena.specs.Marks.{IsMark, IsMarkBy, IsStop, IsBridgeEnd, IsRunEnd}
use Rattle.interval_label.specs.Task.{Stop}
use Rattle.interval_label.specs.Known.{Rows, IsListed, IsMarking, Marks, IsAcross, IsJoinedTo, RowGains, AreEmpty}
use Rattle.interval_label.specs.State.{most_places}
use Rattle.interval_label.specs.declared.marking.Mark.{Mark}
use Rattle.interval_label.specs.declared.marking.Marking.{Marking}
use Rattle.interval_label.proofs.Lists.{get_kept, last_cases}
use Rattle.interval_label.proofs.Members.{none_in, contains_first, contains_cons}
use Rattle.interval_label.proofs.RowsOf.{gained_has, gained_keeps, gained_only}
use Rattle.interval_label.proofs.Sliding.{at}
use Rattle.interval_label.proofs.Standing.{mark_along}
use Rattle.interval_label.proofs.Counting.{AreOnce, few_places}
use Rattle.interval_label.proofs.Costs.{interval_same}
use Rattle.interval_label.proofs.Finding.{same_place}

pub at_index : {X : Type 0} (xs : List X) (x : X) (h : Contains xs x) → slice_get xs h.0 ≡ Some x
at_index xs x h = slice_get_read xs (length xs) h.0 x refl h.1 (sym h.2)

pub contains_index : {X : Type 0} (xs : List X) (k : ℕ) (x : X) → slice_get xs k ≡ Some x → Contains xs x
contains_index xs k x h = (k, slice_get_within xs k x h, get_or_from_slice_get xs k x x h)

-- what stands in the list stands in a longer one
pub contains_longer : (old new : List Place) → ((k : ℕ) (v : Place) → slice_get old k ≡ Some v → slice_get new k ≡ Some v) → (v : Place) → Contains old v → Contains new v
contains_longer old new keeps v h = contains_index new h.0 v (keeps h.0 v (at_index old v h))

pub marks_kept : (g : Graph) (P : Place → Type 0) (old new : Marking) → Marks g P old new → (v : Place) → Contains old.list.items v → Contains new.list.items v
marks_kept g P old new m v h = contains_longer old.list.items new.list.items m.keeps v h

pub marks_same : (g : Graph) (P : Place → Type 0) (old : Marking) → IsMarking g old.list.items old.rows → Marks g P old old
marks_same g P old m = record { marking = m; keeps = λ k v h. h; only = λ v h. inl h }

pub marks_more : (g : Graph) (P Q R : Place → Type 0) (old mid new : Marking) → ((v : Place) → P v → R v) → ((v : Place) → Q v → R v) → Marks g P old mid → Marks g Q mid new → Marks g R old new
marks_more g P Q R old mid new pr qr a b = record {
  marking = b.marking;
  keeps = λ k v h. b.keeps k v (a.keeps k v h);
  only = λ v h. ⊎_elim (λ (o : Contains mid.list.items v). ⊎_elim (λ (c : Contains old.list.items v). inl c) (λ (p : P v). inr (pr v p)) (a.only v o)) (λ (q : Q v). inr (qr v q)) (b.only v h);
}

pub marking_new : (g : Graph) (rows : Rows) → AreEmpty rows (length g.intervals) → IsMarking g [] rows
marking_new g rows h = record {
  wide = h.wide;
  inside = λ k v e. absurd (nothing k v e);
  apart = λ i j v e f. absurd (nothing i v e);
  rows_have = λ v c. absurd (none_in v c);
  list_has = λ v c. absurd (none_in (record { coord = v.coord }) (subst (λ (r : List Mark). Contains r (record { coord = v.coord })) (h.empty v.interval.0) c));
}
  where
    nothing : (k : ℕ) (v : Place) → slice_get [] k ≡ Some v → ⊥
    nothing k v e = let l : k < 0 = slice_get_within [] k v e in omega (arith, l)

-- one place more
pub marking_more : (g : Graph) (list : List Place) (rows next : Rows) (p : Place) → IsMarking g list rows → IsInside g p → (IsListed rows p → ⊥) → RowGains rows next p.interval.0 (record { coord = p.coord }) → IsMarking g (list ++ p ∷ []) next
marking_more g list rows next p m inside fresh gains = record {
  wide = gains.wide ∙ m.wide;
  inside = λ k v h. ⊎_elim
      (λ (o : slice_get list k ≡ Some v). m.inside k v o)
      (λ (o : (k ≡ length list) × (p ≡ v)). subst (λ (u : Place). IsInside g u) o.1 inside)
      (last_cases list p v k h);
  apart = λ i j v hi hj. ⊎_elim
      (λ (o : slice_get list i ≡ Some v). ⊎_elim
      (λ (q : slice_get list j ≡ Some v). m.apart i j v o q)
      (λ (q : (j ≡ length list) × (p ≡ v)). absurd (new i v o q.1))
      (last_cases list p v j hj))
      (λ (o : (i ≡ length list) × (p ≡ v)). ⊎_elim
      (λ (q : slice_get list j ≡ Some v). absurd (new j v q o.1))
      (λ (q : (j ≡ length list) × (p ≡ v)). o.0 ∙ sym q.0)
      (last_cases list p v j hj))
      (last_cases list p v i hi);
  rows_have = λ v h. ⊎_elim
      (λ (o : Contains list v). gained_keeps rows next p.interval.0 (record { coord = p.coord }) gains v.interval.0 (record { coord = v.coord }) (m.rows_have v o))
      (λ (o : Contains (p ∷ []) v). ⊎_elim
      (λ (e : v ≡ p). subst (λ (u : Place). IsListed next u) (sym e) (gained_has rows next p.interval.0 (record { coord = p.coord }) gains))
      (λ (z : Contains [] v). absurd (none_in v z))
      (contains_cons p [] v o))
      (Contains-append_cases list (p ∷ []) v h);
  list_has = λ v h. ⊎_elim
      (λ (o : IsListed rows v). Contains-append_left list (p ∷ []) v (m.list_has v o))
      (λ (o : (v.interval.0 ≡ p.interval.0) × (record { coord = v.coord } ≡ record { coord = p.coord })).
      let same : v ≡ p = same_place v p o.0 (ap (λ (m : Mark). m.coord) o.1) in
      subst (λ (u : Place). Contains (list ++ p ∷ []) u) (sym same) (Contains-append_right list (p ∷ []) p (contains_first p [])))
      (gained_only rows next p.interval.0 (record { coord = p.coord }) gains v.interval.0 (record { coord = v.coord }) h);
}
  where
    new : (k : ℕ) (v : Place) → slice_get list k ≡ Some v → p ≡ v → ⊥
    new k v h e = fresh (subst (λ (u : Place). IsListed rows u) (sym e) (m.rows_have v (contains_index list k v h)))

pub marks_added : (g : Graph) (old new : Marking) (p : Place) → IsMarking g old.list.items old.rows → IsInside g p → (IsListed old.rows p → ⊥) → new.list.items ≡ old.list.items ++ p ∷ [] → RowGains old.rows new.rows p.interval.0 (record { coord = p.coord }) → Marks g (λ v. v ≡ p) old new
marks_added g old new p m inside fresh e gains = record {
  marking = subst (λ (l : List Place). IsMarking g l new.rows) (sym e) (marking_more g old.list.items old.rows new.rows p m inside fresh gains);
  keeps = λ k v h. ap (λ (l : List Place). slice_get l k) e ∙ get_kept old.list.items p v k h;
  only = λ v h. ⊎_elim
      (λ (o : Contains old.list.items v). inl o)
      (λ (o : Contains (p ∷ []) v). ⊎_elim (λ (s : v ≡ p). inr s) (λ (z : Contains [] v). absurd (none_in v z)) (contains_cons p [] v o))
      (Contains-append_cases old.list.items (p ∷ []) v (subst (λ (l : List Place). Contains l v) e h));
}

pub has_added : (old new : List Place) (p : Place) → new ≡ old ++ p ∷ [] → Contains new p
has_added old new p e = subst (λ (l : List Place). Contains l p) (sym e) (Contains-append_right old (p ∷ []) p (contains_first p []))

-- the ends of a bridge
pub bridge_end : (g : Graph) (k : ℕ) (b : Bridge) → slice_get g.bridges k ≡ Some b → IsBridgeEnd g b.a × IsBridgeEnd g b.b
bridge_end g k b h = ((k, b.b, b.cost, record { bridge = b; at = h; ends = inl (refl, refl); cost = refl }), (k, b.a, b.cost, record { bridge = b; at = h; ends = inr (refl, refl); cost = refl }))

-- a run's place, and the one across
pub across_way : (g : Graph) (k : ℕ) (z : ℤ) (v : Place) (h : IsAcross g k z v) → (w : Place) × IsRunWay g k v w h.run.cost
across_way g k z v h =
    let lo : h.run.span.lo ≤ℤ v.coord = subst (λ (x : ℤ). h.run.span.lo ≤ℤ x) (sym h.coord) h.low in
    let hi : v.coord ≤ℤ h.run.span.hi = subst (λ (x : ℤ). x ≤ℤ h.run.span.hi) (sym h.coord) h.high in
    ⊎_elim
    (λ (e : v.interval ≡ h.run.a). (at h.run.b v.coord, record { run = h.run; at = h.at; ends = inl (e, refl); straight = refl; low = lo; high = hi; cost = refl }))
    (λ (e : v.interval ≡ h.run.b). (at h.run.a v.coord, record { run = h.run; at = h.at; ends = inr (e, refl); straight = refl; low = lo; high = hi; cost = refl }))
    h.on

pub across_end : (g : Graph) (k : ℕ) (run : Run) (z : ℤ) (v : Place) → slice_get g.runs k ≡ Some run → (z ≡ run.span.lo) ⊎ (z ≡ run.span.hi) → IsAcross g k z v → IsRunEnd g v
across_end g k run z v is side h =
    let way : (w : Place) × (c : ℕ) × (y : IsRunWay g k v w c) × ((v.coord ≡ y.run.span.lo) ⊎ (v.coord ≡ y.run.span.hi)) = there in
    (k, way.0, way.1, way.2, way.3)
  where
    same : h.run ≡ run
    same = same_Some h.run run (sym h.at ∙ is)

    own : (v.coord ≡ h.run.span.lo) ⊎ (v.coord ≡ h.run.span.hi)
    own = ⊎_elim
        (λ (e : z ≡ run.span.lo). inl (h.coord ∙ e ∙ ap (λ (r : Run). r.span.lo) (sym same)))
        (λ (e : z ≡ run.span.hi). inr (h.coord ∙ e ∙ ap (λ (r : Run). r.span.hi) (sym same)))
        side

    lo : h.run.span.lo ≤ℤ v.coord
    lo = subst (λ (x : ℤ). h.run.span.lo ≤ℤ x) (sym h.coord) h.low

    hi : v.coord ≤ℤ h.run.span.hi
    hi = subst (λ (x : ℤ). x ≤ℤ h.run.span.hi) (sym h.coord) h.high

    there : (w : Place) × (c : ℕ) × (y : IsRunWay g k v w c) × ((v.coord ≡ y.run.span.lo) ⊎ (v.coord ≡ y.run.span.hi))
    there = ⊎_elim
        (λ (e : v.interval ≡ h.run.a). (at h.run.b v.coord, h.run.cost, record { run = h.run; at = h.at; ends = inl (e, refl); straight = refl; low = lo; high = hi; cost = refl }, own))
        (λ (e : v.interval ≡ h.run.b). (at h.run.a v.coord, h.run.cost, record { run = h.run; at = h.at; ends = inr (e, refl); straight = refl; low = lo; high = hi; cost = refl }, own))
        h.on

-- a way over a run leads across it
pub way_across : (g : Graph) (k : ℕ) (u v : Place) (c : ℕ) (y : IsRunWay g k u v c) → IsAcross g k u.coord u × IsAcross g k u.coord v
way_across g k u v c y = (
  record { run = y.run; at = y.at; low = y.low; high = y.high; on = ⊎_elim (λ (d : (u.interval ≡ y.run.a) × (v.interval ≡ y.run.b)). inl d.0) (λ (d : (u.interval ≡ y.run.b) × (v.interval ≡ y.run.a)). inr d.0) y.ends; coord = refl },
  record { run = y.run; at = y.at; low = y.low; high = y.high; on = ⊎_elim (λ (d : (u.interval ≡ y.run.a) × (v.interval ≡ y.run.b)). inr d.1) (λ (d : (u.interval ≡ y.run.b) × (v.interval ≡ y.run.a)). inl d.1) y.ends; coord = sym y.straight },
)

pub way_joined : (g : Graph) (k : ℕ) (u v : Place) (c : ℕ) → IsRunWay g k u v c → IsJoinedTo g u v
way_joined g k u v c y = (k, record { run = y.run; at = y.at; touches = ⊎_elim (λ (d : (u.interval ≡ y.run.a) × (v.interval ≡ y.run.b)). inl (ap (λ (n : IntervalNo). n.0) (sym d.0))) (λ (d : (u.interval ≡ y.run.b) × (v.interval ≡ y.run.a)). inr (ap (λ (n : IntervalNo). n.0) (sym d.0))) y.ends }, (way_across g k u v c y).1)

-- what a run joins to a mark is a mark
pub joined_mark : (g : Graph) (sources targets : List Stop) (u v : Place) → IsMark g sources targets u → IsJoinedTo g u v → IsMark g sources targets v
joined_mark g sources targets u v m (k, own, across) =
    let same : own.run ≡ across.run = same_Some own.run across.run (sym own.at ∙ across.at) in
    let on_u : (u.interval.0 ≡ across.run.a.0) ⊎ (u.interval.0 ≡ across.run.b.0) = ⊎_elim
    (λ (e : own.run.a.0 ≡ u.interval.0). inl (sym e ∙ ap (λ (r : Run). r.a.0) same))
    (λ (e : own.run.b.0 ≡ u.interval.0). inr (sym e ∙ ap (λ (r : Run). r.b.0) same))
    own.touches in
    ⊎_elim
    (λ (a : u.interval.0 ≡ across.run.a.0). ⊎_elim
    (λ (c : v.interval ≡ across.run.a). here (a ∙ sym (ap (λ (n : IntervalNo). n.0) c)))
    (λ (c : v.interval ≡ across.run.b). mark_along g sources targets k u v across.run.cost (record { run = across.run; at = across.at; ends = inl (no_of u.interval across.run.a a, c); straight = sym across.coord; low = across.low; high = across.high; cost = refl }) m)
    across.on)
    (λ (b : u.interval.0 ≡ across.run.b.0). ⊎_elim
    (λ (c : v.interval ≡ across.run.a). mark_along g sources targets k u v across.run.cost (record { run = across.run; at = across.at; ends = inr (no_of u.interval across.run.b b, c); straight = sym across.coord; low = across.low; high = across.high; cost = refl }) m)
    (λ (c : v.interval ≡ across.run.b). here (b ∙ sym (ap (λ (n : IntervalNo). n.0) c)))
    across.on)
    on_u
  where
    no_of : (m n : IntervalNo) → m.0 ≡ n.0 → m ≡ n
    no_of m n e = interval_same m n e

    here : u.interval.0 ≡ v.interval.0 → IsMark g sources targets v
    here e = subst (λ (p : Place). IsMark g sources targets p) (same_place u v e (sym across.coord)) m

-- a list that has what stands at the beginning and what runs join has all marks
pub all_marks : (g : Graph) (sources targets : List Stop) (list : List Place) → ((v : Place) → IsMarkBy g sources targets 0 v → Contains list v) → ((u v : Place) → Contains list u → IsJoinedTo g u v → Contains list v) → (n : ℕ) (v : Place) → IsMarkBy g sources targets n v → Contains list v
all_marks g sources targets list first closed zero v m = first v m
all_marks g sources targets list first closed (suc n) v (inl m) = all_marks g sources targets list first closed n v m
all_marks g sources targets list first closed (suc n) v (inr y) = closed y.1 v (all_marks g sources targets list first closed n y.1 y.4) (way_joined g y.0 y.1 v y.2 y.3)

pub first_marks : (g : Graph) (sources targets : List Stop) (list : List Place) → ((v : Place) → IsStop sources v → Contains list v) → ((v : Place) → IsStop targets v → Contains list v) → ((v : Place) → IsBridgeEnd g v → Contains list v) → ((v : Place) → IsRunEnd g v → Contains list v) → (v : Place) → IsMarkBy g sources targets 0 v → Contains list v
first_marks g sources targets list a b c d v m = elim m [
  | inl s ↦ a v s
  | inr t ↦ elim t [ inl s ↦ b v s | inr r ↦ elim r [ inl e ↦ c v e | inr e ↦ d v e ] ]
]

-- no more are listed than there are places
pub few_marks : (g : Graph) (list : List Place) (rows : Rows) → IsMarking g list rows → length list ≤ most_places g
few_marks g list rows m =
    let once : AreOnce g list = record { inside = m.inside; apart = λ i j p q hi hj e. m.apart i j p hi (hj ∙ ap Some (sym e)) } in
    few_places g list once

pub run_inside : (g : Graph) (k : ℕ) (run : Run) (z : ℤ) → IsJoined g → slice_get g.runs k ≡ Some run → run.span.lo ≤ℤ z → z ≤ℤ run.span.hi → (v : Place) → v.coord ≡ z → ((v.interval ≡ run.a) ⊎ (v.interval ≡ run.b)) → IsInside g v
run_inside g k run z joined is l h v e on =
    let i : IsInside g (at run.a z) × IsInside g (at run.b z) = (joined.runs k run is).holds z l h in
    ⊎_elim
    (λ (d : v.interval ≡ run.a). subst (λ (p : Place). IsInside g p) (same_place (at run.a z) v (ap (λ (n : IntervalNo). n.0) (sym d)) (sym e)) i.0)
    (λ (d : v.interval ≡ run.b). subst (λ (p : Place). IsInside g p) (same_place (at run.b z) v (ap (λ (n : IntervalNo). n.0) (sym d)) (sym e)) i.1)
    on

pub run_numbers : (g : Graph) (k : ℕ) (run : Run) → IsJoined g → slice_get g.runs k ≡ Some run → (run.a.0 < length g.intervals) × (run.b.0 < length g.intervals)
run_numbers g k run joined is = let r : IsRun g.intervals run = joined.runs k run is in (slice_get_within g.intervals run.a.0 r.a r.a_at, slice_get_within g.intervals run.b.0 r.b r.b_at)

-- what stands at a place of the longer list stood there before
pub before : (old new : List Place) (k : ℕ) (v : Place) → ((k : ℕ) (v : Place) → slice_get old k ≡ Some v → slice_get new k ≡ Some v) → k < length old → slice_get new k ≡ Some v → slice_get old k ≡ Some v
before old new k v keeps l h =
    let here : slice_get old k ≡ Some (slice_index_or old k v) = slice_get-get_or old k v l in
    here ∙ ap Some (same_Some (slice_index_or old k v) v (sym (keeps k (slice_index_or old k v) here) ∙ h))
