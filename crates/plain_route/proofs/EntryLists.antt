-- Lists of entries: those of pins and of wires are exactly those at which walks start or finish.
use Rattle.std.proofs.Common.{◌≡◌, ◌⊎◌, ⊎_elim, inl, inr, ℕ, zero, suc, ◌+◌, ◌<◌, ◌≤◌, List, [], ◌∷◌, ◌++◌, Bool, true, false, cond, length, map, get_or, drop, Some, option_map, slice_get, unwrap_or, All, Any, Contains, refl, sym, subst, ap, ◌∙◌, arith}
use Rattle.std.proofs.lemmas.List.{drop_more, append_assoc}
use Rattle.std.proofs.lemmas.List.Elements.{Contains-append_left, Contains-append_right, Contains-append_cases}
use Rattle.std.proofs.lemmas.Option.{same_Some}
use Rattle.rt_base.specs.declared.walk.Edge.{Edge}
use Rattle.rt_base.specs.declared.walk.Entry.{Entry}
use Rattle.rt_base.specs.declared.walk.EntryKind.TheVariants.{Wire as OnWire}
use Rattle.rt_base.specs.declared.walk.Vertex.{Vertex}
use Rattle.rt_base.specs.declared.walk.Walk.{Walk}
use Rattle.rt_base.proofs.Lists.{in_cons}
use Rattle.track_graph.specs.declared.design.Design.{Design}
use Rattle.track_graph.specs.declared.design.Pin.{Pin}
use Rattle.track_graph.specs.declared.history.NetState.{NetState}
use Rattle.track_graph.specs.Designs.{IsDesign}
use Rattle.track_graph.specs.Entries.{pins_of}
use Rattle.track_graph.specs.Levels.{TrackSystem, track_system_of, IsVertex}
use Rattle.track_graph.specs.NetWalks.{IsNetWalk, IsWalkOf}
use Rattle.track_graph.specs.Searches.{IsStart, IsFinish}
use Rattle.plain_route.specs.Ground.{IsGround}
use Rattle.track_graph.specs.Walks.{IsPath, vertices_of}
use Rattle.track_graph.proofs.EntryLemmas.{entry_vertex}
use Rattle.plain_route.specs.Stops.{on_wire, ends_of, entries_on, wire_entries, is_same, pin_entries, AreEntries}

none_in : {X : Type 0} (b : X) → Contains [] b → ⊥
none_in b h = omega (arith, h.1)

here : {X : Type 0} (a : X) (xs : List X) → Contains (a ∷ xs) a
here a xs = (zero, omega arith, refl)

there : {X : Type 0} (a : X) (xs : List X) (b : X) → Contains xs b → Contains (a ∷ xs) b
there a xs b (k, h, e) = (suc k, omega arith, e)

in_map : {X Y : Type 0} (f : X → Y) (xs : List X) (y : Y) → Contains (map f xs) y → (x : X) × Contains xs x × (y ≡ f x)
in_map f [] y h = absurd (none_in y h)
in_map f (x ∷ xs) y h = ⊎_elim
    (λ (e : y ≡ f x). (x, here x xs, e))
    (λ (r : Contains (map f xs) y). let t = in_map f xs y r in (t.0, there x xs t.0 t.1, t.2))
    (in_cons (f x) (map f xs) y h)

map_has : {X Y : Type 0} (f : X → Y) (xs : List X) (x : X) → Contains xs x → Contains (map f xs) (f x)
map_has f [] x h = absurd (none_in x h)
map_has f (a ∷ xs) x h = ⊎_elim
    (λ (e : x ≡ a). subst (λ (z : _). Contains (map f (a ∷ xs)) (f z)) (sym e) (here (f a) (map f xs)))
    (λ (r : Contains xs x). there (f a) (map f xs) (f x) (map_has f xs x r))
    (in_cons a xs x h)

-- an entry of a pin is joined as is wanted
abbrev pub IsWanted : Bool → List Bool → List Pin → Entry → Type 0
IsWanted wanted joined pins e = (pin : ℕ) × (slice_get joined pin ≡ Some wanted) × Contains (unwrap_or (option_map (λ (p : Pin). p.entries) (slice_get pins pin)) []) e

same_flags : (a b : Bool) → is_same a b ≡ true → a ≡ b
same_flags true b h = sym h
same_flags false true h = cc
same_flags false false h = refl

flags_same : (a : Bool) → is_same a a ≡ true
flags_same true = refl
flags_same false = refl

pub pin_entries-only : (wanted : Bool) (joined : List Bool) (pins : List Pin) (e : Entry) → Contains (pin_entries wanted joined pins) e → IsWanted wanted joined pins e
pin_entries-only wanted [] pins e h = absurd (none_in e h)
pin_entries-only wanted (b ∷ bs) [] e h = absurd (none_in e h)
pin_entries-only wanted (b ∷ bs) (p ∷ ps) e h = by_flag (is_same b wanted) refl h (pin_entries-only wanted bs ps e)
  where
    later : IsWanted wanted bs ps e → IsWanted wanted (b ∷ bs) (p ∷ ps) e
    later (k, at, c) = (suc k, at, c)

    by_flag : (s : Bool) → is_same b wanted ≡ s → Contains (cond s p.entries [] ++ pin_entries wanted bs ps) e → (Contains (pin_entries wanted bs ps) e → IsWanted wanted bs ps e) → IsWanted wanted (b ∷ bs) (p ∷ ps) e
    by_flag true is c rest = ⊎_elim
        (λ (own : Contains p.entries e). (zero, ap (λ (x : Bool). Some x) (same_flags b wanted is), own))
        (λ (r : Contains (pin_entries wanted bs ps) e). later (rest r))
        (Contains-append_cases p.entries (pin_entries wanted bs ps) e c)
    by_flag false is c rest = later (rest c)

pub pin_entries-has : (wanted : Bool) (joined : List Bool) (pins : List Pin) (e : Entry) → IsWanted wanted joined pins e → Contains (pin_entries wanted joined pins) e
pin_entries-has wanted [] pins e (k, at, c) = cc
pin_entries-has wanted (b ∷ bs) [] e (k, at, c) = absurd (none_in e c)
pin_entries-has wanted (b ∷ bs) (p ∷ ps) e (zero, at, c) =
    let same : b ≡ wanted = same_Some b wanted at in
    let test : is_same b wanted ≡ true = subst (λ (w : Bool). is_same b w ≡ true) same (flags_same b) in
    Contains-append_left (cond (is_same b wanted) p.entries []) (pin_entries wanted bs ps) e (subst (λ (s : Bool). Contains (cond s p.entries []) e) (sym test) c)
pin_entries-has wanted (b ∷ bs) (p ∷ ps) e (suc k, at, c) = Contains-append_right (cond (is_same b wanted) p.entries []) (pin_entries wanted bs ps) e (pin_entries-has wanted bs ps e (k, at, c))

-- what is written before and what is still to come make up the whole
pub pin_entries-more : (wanted : Bool) (joined : List Bool) (pins : List Pin) (i : ℕ) (b : Bool) (p : Pin) (done whole : List Entry) → i < length joined → i < length pins → get_or joined i b ≡ b → get_or pins i p ≡ p → done ++ pin_entries wanted (drop i joined) (drop i pins) ≡ whole → (done ++ cond (is_same b wanted) p.entries []) ++ pin_entries wanted (drop (i + 1) joined) (drop (i + 1) pins) ≡ whole
pin_entries-more wanted joined pins i b p done whole lj lp bj bp h =
    let sj : drop i joined ≡ b ∷ drop (i + 1) joined = drop_more joined i b lj ∙ ap (λ x. x ∷ drop (i + 1) joined) bj in
    let sp : drop i pins ≡ p ∷ drop (i + 1) pins = drop_more pins i p lp ∙ ap (λ x. x ∷ drop (i + 1) pins) bp in
    append_assoc done (cond (is_same b wanted) p.entries []) (pin_entries wanted (drop (i + 1) joined) (drop (i + 1) pins))
    ∙ subst (λ (ps : List Pin). done ++ pin_entries wanted (b ∷ drop (i + 1) joined) ps ≡ whole) sp (subst (λ (bs : List Bool). done ++ pin_entries wanted bs (drop i pins) ≡ whole) sj h)

pub entries_on-path : (v : Vertex) (es : List Edge) → map on_wire (vertices_of v es) ≡ on_wire v ∷ ends_of es
entries_on-path v [] = refl
entries_on-path v (e ∷ es) = ap (λ xs. on_wire v ∷ xs) (entries_on-path e.to es)

pub ends_of-more : (es : List Edge) (i : ℕ) (e : Edge) (done whole : List Entry) → i < length es → get_or es i e ≡ e → done ++ ends_of (drop i es) ≡ whole → (done ++ on_wire e.to ∷ []) ++ ends_of (drop (i + 1) es) ≡ whole
ends_of-more es i e done whole lt at h =
    let s : drop i es ≡ e ∷ drop (i + 1) es = drop_more es i e lt ∙ ap (λ x. x ∷ drop (i + 1) es) at in
    append_assoc done (on_wire e.to ∷ []) (ends_of (drop (i + 1) es)) ∙ subst (λ (xs : List Edge). done ++ ends_of xs ≡ whole) s h

pub wire_entries-more : (ws : List Walk) (i : ℕ) (w : Walk) (done whole : List Entry) → i < length ws → get_or ws i w ≡ w → done ++ wire_entries (drop i ws) ≡ whole → (done ++ entries_on w) ++ wire_entries (drop (i + 1) ws) ≡ whole
wire_entries-more ws i w done whole lt at h =
    let s : drop i ws ≡ w ∷ drop (i + 1) ws = drop_more ws i w lt ∙ ap (λ x. x ∷ drop (i + 1) ws) at in
    append_assoc done (entries_on w) (wire_entries (drop (i + 1) ws)) ∙ subst (λ (xs : List Walk). done ++ wire_entries xs ≡ whole) s h

-- an entry on a wire, at a vertex of one of these walks
abbrev pub IsOnWire : List Walk → Entry → Type 0
IsOnWire ws e = (e.kind ≡ OnWire) × Any (λ (w : Walk). Contains (vertices_of w.start.vertex w.edges) e.vertex) ws

pub wire_entries-only : (ws : List Walk) (e : Entry) → Contains (wire_entries ws) e → IsOnWire ws e
wire_entries-only [] e h = absurd (none_in e h)
wire_entries-only (w ∷ ws) e h = ⊎_elim
    (λ (own : Contains (entries_on w) e).
    let v = in_map on_wire (vertices_of w.start.vertex w.edges) e own in
    (ap (λ (x : Entry). x.kind) v.2, (zero, w, omega arith, refl, subst (Contains (vertices_of w.start.vertex w.edges)) (sym (ap (λ (x : Entry). x.vertex) v.2)) v.1)))
    (λ (r : Contains (wire_entries ws) e). later (wire_entries-only ws e r))
    (Contains-append_cases (entries_on w) (wire_entries ws) e h)
  where
    later : IsOnWire ws e → IsOnWire (w ∷ ws) e
    later (kind, (k, x, lt, is, c)) = (kind, (suc k, x, omega arith, is, c))

entry_is : (e : Entry) → e.kind ≡ OnWire → on_wire e.vertex ≡ e
entry_is e k = let mk : (x : Entry) → Entry = λ x. x in rw (sym k) refl

pub wire_entries-has : (ws : List Walk) (e : Entry) → IsOnWire ws e → Contains (wire_entries ws) e
wire_entries-has [] e (kind, (k, w, lt, is, c)) = absurd (omega arith)
wire_entries-has (x ∷ ws) e (kind, (zero, w, lt, is, c)) =
    Contains-append_left (entries_on x) (wire_entries ws) e (subst (Contains (entries_on x)) (entry_is e kind) (map_has on_wire (vertices_of x.start.vertex x.edges) e.vertex (subst (λ (y : Walk). Contains (vertices_of y.start.vertex y.edges) e.vertex) (sym is) c)))
wire_entries-has (x ∷ ws) e (kind, (suc k, w, lt, is, c)) = Contains-append_right (entries_on x) (wire_entries ws) e (wire_entries-has ws e (kind, (k, w, omega arith, is, c)))

-- the vertices of a path are vertices
path_vertices : (g : TrackSystem) (v u : Vertex) (es : List Edge) → IsVertex g v → IsPath g v es → Contains (vertices_of v es) u → IsVertex g u
path_vertices g v u [] is p c = ⊎_elim (λ (e : u ≡ v). subst (IsVertex g) (sym e) is) (λ (n : Contains [] u). absurd (none_in u n)) (in_cons v [] u c)
path_vertices g v u (e ∷ es) is p c = ⊎_elim
    (λ (s : u ≡ v). subst (IsVertex g) (sym s) is)
    (λ (r : Contains (vertices_of e.to es) u). path_vertices g e.to u es p.0.end p.1 r)
    (in_cons v (vertices_of e.to es) u c)

wire_vertex : (d : Design) (n : ℕ) (ws : List Walk) (e : Entry) → IsDesign d → All (IsWalkOf d n) ws → IsOnWire ws e → IsVertex (track_system_of d) e.vertex
wire_vertex d n ws e ok all (kind, (k, w, lt, is, c)) =
    let walk : IsNetWalk d n w = (subst (IsWalkOf d n) is (all k w lt)).net_walk in
    path_vertices (track_system_of d) w.start.vertex e.vertex w.edges (entry_vertex d n w.start ok walk.start) walk.path c

abbrev pinned : Design → NetState → ℕ → List Entry
pinned d own n = pin_entries true own.joined (pins_of d n)

abbrev wired : NetState → List Entry
wired own = wire_entries own.walks

pub starts_are : (d : Design) (own : NetState) (n : ℕ) (entries : List Entry) → IsGround d n own → entries ≡ pin_entries true own.joined (pins_of d n) ++ wire_entries own.walks → AreEntries d n (IsStart d n own) entries
starts_are d own n entries ground is = record {
  only = λ e h. ⊎_elim (λ (p : Contains (pinned d own n) e). inl (pin_entries-only true own.joined (pins_of d n) e p)) (λ (w : Contains (wired own) e). inr (wire_entries-only own.walks e w)) (cases e h);
  has = λ e h. subst (λ es. Contains es e) (sym is) (⊎_elim
      (λ (p : IsWanted true own.joined (pins_of d n) e). Contains-append_left (pinned d own n) (wired own) e (pin_entries-has true own.joined (pins_of d n) e p))
      (λ (w : IsOnWire own.walks e). Contains-append_right (pinned d own n) (wired own) e (wire_entries-has own.walks e w))
      h);
  fit = λ e h. ⊎_elim
      (λ (p : Contains (pinned d own n) e). let w = pin_entries-only true own.joined (pins_of d n) e p in inl (w.0, w.2))
      (λ (w : Contains (wired own) e). let o = wire_entries-only own.walks e w in inr (o.0, wire_vertex d n own.walks e ground.design ground.of_net.walks o))
      (cases e h);
}
  where
    cases : (e : Entry) → Contains entries e → Contains (pinned d own n) e ⊎ Contains (wired own) e
    cases e h = Contains-append_cases (pinned d own n) (wired own) e (subst (λ es. Contains es e) is h)

pub finishes_are : (d : Design) (own : NetState) (n : ℕ) (entries : List Entry) → entries ≡ pin_entries false own.joined (pins_of d n) → AreEntries d n (IsFinish d n own) entries
finishes_are d own n entries is = record {
  only = λ e h. pin_entries-only false own.joined (pins_of d n) e (subst (λ es. Contains es e) is h);
  has = λ e h. subst (λ es. Contains es e) (sym is) (pin_entries-has false own.joined (pins_of d n) e h);
  fit = λ e h. let w = pin_entries-only false own.joined (pins_of d n) e (subst (λ es. Contains es e) is h) in inl (w.0, w.2);
}

-- nothing is left past the end
pub drop_past : {X : Type 0} (i : ℕ) (xs : List X) → length xs ≤ i → drop i xs ≡ []
drop_past zero [] h = refl
drop_past zero (x ∷ xs) h = absurd (omega arith)
drop_past (suc i) [] h = refl
drop_past (suc i) (x ∷ xs) h = drop_past i xs (omega arith)
