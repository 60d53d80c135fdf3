-- A view after a change of one net.
use Rattle.std.proofs.Common.{◌≡◌, ◌≢◌, ◌∙◌, ℕ, ◌+◌, ◌<◌, ◌≤◌, List, [], ◌∷◌, ◌++◌, Bool, true, false, cond, refl, sym, ap, subst, length, get_or, filter, Contains, All, arith, inl, inr, nat_eq, Option, Some, None, unwrap_or, Any, is_some, flat_map, Result, Ok, Err, OnOk}
use Rattle.std.specs.List.{sum_by, AllZip}
use Rattle.std.proofs.lemmas.Bool.{cases_lt, eqb-true}
use Rattle.std.proofs.lemmas.Bool.Decides.{eqb_tells}
use Rattle.std.proofs.lemmas.List.Sums.{get_or-le-sum_by, sum_by-append, sum_by-le-sum_by}
use Rattle.std.proofs.lemmas.List.{append-nil, get_or_default}
use Rattle.std.proofs.lemmas.Grind.{flat_map-append}
use Rattle.std.proofs.lemmas.List.Elements.{AllZip-get_or, filter-append}
use Rattle.std.proofs.lemmas.Slice.Zip.{AllZip-long}
use Rattle.rt_base.specs.declared.tech.Owner.{Owner}
use Rattle.rt_base.specs.declared.tech.Owner.TheVariants.{Net as OfNet, Nobody}
use Rattle.rt_base.specs.declared.tech.Shape.{Shape}
use Rattle.plain_route.proofs.CountLemmas.{IsOf, walks_of}
use Rattle.search.specs.Tables.{entry_of}
use Rattle.shape_grid.specs.Tiling.{IsUpright}
use Rattle.search.specs.Views.{is_on, state_shapes, HasNet, rips_in, StandsFor, IsPieceOf}
use Rattle.search.specs.declared.piece.Piece.{Piece}
use Rattle.search.specs.declared.view.View.{View}
use Rattle.search.specs.Changes.{HasGained, HasSame}
use Rattle.search.proofs.Changed.{zip-map, zip-same, zip-then}
use Rattle.search.proofs.Masks.{masked, sum-filter, failing, none-failing, all-pass}
use Rattle.search.proofs.OnTiles.{is_upright, upright-passes, passes-upright}
use Rattle.search.proofs.StateSums.{net-sums, state-sums}
use Rattle.standing_shapes.proofs.SameShape.{count_of, count_of-same, counted-contains}
use Rattle.track_graph.specs.Conditions.{IsStateOf}
use Rattle.track_graph.specs.States.{emptied_net, join_pin, net_shapes, net_state, with_net}
use Rattle.track_graph.specs.Walks.{walk_shapes_of}
use Rattle.rt_base.specs.declared.walk.Walk.{Walk}
use Rattle.standing_shapes.specs.Standing.{AreAmong}
use Rattle.track_graph.specs.declared.design.Design.{Design}
use Rattle.track_graph.specs.declared.history.NetState.{NetState}
use Rattle.track_graph.specs.declared.history.State.{State}
use Rattle.track_graph.proofs.StateLemmas.{net_state-other, net_state-same}

-- of net n the shapes that stood leave the tile, and those that stand now come
pub record HasTurned (d : Design) (n : ℕ) (had has : NetState) (old new : Piece) : Type 0 where
  pub same : new.no ≡ old.no
  pub turned : (measure : Shape → ℕ) → sum_by measure new.tile + sum_by measure (filter (is_on d.grid old.no) (net_shapes d n had)) ≡ sum_by measure old.tile + sum_by measure (filter (is_on d.grid old.no) (net_shapes d n has))

-- the view has of net n what stands now
pub record IsTurned (d : Design) (n : ℕ) (had has : NetState) (old new : View) : Type 0 where
  pub pieces : AllZip (HasTurned d n had has) old.pieces new.pieces
  pub nets : (m : ℕ) → entry_of new.nets m ≡ cond (nat_eq n m) (Some has) (entry_of old.nets m)
  pub rips : (m : ℕ) → entry_of new.rips m ≡ cond (nat_eq n m) (Some has.rips) (entry_of old.rips m)

-- a walk more
abbrev pub with_one : NetState → Walk → NetState
with_one own w = record { walks = own.walks ++ w ∷ []; joined = join_pin w.finish.kind own.joined; rips = own.rips; stuck = own.stuck }

longer-shapes : (d : Design) (n : ℕ) (own : NetState) (w : Walk) → net_shapes d n (with_one own w) ≡ net_shapes d n own ++ walk_shapes_of d n w
longer-shapes d n own w = flat_map-append (walk_shapes_of d n) own.walks (w ∷ []) ∙ ap (λ (ss : List Shape). net_shapes d n own ++ ss) (append-nil (walk_shapes_of d n w))

some_same : (x y : NetState) → Some x ≡ Some y → x ≡ y
some_same x y e = ap (λ (o : Option NetState). unwrap_or o x) e

contains-counted : (b : Shape) (xs : List Shape) → Contains xs b → 1 ≤ sum_by (count_of b) xs
contains-counted b xs c =
    let there : count_of b (get_or xs c.0 b) ≡ 1 = ap (count_of b) c.2 ∙ count_of-same b in
    let most : count_of b (get_or xs c.0 b) ≤ sum_by (count_of b) xs = get_or-le-sum_by (count_of b) xs c.0 b c.1 in
    omega (arith, there, most)

part-counts : (p : Shape → Bool) (measure : Shape → ℕ) (xs : List Shape) → sum_by measure (filter p xs) ≤ sum_by measure xs
part-counts p measure xs =
    let parted : sum_by measure (filter p xs) ≡ sum_by (masked p measure) xs = sum-filter p measure xs in
    let most : sum_by (masked p measure) xs ≤ sum_by measure xs = sum_by-le-sum_by (masked p measure) measure xs (λ x. by_test x (p x)) in
    omega (arith, parted, most)
  where
    by_test : (x : Shape) (b : Bool) → cond b (measure x) 0 ≤ measure x
    by_test x true = omega arith
    by_test x false = omega arith

abbrev owner_no : Owner → ℕ
owner_no (OfNet n) = n
owner_no Nobody = 0

-- a shape of another net isn't among those of net n
foreign-uncounted : (d : Design) (n : ℕ) (net : NetState) (b : Shape) (m : ℕ) → b.owner ≡ OfNet m → m ≢ n → sum_by (count_of b) (net_shapes d n net) ≡ 0
foreign-uncounted d n net b m own other =
    elim (cases_lt 0 (sum_by (count_of b) (net_shapes d n net))) [
      | inl some ↦ (
          let c = counted-contains b (net_shapes d n net) (omega (arith, some)) in
          let is_of : IsOf n (get_or (net_shapes d n net) c.0 b) = walks_of d n net.walks c.0 b c.1 in
          let of : b.owner ≡ OfNet n = ap (λ (x : Shape). x.owner) (sym c.2) ∙ is_of.0 in
          absurd (other (ap owner_no (sym own ∙ of)))
          )
      | inr none ↦ omega (arith, none)
    ]

module _ (d : Design) (s : State) (n : ℕ) (net : NetState) (old new : View) (l : n < length s.nets) (of_design : IsStateOf d (with_net s n net)) (stood : StandsFor d s old)
    (turn : IsTurned d n (net_state s n) net old new) (up : sum_by (failing is_upright) (net_shapes d n net) ≤ sum_by (failing is_upright) (net_shapes d n (net_state s n))) where
  now_upright : All (λ (b : Shape). IsUpright b.rect) (state_shapes d (with_net s n net))
  now_upright k b less =
      let before : sum_by (failing is_upright) (state_shapes d s) ≡ 0 = none-failing is_upright (state_shapes d s) (λ j c under. upright-passes (get_or (state_shapes d s) j c) (stood.upright j c under)) in
      let after : sum_by (failing is_upright) (state_shapes d (with_net s n net)) ≡ 0 = omega (arith, before, up, state-sums d s n net (failing is_upright) l) in
      passes-upright (get_or (state_shapes d (with_net s n net)) k b) (all-pass is_upright (state_shapes d (with_net s n net)) after k b less)

  now_on_tiles : All (IsPieceOf d.grid (state_shapes d (with_net s n net))) new.pieces
  now_on_tiles k p less measure =
      let long : length new.pieces ≡ length old.pieces = AllZip-long _ old.pieces new.pieces turn.pieces in
      let under : k < length old.pieces = omega (arith, less, long) in
      let was : Piece = get_or old.pieces k p in
      let is : Piece = get_or new.pieces k p in
      let h : HasTurned d n (net_state s n) net was is = AllZip-get_or _ old.pieces new.pieces k p p turn.pieces under in
      let on : Shape → Bool = is_on d.grid was.no in
      let all : sum_by (masked on measure) (state_shapes d (with_net s n net)) + sum_by (masked on measure) (net_shapes d n (net_state s n)) ≡ sum_by (masked on measure) (state_shapes d s) + sum_by (masked on measure) (net_shapes d n net) = state-sums d s n net (masked on measure) l in
      let a : sum_by measure (filter on (state_shapes d s)) ≡ sum_by (masked on measure) (state_shapes d s) = sum-filter on measure (state_shapes d s) in
      let b : sum_by measure (filter on (state_shapes d (with_net s n net))) ≡ sum_by (masked on measure) (state_shapes d (with_net s n net)) = sum-filter on measure (state_shapes d (with_net s n net)) in
      let c : sum_by measure (filter on (net_shapes d n (net_state s n))) ≡ sum_by (masked on measure) (net_shapes d n (net_state s n)) = sum-filter on measure (net_shapes d n (net_state s n)) in
      let e : sum_by measure (filter on (net_shapes d n net)) ≡ sum_by (masked on measure) (net_shapes d n net) = sum-filter on measure (net_shapes d n net) in
      let f : sum_by measure was.tile ≡ sum_by measure (filter on (state_shapes d s)) = stood.on_tiles k p under measure in
      let g : sum_by measure is.tile ≡ sum_by measure (filter on (state_shapes d (with_net s n net))) = omega (arith, all, a, b, c, e, f, h.turned measure) in
      g ∙ ap (λ (t : ℕ). sum_by measure (filter (is_on d.grid t) (state_shapes d (with_net s n net)))) (sym h.same)

  now_of_nets : (m : ℕ) (own : NetState) → entry_of new.nets m ≡ Some own → own ≡ net_state (with_net s n net) m
  now_of_nets m own has = elim (eqb_tells n m) [
    | inl same ↦ (
        let is : Some net ≡ Some own = sym (turn.nets m ∙ ap (λ (b : Bool). cond b (Some net) (entry_of old.nets m)) same.0) ∙ has in
        sym (some_same net own is) ∙ sym (net_state-same s n net l) ∙ ap (λ (k : ℕ). net_state (with_net s n net) k) same.1
        )
    | inr other ↦ (
        let is : entry_of old.nets m ≡ Some own = sym (turn.nets m ∙ ap (λ (b : Bool). cond b (Some net) (entry_of old.nets m)) other.0) ∙ has in
        stood.of_nets m own is ∙ sym (net_state-other s n m net (λ e. other.1 (sym e)))
        )
  ]

  -- a shape of another net stood there before
  stood_before : (b : Shape) (m : ℕ) (k : ℕ) (p : Piece) → k < length new.pieces → Contains (get_or new.pieces k p).tile b → b.owner ≡ OfNet m → m ≢ n → Contains (get_or old.pieces k p).tile b
  stood_before b m k p less there own other =
      let long : length new.pieces ≡ length old.pieces = AllZip-long _ old.pieces new.pieces turn.pieces in
      let under : k < length old.pieces = omega (arith, less, long) in
      let was : Piece = get_or old.pieces k p in
      let is : Piece = get_or new.pieces k p in
      let h : HasTurned d n (net_state s n) net was is = AllZip-get_or _ old.pieces new.pieces k p p turn.pieces under in
      let on : Shape → Bool = is_on d.grid was.no in
      let some : 1 ≤ sum_by (count_of b) is.tile = contains-counted b is.tile there in
      let none : sum_by (count_of b) (net_shapes d n net) ≡ 0 = foreign-uncounted d n net b m own other in
      let part : sum_by (count_of b) (filter on (net_shapes d n net)) ≤ sum_by (count_of b) (net_shapes d n net) = part-counts on (count_of b) (net_shapes d n net) in
      counted-contains b was.tile (omega (arith, some, none, part, h.turned (count_of b)))

  now_ripped : (b : Shape) (m : ℕ) → Any (λ (p : Piece). Contains p.tile b) new.pieces → b.fixed ≡ false → b.owner ≡ OfNet m → rips_in new m ≡ (net_state (with_net s n net) m).rips
  now_ripped b m there free own = elim (eqb_tells n m) [
    | inl same ↦ (
        let known : entry_of new.rips m ≡ Some net.rips = turn.rips m ∙ ap (λ (t : Bool). cond t (Some net.rips) (entry_of old.rips m)) same.0 in
        ap (λ (o : Option ℕ). unwrap_or o 0) known
        ∙ ap (λ (own : NetState). own.rips) (sym (net_state-same s n net l))
        ∙ ap (λ (k : ℕ). (net_state (with_net s n net) k).rips) same.1
        )
    | inr other ↦ (
        let k : ℕ = there.0 in
        let p : Piece = there.1 in
        let long : length new.pieces ≡ length old.pieces = AllZip-long _ old.pieces new.pieces turn.pieces in
        let under : k < length old.pieces = omega (arith, there.2, long) in
        let was : Piece = get_or old.pieces k p in
        let here : Contains (get_or new.pieces k p).tile b = subst (λ (q : Piece). Contains q.tile b) (sym there.3) there.4 in
        let before : Contains was.tile b = stood_before b m k p there.2 here own (λ e. other.1 (sym e)) in
        let known : entry_of new.rips m ≡ entry_of old.rips m = turn.rips m ∙ ap (λ (t : Bool). cond t (Some net.rips) (entry_of old.rips m)) other.0 in
        ap (λ (o : Option ℕ). unwrap_or o 0) known
        ∙ stood.ripped b m (k, was, under, get_or_default old.pieces k was p under, before) free own
        ∙ ap (λ (own : NetState). own.rips) (sym (net_state-other s n m net (λ e. other.1 (sym e))))
        )
  ]

  pub view-turned : StandsFor d (with_net s n net) new
  view-turned = record { of_design = of_design; upright = now_upright; on_tiles = now_on_tiles; of_nets = now_of_nets; ripped = now_ripped }

-- a net got a walk
pub add-turns : (d : Design) (n : ℕ) (own : NetState) (w : Walk) (olds news : List Piece) → AllZip (HasGained d.grid (walk_shapes_of d n w)) olds news → AllZip (HasTurned d n own (with_one own w)) olds news
add-turns d n own w olds news gained = zip-then _ _ olds news (λ k p q less h. record {
  same = h.same;
  turned = λ measure.
      let on : Shape → Bool = is_on d.grid (get_or olds k p).no in
      let all : net_shapes d n (with_one own w) ≡ net_shapes d n own ++ walk_shapes_of d n w = longer-shapes d n own w in
      let parts : filter on (net_shapes d n (with_one own w)) ≡ filter on (net_shapes d n own) ++ filter on (walk_shapes_of d n w) = ap (filter on) all ∙ filter-append on (net_shapes d n own) (walk_shapes_of d n w) in
      let sums : sum_by measure (filter on (net_shapes d n (with_one own w))) ≡ sum_by measure (filter on (net_shapes d n own)) + sum_by measure (filter on (walk_shapes_of d n w)) =
      ap (sum_by measure) parts ∙ sum_by-append measure (filter on (net_shapes d n own)) (filter on (walk_shapes_of d n w)) in
      omega (arith, sums, h.gained measure);
}) gained

pub add-upright : (d : Design) (n : ℕ) (own : NetState) (w : Walk) → All (λ (b : Shape). IsUpright b.rect) (walk_shapes_of d n w) → sum_by (failing is_upright) (net_shapes d n (with_one own w)) ≤ sum_by (failing is_upright) (net_shapes d n own)
add-upright d n own w up =
    let none : sum_by (failing is_upright) (walk_shapes_of d n w) ≡ 0 = none-failing is_upright (walk_shapes_of d n w) (λ k b less. upright-passes (get_or (walk_shapes_of d n w) k b) (up k b less)) in
    let sums : sum_by (failing is_upright) (net_shapes d n (with_one own w)) ≡ sum_by (failing is_upright) (net_shapes d n own) + sum_by (failing is_upright) (walk_shapes_of d n w) =
    ap (sum_by (failing is_upright)) (longer-shapes d n own w) ∙ sum_by-append (failing is_upright) (net_shapes d n own) (walk_shapes_of d n w) in
    omega (arith, none, sums)

-- a net lost its walks
pub empty-turns : (d : Design) (n : ℕ) (own : NetState) (olds news : List Piece) → AllZip (λ (old new : Piece). HasGained d.grid (net_shapes d n own) new old) olds news → AllZip (HasTurned d n own (emptied_net own)) olds news
empty-turns d n own olds news gained = zip-then _ _ olds news (λ k p q less h. record {
  same = sym h.same;
  turned = λ measure.
      let lost : sum_by measure (get_or olds k p).tile ≡ sum_by measure (filter (is_on d.grid (get_or olds k p).no) (net_shapes d n own)) + sum_by measure (get_or news k q).tile =
      subst (λ (t : ℕ). sum_by measure (get_or olds k p).tile ≡ sum_by measure (filter (is_on d.grid t) (net_shapes d n own)) + sum_by measure (get_or news k q).tile) (sym h.same) (h.gained measure) in
      let nothing : sum_by measure (filter (is_on d.grid (get_or olds k p).no) (net_shapes d n (emptied_net own))) ≡ 0 = refl in
      omega (arith, lost, nothing);
}) gained

-- a net is marked
pub mark-turns : (d : Design) (n : ℕ) (own marked : NetState) (ps : List Piece) → marked.walks ≡ own.walks → AllZip (HasTurned d n own marked) ps ps
mark-turns d n own marked ps same = zip-same _ ps (λ p. record {
  same = refl;
  turned = λ measure. ap (λ (ws : List Walk). sum_by measure p.tile + sum_by measure (filter (is_on d.grid p.no) (flat_map (walk_shapes_of d n) ws))) (sym same);
})

-- a net's shapes on a tile are among those of the piece
pub among-pieces : (d : Design) (s : State) (v : View) (n : ℕ) → n < length s.nets → StandsFor d s v → All (λ (p : Piece). AreAmong (filter (is_on d.grid p.no) (net_shapes d n (net_state s n))) p.tile) v.pieces
among-pieces d s v n l stands = λ k p less measure.
    let on : Shape → Bool = is_on d.grid (get_or v.pieces k p).no in
    let a : sum_by measure (filter on (net_shapes d n (net_state s n))) ≡ sum_by (masked on measure) (net_shapes d n (net_state s n)) = sum-filter on measure (net_shapes d n (net_state s n)) in
    let b : sum_by measure (filter on (state_shapes d s)) ≡ sum_by (masked on measure) (state_shapes d s) = sum-filter on measure (state_shapes d s) in
    omega (arith, a, b, net-sums d s n (masked on measure) l, stands.on_tiles k p less measure)

-- what was taken out of a table and put back
pub put-back : {T : Type 0} (n : ℕ) (x : T) (first taken now : List (ℕ × T)) → ((m : ℕ) → entry_of taken m ≡ cond (nat_eq n m) None (entry_of first m)) → ((m : ℕ) → entry_of now m ≡ cond (nat_eq n m) (Some x) (entry_of taken m))
    → (m : ℕ) → entry_of now m ≡ cond (nat_eq n m) (Some x) (entry_of first m)
put-back {T} n x first taken now took put m = put m ∙ ap (λ (o : Option T). cond (nat_eq n m) (Some x) o) (took m) ∙ by_test (nat_eq n m)
  where
    by_test : (b : Bool) → cond b (Some x) (cond b None (entry_of first m)) ≡ cond b (Some x) (entry_of first m)
    by_test true = refl
    by_test false = refl

-- the view has the same tiles and nets
pub turned-same : (d : Design) (n : ℕ) (had has : NetState) (old new : View) → HasNet old n → IsTurned d n had has old new → HasSame old new
turned-same d n had has old new held turn = record {
  tiles = zip-map (λ (p : Piece). p.no) _ old.pieces new.pieces (λ p q h. h.same) turn.pieces;
  nets = λ m. ap is_some (turn.nets m) ∙ by_test m (nat_eq n m) (λ e. ap (λ (k : ℕ). is_some (entry_of old.nets k)) (sym (eqb-true n m e)) ∙ held);
}
  where
    by_test : (m : ℕ) (b : Bool) → (b ≡ true → is_some (entry_of old.nets m) ≡ true) → is_some (cond b (Some has) (entry_of old.nets m)) ≡ is_some (entry_of old.nets m)
    by_test m true h = sym (h refl)
    by_test m false h = refl

-- a net is taken out of the view, shapes come or go, and the net is put back
pub turned-view : (d : Design) (n : ℕ) (had has : NetState) (old taken mid now : View)
    → taken.pieces ≡ old.pieces → taken.rips ≡ old.rips → ((m : ℕ) → entry_of taken.nets m ≡ cond (nat_eq n m) None (entry_of old.nets m))
    → AllZip (HasTurned d n had has) taken.pieces mid.pieces → mid.nets ≡ taken.nets → mid.rips ≡ taken.rips
    → now.pieces ≡ mid.pieces → ((m : ℕ) → entry_of now.nets m ≡ cond (nat_eq n m) (Some has) (entry_of mid.nets m)) → ((m : ℕ) → entry_of now.rips m ≡ cond (nat_eq n m) (Some has.rips) (entry_of mid.rips m))
    → IsTurned d n had has old now
turned-view d n had has old taken mid now same_pieces same_rips took turns mid_nets mid_rips now_pieces put_net put_rips = record {
  pieces = subst (λ (ps : List Piece). AllZip (HasTurned d n had has) ps now.pieces) same_pieces (subst (λ (ps : List Piece). AllZip (HasTurned d n had has) taken.pieces ps) (sym now_pieces) turns);
  nets = put-back n has old.nets taken.nets now.nets took (λ m. put_net m ∙ ap (λ (es : List (ℕ × NetState)). cond (nat_eq n m) (Some has) (entry_of es m)) mid_nets);
  rips = λ m. put_rips m ∙ ap (λ (es : List (ℕ × ℕ)). cond (nat_eq n m) (Some has.rips) (entry_of es m)) (mid_rips ∙ same_rips);
}

-- what follows of two things that hold where there is an answer
pub where-ok : {A E : Type 0} {P Q R : Type 0} (r : Result A E) → (P → Q → R) → OnOk r P → OnOk r Q → OnOk r R
where-ok (Ok a) f p q = f p q
where-ok (Err e) f p q = tt

pub same-trans : (first then last : View) → HasSame first then → HasSame then last → HasSame first last
same-trans first then last one two = record { tiles = two.tiles ∙ one.tiles; nets = λ n. two.nets n ∙ one.nets n }

pub same-none : (v : View) → HasSame v v
same-none v = record { tiles = refl; nets = λ n. refl }
