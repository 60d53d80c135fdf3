-- The law of views: a view of all tiles stands for its state as a store of the state's shapes does.
use Rattle.std.proofs.Common.{◌≡◌, ◌∙◌, ℕ, zero, suc, ◌<◌, List, [], ◌∷◌, Bool, true, false, cond, ◌||◌, refl, sym, ap, subst, length, get_or, filter, flat_map, Contains, arith, inl, inr}
use Rattle.std.specs.List.{list_any, Any}
use Rattle.std.proofs.lemmas.Int.{ints}
use Rattle.std.proofs.lemmas.List.Elements.{Contains-append_cases}
use Rattle.std.proofs.lemmas.List.Folds.{Any-from_list_any, list_any-from_Any}
use Rattle.rt_base.proofs.Lists.{Any-here, Any-there}
use Rattle.rt_base.specs.Tiles.{side_of}
use Rattle.rt_base.specs.declared.tech.Shape.{Shape}
use Rattle.plain_route.specs.Stocks.{StandFor}
use Rattle.plain_route.proofs.AnyLemmas.{any_by_sums}
use Rattle.search.specs.Views.{is_on, state_shapes, rips_in, StandsFor, HasAllTiles, view_shapes}
use Rattle.search.specs.declared.piece.Piece.{Piece}
use Rattle.search.specs.declared.view.View.{View}
use Rattle.search.proofs.OnTiles.{LiesOnSome, lies-on_some}
use Rattle.shape_grid.proofs.Tables.{any_parts}
use Rattle.track_graph.specs.Designs.{IsDesign}
use Rattle.track_graph.specs.declared.design.Design.{Design}
use Rattle.track_graph.specs.declared.history.State.{State}

or_true : (b : Bool) → (b || true) ≡ true
or_true true = refl
or_true false = refl

same_answers : (a b : Bool) → (a ≡ true → b ≡ true) → (b ≡ true → a ≡ true) → a ≡ b
same_answers true b there back = sym (there refl)
same_answers false true there back = back refl
same_answers false false there back = refl

-- what some item of a part passes some item of the whole passes
any_of_part : {X : Type 0} (test p : X → Bool) (xs : List X) → list_any test (filter p xs) ≡ true → list_any test xs ≡ true
any_of_part test p [] h = h
any_of_part {X} test p (x ∷ xs) h = by_test (p x) (any_of_part test p xs) h
  where
    by_first : (t : Bool) → (list_any test (filter p xs) ≡ true → list_any test xs ≡ true) → (t || list_any test (filter p xs)) ≡ true → (t || list_any test xs) ≡ true
    by_first true later e = refl
    by_first false later e = later e

    by_test : (b : Bool) → (list_any test (filter p xs) ≡ true → list_any test xs ≡ true) → list_any test (cond b (x ∷ filter p xs) (filter p xs)) ≡ true → (test x || list_any test xs) ≡ true
    by_test true later e = by_first (test x) later e
    by_test false later e = ap (λ (t : Bool). test x || t) (later e) ∙ or_true (test x)

-- an item of a list that passes both tests
any_in_part : {X : Type 0} (test p : X → Bool) (xs : List X) (k : ℕ) (d : X) → k < length xs → test (get_or xs k d) ≡ true → p (get_or xs k d) ≡ true → list_any test (filter p xs) ≡ true
any_in_part {X} test p [] k d less passes on = absurd (omega (arith, less))
any_in_part {X} test p (x ∷ xs) zero d less passes on = subst (λ (b : Bool). list_any test (cond b (x ∷ filter p xs) (filter p xs)) ≡ true) (sym on) (ap (λ (t : Bool). t || list_any test (filter p xs)) passes)
any_in_part {X} test p (x ∷ xs) (suc k) d less passes on = by_test (p x) (any_in_part test p xs k d (omega (arith, less)) passes on)
  where
    by_test : (b : Bool) → list_any test (filter p xs) ≡ true → list_any test (cond b (x ∷ filter p xs) (filter p xs)) ≡ true
    by_test true later = ap (λ (t : Bool). test x || t) later ∙ or_true (test x)
    by_test false later = later

-- what stands in one of the parts
in_part : {X Y : Type 0} (f : X → List Y) (xs : List X) (y : Y) → Contains (flat_map f xs) y → Any (λ x. Contains (f x) y) xs
in_part f [] y h = absurd (omega (arith, h.1))
in_part f (x ∷ xs) y h =
    elim (Contains-append_cases (f x) (flat_map f xs) y h) [
      | inl here ↦ Any-here (λ x. Contains (f x) y) x xs here
      | inr later ↦ Any-there (λ x. Contains (f x) y) x xs (in_part f xs y later)
    ]

module _ (d : Design) (s : State) (v : View) (ok : IsDesign d) (is : StandsFor d s v) (all : HasAllTiles d v) where
  some_side : 0 < side_of d.grid
  some_side = omega (arith, ints, ok.grid.tile.0)

  on_piece : (test : Shape → Bool) (k : ℕ) (p : Piece) → k < length v.pieces → list_any test (get_or v.pieces k p).tile ≡ list_any test (filter (is_on d.grid (get_or v.pieces k p).no) (state_shapes d s))
  on_piece test k p less = any_by_sums test _ _ (is.on_tiles k p less)

  from_pieces : (test : Shape → Bool) → list_any (λ (p : Piece). list_any test p.tile) v.pieces ≡ true → list_any test (state_shapes d s) ≡ true
  from_pieces test h =
      let found = Any-from_list_any (λ (p : Piece). list_any test p.tile) v.pieces h in
      let there : list_any test (get_or v.pieces found.0 found.1).tile ≡ true = ap (λ (p : Piece). list_any test p.tile) found.3 ∙ found.4 in
      any_of_part test (is_on d.grid (get_or v.pieces found.0 found.1).no) (state_shapes d s) (sym (on_piece test found.0 found.1 found.2) ∙ there)

  to_pieces : (test : Shape → Bool) → list_any test (state_shapes d s) ≡ true → list_any (λ (p : Piece). list_any test p.tile) v.pieces ≡ true
  to_pieces test h =
      let found = Any-from_list_any test (state_shapes d s) h in
      let b : Shape = get_or (state_shapes d s) found.0 found.1 in
      let passes : test b ≡ true = ap test found.3 ∙ found.4 in
      let at : LiesOnSome d.grid b = lies-on_some d.grid b some_side (is.upright found.0 found.1 found.2) in
      let held = all at.tile at.is_tile in
      let p : Piece = get_or v.pieces held.0 held.1 in
      let number : p.no ≡ at.tile = ap (λ (q : Piece). q.no) held.3 ∙ held.4 in
      let on : is_on d.grid p.no b ≡ true = ap (λ (t : ℕ). is_on d.grid t b) number ∙ at.lies_on in
      let there : list_any test p.tile ≡ true = on_piece test held.0 held.1 held.2 ∙ any_in_part test (is_on d.grid p.no) (state_shapes d s) found.0 found.1 found.2 passes on in
      list_any-from_Any (λ (q : Piece). list_any test q.tile) v.pieces (held.0, held.1, held.2, held.3, ap (λ (q : Piece). list_any test q.tile) (sym held.3) ∙ there)

  pub view-stands : StandFor d s (view_shapes v) (rips_in v)
  view-stands = record {
    same = λ test. sym (any_parts test (λ (p : Piece). p.tile) v.pieces) ∙ same_answers _ _ (from_pieces test) (to_pieces test);
    ripped = λ b m here free own. is.ripped b m (in_part (λ (p : Piece). p.tile) v.pieces b here) free own;
  }
