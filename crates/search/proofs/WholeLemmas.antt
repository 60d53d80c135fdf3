-- The view of all tiles and nets stands for its state.
use Rattle.std.proofs.Common.{◌≡◌, ◌∙◌, ℕ, ◌<◌, List, [], filter, length, get_or, option_map, slice_get, unwrap_or, Option, Some, None, refl, sym, ap, arith, All}
use Rattle.std.specs.List.{sum_by}
use Rattle.std.proofs.lemmas.Int.{ints}
use Rattle.std.proofs.lemmas.List.Sorted.{sum_by-IsPermutation}
use Rattle.rt_base.specs.Tiles.{side_of}
use Rattle.rt_base.specs.declared.tech.Shape.{Shape}
use Rattle.search.specs.Tables.{entry_of}
use Rattle.search.specs.Views.{is_on, IsPieceOf, rips_in, StandsFor, state_shapes}
use Rattle.search.specs.Wholes.{AreNumbered, IsTileAt}
use Rattle.search.specs.declared.piece.Piece.{Piece}
use Rattle.search.specs.declared.view.View.{View}
use Rattle.search.proofs.Masks.{all-pass, failing, filter-same, masked, none-failing, sum-filter}
use Rattle.search.proofs.OnTiles.{answers-on, is_upright, passes-upright, upright-passes}
use Rattle.shape_grid.specs.Tiling.{AreSplit, IsTileOf, IsUpright}
use Rattle.track_graph.specs.Conditions.{IsStateOf}
use Rattle.track_graph.specs.Designs.{IsDesign}
use Rattle.track_graph.specs.States.{net_state}
use Rattle.track_graph.specs.declared.design.Design.{Design}
use Rattle.track_graph.specs.declared.history.NetState.{NetState}
use Rattle.track_graph.specs.declared.history.State.{State}
use Rattle.track_graph.proofs.StateLemmas.{blank}

module _ (d : Design) (s : State) (shapes : List Shape) (tiles : List (List Shape)) (v : View) (ok : IsDesign d) (state : IsStateOf d s) (sums : (measure : Shape → ℕ) → sum_by measure shapes ≡ sum_by measure (state_shapes d s))
    (up : All (λ (b : Shape). IsUpright b.rect) shapes) (parted : AreSplit d.grid shapes tiles) (numbered : AreNumbered tiles v.pieces) (nets : (n : ℕ) → entry_of v.nets n ≡ slice_get s.nets n)
    (rips : (n : ℕ) → entry_of v.rips n ≡ option_map (λ (own : NetState). own.rips) (slice_get s.nets n)) where
  some_side : 0 < side_of d.grid
  some_side = omega (arith, ints, ok.grid.tile.0)

  -- a tile has those that lie on it
  tile_sums : (t : ℕ) → t < length tiles → (measure : Shape → ℕ) → sum_by measure (get_or tiles t []) ≡ sum_by measure (filter (is_on d.grid t) shapes)
  tile_sums t less measure =
      let part : IsTileOf d.grid shapes t (get_or tiles t []) = parted.each t less in
      sum_by-IsPermutation measure (filter part.test shapes) (get_or tiles t []) part.are
      ∙ ap (sum_by measure) (filter-same part.test (is_on d.grid t) shapes (λ k b under. answers-on d.grid t (get_or shapes k b) (part.test (get_or shapes k b)) some_side (up k b under) (part.meets k b under)))

  whole_on_tiles : All (IsPieceOf d.grid (state_shapes d s)) v.pieces
  whole_on_tiles k p less measure =
      let q : Piece = get_or v.pieces k p in
      let at : IsTileAt tiles q = numbered.each k p less in
      let a : sum_by measure q.tile ≡ sum_by measure (filter (is_on d.grid q.no) shapes) = ap (sum_by measure) at.same ∙ tile_sums q.no at.is_tile measure in
      a ∙ sum-filter (is_on d.grid q.no) measure shapes ∙ sums (masked (is_on d.grid q.no) measure) ∙ sym (sum-filter (is_on d.grid q.no) measure (state_shapes d s))

  whole_upright : All (λ (b : Shape). IsUpright b.rect) (state_shapes d s)
  whole_upright k b less =
      let none : sum_by (failing is_upright) shapes ≡ 0 = none-failing is_upright shapes (λ j c under. upright-passes (get_or shapes j c) (up j c under)) in
      passes-upright (get_or (state_shapes d s) k b) (all-pass is_upright (state_shapes d s) (sym (sums (failing is_upright)) ∙ none) k b less)

  whole_ripped : (n : ℕ) → rips_in v n ≡ (net_state s n).rips
  whole_ripped n = ap (λ (o : Option ℕ). unwrap_or o 0) (rips n) ∙ by_case (slice_get s.nets n)
    where
      by_case : (o : Option NetState) → unwrap_or (option_map (λ (own : NetState). own.rips) o) 0 ≡ (unwrap_or o blank).rips
      by_case (Some own) = refl
      by_case None = refl

  pub whole-stands : StandsFor d s v
  whole-stands = record {
    of_design = state;
    upright = whole_upright;
    on_tiles = whole_on_tiles;
    of_nets = λ n own has. sym (ap (λ (o : Option NetState). unwrap_or o blank) (sym (nets n) ∙ has));
    ripped = λ b n there free own. whole_ripped n;
  }
