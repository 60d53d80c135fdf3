-- Views: what stands on some tiles in a state.
use Rattle.std.specs.Prelude.{◌≡◌, ℕ, ◌*◌, ◌/◌, ◌%◌, ◌<◌, List, ◌++◌, Bool, false, ◌&&◌, nat_le, filter, All, Any, Contains, Some, IsSome, unwrap_or, flat_map, sum_by}
use Rattle.rt_base.specs.Tiles.{columns_of, rows_of, column_of, row_of}
use Rattle.rt_base.specs.declared.grid.Grid.{Grid}
use Rattle.rt_base.specs.declared.tech.Owner.TheVariants.{Net as OfNet}
use Rattle.rt_base.specs.declared.tech.Shape.{Shape}
use Rattle.search.specs.Tables.{entry_of}
use Rattle.search.specs.declared.piece.Piece.{Piece}
use Rattle.search.specs.declared.view.View.{View}
use Rattle.shape_grid.specs.Tiling.{IsUpright}
use Rattle.track_graph.specs.declared.design.Design.{Design}
use Rattle.track_graph.specs.declared.history.NetState.{NetState}
use Rattle.track_graph.specs.declared.history.State.{State}
use Rattle.track_graph.specs.Conditions.{IsStateOf}
use Rattle.track_graph.specs.States.{net_state, standing}

-- a shape lies on a tile: the tile's column is among those of its sides, and so is its row
abbrev pub is_on : Grid → ℕ → Shape → Bool
is_on g t b =
    nat_le (column_of g b.rect.xl) (t % columns_of g) && nat_le (t % columns_of g) (column_of g b.rect.xh) && nat_le (row_of g b.rect.yl) (t / columns_of g) && nat_le (t / columns_of g) (row_of g b.rect.yh)

-- the shapes that stand in a state: the design's fixed ones and those of the walks
abbrev pub state_shapes : Design → State → List Shape
state_shapes d s = d.fixed ++ standing d s

-- a piece has those of these shapes that lie on its tile, each as often: whatever is counted of them, the sums agree
abbrev pub IsPieceOf : Grid → List Shape → Piece → Type 0
IsPieceOf g shapes p = (measure : Shape → ℕ) → sum_by measure p.tile ≡ sum_by measure (filter (is_on g p.no) shapes)

-- how often a net was ripped as far as the view knows, and else 0
abbrev pub rips_in : View → ℕ → ℕ
rips_in v n = unwrap_or (entry_of v.rips n) 0

-- the view stands for a state on its tiles: it has all shapes of the state there, what stands of its nets, and how often each net was ripped that has a wire there
pub record StandsFor (d : Design) (s : State) (v : View) : Type 0 where
  pub of_design : IsStateOf d s
  pub upright : All (λ (b : Shape). IsUpright b.rect) (state_shapes d s)
  pub on_tiles : All (IsPieceOf d.grid (state_shapes d s)) v.pieces
  pub of_nets : (n : ℕ) (own : NetState) → entry_of v.nets n ≡ Some own → own ≡ net_state s n
  pub ripped : (b : Shape) (n : ℕ) → Any (λ (p : Piece). Contains p.tile b) v.pieces → b.fixed ≡ false → b.owner ≡ OfNet n → rips_in v n ≡ (net_state s n).rips

-- the view has a net
abbrev pub HasNet : View → ℕ → Type 0
HasNet v n = IsSome (entry_of v.nets n)

-- the view has each tile of the die
abbrev pub HasAllTiles : Design → View → Type 0
HasAllTiles d v = (t : ℕ) → t < columns_of d.grid * rows_of d.grid → Any (λ (p : Piece). p.no ≡ t) v.pieces

-- the shapes of a view, those of one tile after those of another
abbrev pub view_shapes : View → List Shape
view_shapes v = flat_map (λ (p : Piece). p.tile) v.pieces
