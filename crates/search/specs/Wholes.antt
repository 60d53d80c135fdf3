-- Tiles with their numbers.
use Rattle.std.specs.Prelude.{◌≡◌, ℕ, ◌<◌, List, [], length, slice_index_or, All, Any}
use Rattle.rt_base.specs.declared.tech.Shape.{Shape}
use Rattle.search.specs.declared.piece.Piece.{Piece}

-- the tile with this number
pub record IsTileAt (tiles : List (List Shape)) (p : Piece) : Type 0 where
  pub is_tile : p.no < length tiles
  pub same : p.tile ≡ slice_index_or tiles p.no []

-- exactly these tiles, each with its number
pub record AreNumbered (tiles : List (List Shape)) (pieces : List Piece) : Type 0 where
  pub each : All (IsTileAt tiles) pieces
  pub every : (t : ℕ) → t < length tiles → Any (λ (p : Piece). p.no ≡ t) pieces
