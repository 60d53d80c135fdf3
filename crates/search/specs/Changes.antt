-- What a view becomes when shapes come or go, and what it keeps.
use Rattle.std.specs.Prelude.{◌≡◌, ℕ, List, filter, map, is_some, All}
use Rattle.std.specs.List.{AllZip}
use Rattle.rt_base.specs.declared.grid.Grid.{Grid}
use Rattle.rt_base.specs.declared.tech.Shape.{Shape}
use Rattle.search.specs.Tables.{entry_of}
use Rattle.search.specs.Views.{is_on, HasNet}
use Rattle.search.specs.declared.piece.Piece.{Piece}
use Rattle.search.specs.declared.view.View.{View}
use Rattle.standing_shapes.specs.Standing.{AreAdded}
use Rattle.track_graph.specs.declared.history.Block.{Block}
use Rattle.track_graph.specs.declared.history.Block.TheVariants.{Wire, Stuck, RipFor}

-- the new piece has those of these shapes besides that lie on its tile
pub record HasGained (g : Grid) (shapes : List Shape) (old new : Piece) : Type 0 where
  pub same : new.no ≡ old.no
  pub gained : AreAdded (filter (is_on g old.no) shapes) old.tile new.tile

-- each of the new pieces has those of these shapes besides that lie on its tile
abbrev pub AllGained : Grid → List Shape → List Piece → List Piece → Type 0
AllGained g shapes olds news = AllZip (HasGained g shapes) olds news

-- each of the new pieces lacks those of these shapes that lay on its tile
abbrev pub AllLost : Grid → List Shape → List Piece → List Piece → Type 0
AllLost g shapes olds news = AllZip (λ (old new : Piece). HasGained g shapes new old) olds news

-- the same tiles, and the same nets
pub record HasSame (old new : View) : Type 0 where
  pub tiles : map (λ (p : Piece). p.no) new.pieces ≡ map (λ (p : Piece). p.no) old.pieces
  pub nets : (n : ℕ) → is_some (entry_of new.nets n) ≡ is_some (entry_of old.nets n)

-- the view has each net that the block names
abbrev pub HasNetsOf : View → Block → Type 0
HasNetsOf v (Wire n w) = HasNet v n
HasNetsOf v (Stuck n) = HasNet v n
HasNetsOf v (RipFor n soft ripped w) = HasNet v n × All (HasNet v) ripped
