-- Journals.
use Rattle.std.specs.Prelude.{ℕ, List}
use Rattle.track_graph.specs.declared.history.Block.{Block}

-- what contracts see of a journal: its blocks, and for how many more it has room
pub record Contents : Type 0 where
  pub blocks : List Block
  pub spare : ℕ
