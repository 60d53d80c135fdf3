-- What makes a text the one that a design was read from.
use Rattle.std.specs.Prelude.{ℕ, ◌<◌, List, length, All, AllPairs}
use Rattle.track_graph.specs.declared.design.Net.{Net}

-- the closing `;` of the nets stand in the text, each behind that of the net before
pub record AreCloses (text : List ℕ) (nets : List Net) : Type 0 where
  pub ascending : AllPairs (λ (a b : Net). a.close < b.close) nets
  pub within : All (λ (net : Net). net.close < length text) nets
