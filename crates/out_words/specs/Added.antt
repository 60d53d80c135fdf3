-- The words that are put in, net by net.
use Rattle.std.specs.Prelude.{◌≡◌, ℕ, ◌+◌, List, [], ◌∷◌, codes}
use Rattle.track_graph.specs.declared.design.Design.{Design}
use Rattle.track_graph.specs.declared.design.Net.{Net}
use Rattle.track_graph.specs.declared.history.State.{State}
use Rattle.def_out.specs.Wiring.{net_strokes}
use Rattle.written.specs.Cuts.{Cut}
use Rattle.written.specs.Words.{option_words}

-- the words that are put in for these nets; the first of them has number n
abbrev pub added_from : Design → State → ℕ → List Net → List (List (List ℕ))
added_from d s n [] = []
added_from d s n (net ∷ nets) = option_words d.tech (net_strokes d s n) ∷ added_from d s (n + 1) nets

-- a cut is made where the closing `;` of a net begins
abbrev pub IsNetCut : Net → Cut → Type 0
IsNetCut net c = (c.mark.first ≡ net.close) × (c.mark.word ≡ codes ";")
