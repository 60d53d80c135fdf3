-- Tokens in a text.
use Rattle.std.specs.Prelude.{ℕ, ◌≤◌, List, [], ◌∷◌}
use Rattle.rt_base.specs.declared.token.Token.{Token}

-- each token lies in a text of this length
abbrev pub AllInside : ℕ → List Token → Type 0
AllInside n [] = Unit {0}
AllInside n (t ∷ ts) = (t.first ≤ t.past) × (t.past ≤ n) × AllInside n ts
