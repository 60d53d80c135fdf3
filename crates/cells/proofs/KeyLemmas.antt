-- No two pins have one key.
use Rattle.std.proofs.Common.{◌≡◌, ℕ, List, [], ◌∷◌, Bool, ◌&&◌, ◌==◌, refl, sym, ap, ◌∙◌, bytes_eq}
use Rattle.std.proofs.Math.Bool.{and_assoc}
use Rattle.cells.specs.Indexes.{key}

pub key_same : (a b c d : List ℕ) → bytes_eq (key a b) (key c d) ≡ (bytes_eq a c && bytes_eq b d)
key_same [] b [] d = refl
key_same [] b (y ∷ ys) d = refl
key_same (x ∷ xs) b [] d = refl
key_same (x ∷ xs) b (y ∷ ys) d = ap (λ (t : Bool). (x == y) && t) (key_same xs b ys d) ∙ sym (and_assoc (x == y) (bytes_eq xs ys) (bytes_eq b d))
