use Rattle.std.proofs.Common.{◌≡◌, ◌∙◌, rules, sym, List, length, get_or, ◌<◌, ℕ, IsPermutation, ◌∷◌}
use Rattle.std.proofs.lemmas.List.{get_or_default}
use Rattle.std.specs.List.{swap_remove}
use Rattle.rt_base.specs.declared.tech.Shape.{Shape}
use Rattle.std.proofs.lemmas.List.Sorted.{IsPermutation-swap_remove, IsPermutation-sym}
use Rattle.shape_grid.proofs.touch.take_from.Goals as goal

taken : (old new : List Shape) (i : ℕ) (x y : Shape) → i < length old → x ≡ get_or old i x → y ≡ get_or old i y → new ≡ swap_remove old i y → IsPermutation (x ∷ new) old
taken old new i x y within found same is =
    let one : x ≡ y = found ∙ get_or_default old i x y within ∙ sym same in
    rw (is, one) (IsPermutation-sym _ _ (IsPermutation-swap_remove old i y within same))

pub returns-clause-found : goal.returns-clause-found
returns-clause-found c =
    taken _ _ c.in-Some.place _ c.swap_remove.result (search rules) (search rules) (search rules) (search rules)
