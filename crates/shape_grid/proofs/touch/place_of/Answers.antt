use Rattle.std.proofs.Common.{◌≡◌, ℕ, ◌<◌, List, Option, Some, None, IfSome, MatchOption, length, slice_index_or, sym}
use borrow.Author.Tests.{tests}
use Rattle.std.proofs.Common.{rules}
use Rattle.std.specs.List.{HoldsAt}
use Rattle.std.proofs.lemmas.Iterator.{IsFirst-from_position, YieldsList-from_slice}
use Rattle.rt_base.specs.declared.tech.Shape.{Shape}
use Rattle.shape_grid.proofs.touch.place_of.Goals as goal

placed : (r : Option ℕ) (xs : List Shape) (x : Shape) (P : Type 0) (Q : ℕ → Type 0) → MatchOption r P (λ i. (i < length xs) × HoldsAt (λ s. s ≡ x) xs i × Q i) → IfSome r (λ i. x ≡ slice_index_or xs i x)
placed None xs x P Q h = tt
placed (Some i) xs x P Q h = sym (h.1 x)

pub returns-clause-found : goal.returns-clause-found
returns-clause-found c =
    placed _ _ _ _ _ (IsFirst-from_position _ _ _ (λ s. s ≡ c.args.shape.now) (λ s. Unit {0}) c.position.ensures.ran (YieldsList-from_slice c.args.shapes.now cc) (λ x q k. search (rules, tests)) (λ x q k. search (rules, tests)))
