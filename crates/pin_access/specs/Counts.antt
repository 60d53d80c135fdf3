-- How many things there are of a kind.
use Rattle.std.specs.Prelude.{◌≡◌, ◌≢◌, ◌↔◌, ℕ, List, length, AllPairs, Contains}

-- n in all: some list has each of them once, and is n long
pub record Counts {X : Type 0} (P : X → Type 0) (n : ℕ) : Type 0 where
  pub those : List X
  pub once : AllPairs (λ a b. a ≢ b) those
  pub exactly : (x : X) → Contains those x ↔ P x
  pub count : length those ≡ n
