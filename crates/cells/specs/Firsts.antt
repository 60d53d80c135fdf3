-- Names, each with the number with which it came first.
use Rattle.std.specs.Prelude.{◌≡◌, ℕ, List, length, position, bytes_eq, slice_get, Option, option_and_then}
use Rattle.cells.specs.declared.firsts.Firsts.{Firsts}

-- a name has a number beside it
abbrev pub ArePaired : {N : Type 0} → Firsts N → Type 0
ArePaired firsts = length firsts.names ≡ length firsts.numbers

-- the number of a name
abbrev pub first_in : {N : Type 0} → Firsts N → List ℕ → Option N
first_in firsts name = option_and_then (slice_get firsts.numbers) (position (bytes_eq name) firsts.names)

-- the place of the first item of each name
pub record ArePlaces {X : Type 0} (name : X → List ℕ) (items : List X) (firsts : Firsts ℕ) : Type 0 where
  pub paired : ArePaired firsts
  pub places : (q : List ℕ) → first_in firsts q ≡ position (λ (x : X). bytes_eq q (name x)) items
