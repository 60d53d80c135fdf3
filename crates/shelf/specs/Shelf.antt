-- What a shelf tells of its files, and what its calls make of that.
use Rattle.std.specs.Prelude.{◌≡◌, ℕ, ◌≤◌, ◌⊎◌, List, length, take, Option, Some, Result, Ok, Err, IfSome, IsSomeAnd, IsSome, option_map}
use Rattle.std.specs.Cmp.Lexicographic.{slice_cmp}
use Rattle.std.specs.Ordering.{nat_cmp}
use Rattle.std.specs.FinMap.{FinMap, get, insert}
use Rattle.shelf.specs.declared.fault.TakeFault.{TakeFault}
use Rattle.shelf.specs.declared.fault.TakeFault.TheVariants.{Failed, Long, Memory}

-- from the bytes of a name to the bytes of its file
abbrev pub Files : Type 0
Files = FinMap (slice_cmp nat_cmp) (List ℕ)

-- the files once bytes were put under a name. Nothing is told where nothing was told
abbrev pub with_file : Option Files → List ℕ → List ℕ → Option Files
with_file told name bytes = option_map (λ files. insert files name bytes) told

-- the files stay, or some first bytes were put under the name
abbrev pub IsCutShort : Option Files → Option Files → List ℕ → List ℕ → Type 0
IsCutShort old new name bytes = (new ≡ old) ⊎ ((count : ℕ) × (new ≡ with_file old name (take count bytes)))

-- the files are told, and the name is held
abbrev pub IsHeld : Option Files → List ℕ → Type 0
IsHeld told name = IsSomeAnd told (λ files. IsSome (get files name))

-- where the files are told, the name holds these bytes
abbrev pub HoldsBytes : Option Files → List ℕ → List ℕ → Type 0
HoldsBytes told name bytes = IfSome told (λ files. get files name ≡ Some bytes)

-- where the files are told, the name holds so many bytes or more
abbrev pub HoldsAtLeast : Option Files → List ℕ → ℕ → Type 0
HoldsAtLeast told name count = IfSome told (λ files. IsSomeAnd (get files name) (λ bytes. count ≤ length bytes))

-- a fact of the count that a take of too long a file answers
abbrev pub IfLong : {A : Type 0} → Result A TakeFault → (ℕ → Type 0) → Type 0
IfLong (Ok _) P = Unit {0}
IfLong (Err Failed) P = Unit {0}
IfLong (Err (Long read)) P = P read
IfLong (Err Memory) P = Unit {0}
