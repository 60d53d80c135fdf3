-- What a test answers that keeps what it read.
use Rattle.std.specs.Prelude.{◌≡◌, ◌≢◌, Result, MatchResult, Option, Some, None}
use Rattle.build.specs.declared.error.BuildError.{BuildError}
use Rattle.build.specs.declared.error.BuildError.TheVariants.{Memory as OutOfMemory}

-- a value of this kind where there is no fault, else the fault, unless memory ran out
abbrev pub Finds : {A : Type 0} → (A → Type 0) → Result A BuildError → Option BuildError → Type 0
Finds kind r f = MatchResult r (λ x. (f ≡ None) × kind x) (λ e. e ≢ OutOfMemory → f ≡ Some e)
