-- Look-ups by name, as the code keeps them.
use Rattle.std.specs.Prelude.{◌≡◌, ◌≢◌, ℕ, List, Result, MatchResult, bytes_eq, Option, Some, None, map}
use Rattle.std.specs.List.{list_any}
use Rattle.rt_base.specs.declared.tech.Layer.{Layer}
use Rattle.lef_text.specs.declared.lef.Lef.{Lef}
use Rattle.build.specs.declared.layer_names.LayerNames.{LayerNames}
use Rattle.build.specs.declared.error.BuildError.{BuildError}
use Rattle.build.specs.declared.error.BuildError.TheVariants.{Memory as OutOfMemory}

-- the names of LEF's layers, those that hold no shapes perhaps in another order
pub record AreLayerNames (lef : Lef) (names : LayerNames) : Type 0 where
  pub shaped_names : names.shaped ≡ map (λ (l : Layer). l.name) lef.layers
  pub dropped_names : (q : List ℕ) → list_any (bytes_eq q) names.dropped ≡ list_any (bytes_eq q) lef.dropped

-- what a test answered tells the fault, unless memory ran out
abbrev pub Tells : Result (Unit {0}) BuildError → Option BuildError → Type 0
Tells r f = MatchResult r (λ _. f ≡ None) (λ e. e ≢ OutOfMemory → f ≡ Some e)
