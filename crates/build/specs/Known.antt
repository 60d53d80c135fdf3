-- What is tested and built of: an input with its look-ups.
use Rattle.build.specs.declared.given.Given.{Given}
use Rattle.build.specs.declared.lookup.Lookup.{Lookup}
use Rattle.build.specs.Indexing.{IsLookup}
use Rattle.build.specs.Inputs.{IsInput, input_by}

pub record IsKnown (given : Given) (known : Lookup) : Type 0 where
  pub is_input : IsInput (input_by given)
  pub is_lookup : IsLookup given.lef.now given.def.now known
