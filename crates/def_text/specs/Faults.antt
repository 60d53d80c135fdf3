-- The faults that the reader of DEF shares with the others.
use Rattle.rt_forms.specs.Form.{Faults}
use Rattle.def_text.specs.declared.error.DefError.{DefError}
use Rattle.def_text.specs.declared.error.DefError.TheVariants.{Memory, Unended, Expected}

abbrev pub def_faults : Faults DefError
def_faults = record { memory = Memory; ended = λ line. Unended line; expected = λ line. Expected line }
