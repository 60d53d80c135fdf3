-- The faults of LEF that the readers of all texts answer.
use Rattle.rt_forms.specs.Form.{Faults}
use Rattle.lef_text.specs.declared.error.LefError.{LefError}
use Rattle.lef_text.specs.declared.error.LefError.TheVariants.{Memory, Unended, Expected}

abbrev pub lef_faults : Faults LefError
lef_faults = record { memory = Memory; ended = λ line. Unended line; expected = λ line. Expected line }
