-- The faults that the reader of guides shares with the others.
use Rattle.rt_forms.specs.Form.{Faults}
use Rattle.guide_text.specs.declared.error.GuideError.{GuideError}
use Rattle.guide_text.specs.declared.error.GuideError.TheVariants.{Memory, Unended, Expected}

abbrev pub guide_faults : Faults GuideError
guide_faults = record { memory = Memory; ended = λ line. Unended line; expected = λ line. Expected line }
