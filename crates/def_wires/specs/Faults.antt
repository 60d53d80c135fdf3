-- The faults that the readers of wiring share with the others.
use Rattle.rt_forms.specs.Form.{Faults}
use Rattle.def_wires.specs.declared.error.WireFault.{WireFault}
use Rattle.def_wires.specs.declared.error.WireFault.TheVariants.{Memory, Expected}

abbrev pub wire_faults : Faults WireFault
wire_faults = record { memory = Memory; ended = λ line. Expected line; expected = λ line. Expected line }
