-- Faults of wiring among the reasons why no design is built.
use Rattle.def_wires.specs.declared.error.WireFault.{WireFault}
use Rattle.def_wires.specs.declared.error.WireFault.TheVariants.{Expected, Number, NoSuchLayer, NoSuchVia, FirstStar, Diagonal, ViaOffLayer, Refused, Memory as NoMemory}
use Rattle.build.specs.declared.error.BuildError.{BuildError}
use Rattle.build.specs.declared.error.BuildError.TheVariants.{Wiring, Memory as OutOfMemory}

-- a fault of wiring; want of memory is none
abbrev pub wiring_error : WireFault → BuildError
wiring_error (Expected line) = Wiring (Expected line)
wiring_error (Number line) = Wiring (Number line)
wiring_error (NoSuchLayer line) = Wiring (NoSuchLayer line)
wiring_error (NoSuchVia line) = Wiring (NoSuchVia line)
wiring_error (FirstStar line) = Wiring (FirstStar line)
wiring_error (Diagonal line) = Wiring (Diagonal line)
wiring_error (ViaOffLayer line) = Wiring (ViaOffLayer line)
wiring_error (Refused line) = Wiring (Refused line)
wiring_error NoMemory = OutOfMemory
