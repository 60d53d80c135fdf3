use Rattle.std.proofs.Common.{length, All}
use Rattle.rt_forms.proofs.Loops.{Runs}
use Rattle.def_text.specs.Faults.{def_faults}
use Rattle.def_text.specs.Defs.{IsNameWord}
use Rattle.def_text.specs.Tracks.{more_layers}
use Rattle.def_text.proofs.tracks.further_layers.Given as goal

abbrev pub invariant-layers : goal.invariant-layers
invariant-layers l = record { runs : Runs def_faults more_layers l.layers l.words l.initial.layers l.initial.words; names : All IsNameWord l.layers }

abbrev pub decreases-layers : goal.decreases-layers
decreases-layers l = length l.words
