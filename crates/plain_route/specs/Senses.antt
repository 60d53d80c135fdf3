-- What a search takes the standing wires of other nets for, as a reading of a state.
use Rattle.std.specs.Prelude.{ℕ, List, Bool, true, false}
use Rattle.rt_base.specs.declared.tech.Shape.{Shape}
use Rattle.plain_route.specs.declared.sense.Sense.{Sense}
use Rattle.plain_route.specs.declared.sense.Sense.TheVariants.{Hard, Soft, Without}
use Rattle.track_graph.specs.declared.design.Design.{Design}
use Rattle.track_graph.specs.declared.history.State.{State}
use Rattle.track_graph.specs.Readings.{hard_reading, soft_reading, reading_without}
use Rattle.track_graph.specs.Searches.{Reading}

-- all wires forbid; those that may be ripped are dear; or those of some nets are absent
abbrev pub reading_of : Design → State → ℕ → Sense → Reading
reading_of d s n Hard = hard_reading d s
reading_of d s n Soft = soft_reading d s n
reading_of d s n (Without absent) = reading_without d s absent

-- the dear shapes of a reading, or the forbidding ones
abbrev pub picked : Bool → Reading → List Shape
picked true r = r.dear
picked false r = r.forbidding
