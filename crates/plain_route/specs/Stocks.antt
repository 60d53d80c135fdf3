-- What a search takes shapes for that stand around a net: a reading of them.
use Rattle.std.specs.Prelude.{◌≡◌, ℕ, List, ◌++◌, Bool, false, Contains, filter}
use Rattle.std.specs.List.{list_any}
use Rattle.rt_base.specs.declared.tech.Owner.TheVariants.{Net as OfNet}
use Rattle.rt_base.specs.declared.tech.Shape.{Shape}
use Rattle.plain_route.specs.Roles.{is_dear, is_forbidding}
use Rattle.plain_route.specs.declared.sense.Sense.{Sense}
use Rattle.track_graph.specs.declared.design.Design.{Design}
use Rattle.track_graph.specs.declared.history.State.{State}
use Rattle.track_graph.specs.Searches.{Reading}
use Rattle.track_graph.specs.States.{net_state, standing}

-- those of the shapes that forbid, and those that are dear
abbrev pub stock_reading : Design → (ℕ → ℕ) → ℕ → Sense → List Shape → Reading
stock_reading d rips n sense shapes = record {
  forbidding = filter (is_forbidding d rips n sense) shapes;
  dear = filter (is_dear d rips n sense) shapes;
}

-- the fixed shapes of a design and those that stand in a state, each once or more often, with the rips of the nets that have wires among them
pub record StandFor (d : Design) (s : State) (shapes : List Shape) (rips : ℕ → ℕ) : Type 0 where
  pub same : (test : Shape → Bool) → list_any test shapes ≡ list_any test (d.fixed ++ standing d s)
  pub ripped : (b : Shape) (m : ℕ) → Contains shapes b → b.fixed ≡ false → b.owner ≡ OfNet m → rips m ≡ (net_state s m).rips
