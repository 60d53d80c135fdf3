-- How many entries the pins of nets have.
use Rattle.std.specs.Prelude.{◌≡◌, ℕ, List, sum}
use Rattle.std.specs.List.{AllZip, enumerate_from}
use Rattle.track_graph.specs.Entries.{IsEntry}
use Rattle.track_graph.specs.Levels.{TrackSystem}
use Rattle.def_text.specs.declared.def.Def.{Def}
use Rattle.def_text.specs.declared.def.DefNet.{DefNet}
use Rattle.lef_text.specs.declared.lef.Lef.{Lef}
use Rattle.pin_access.specs.Counts.{Counts}
use Rattle.build.specs.Inputs.{Input}
use Rattle.build.specs.LookUps.{connected_rects}

-- so many entries of pin k of a net, named by this connection
abbrev pub PinHas : Lef → Def → TrackSystem → ℕ × (List ℕ × List ℕ) → ℕ → Type 0
PinHas lef def g named n = Counts (IsEntry g named.0 (connected_rects lef def named.1)) n

-- so many of the pins that these connections name, together
pub record PinsHave (lef : Lef) (def : Def) (g : TrackSystem) (connections : List (List ℕ × List ℕ)) (n : ℕ) : Type 0 where
  pub of_pins : List ℕ
  pub each : AllZip (PinHas lef def g) (enumerate_from 0 connections) of_pins
  pub together : sum of_pins ≡ n

abbrev pub NetHas : Input → TrackSystem → DefNet → ℕ → Type 0
NetHas i g said n = PinsHave i.lef i.def g said.pins n

-- so many of the pins of these nets, together
pub record NetsHave (i : Input) (g : TrackSystem) (nets : List DefNet) (n : ℕ) : Type 0 where
  pub of_nets : List ℕ
  pub each : AllZip (NetHas i g) nets of_nets
  pub together : sum of_nets ≡ n
