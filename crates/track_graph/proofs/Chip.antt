-- The chip of the worked examples: two levels of ten tracks each, and a via between them.
use Rattle.std.specs.Prelude.{ℕ, ℤ, pos, negsuc, List, [], ◌∷◌, Bool, true, false, codes}
use Rattle.rt_base.specs.Sides.{Sides}
use Rattle.rt_base.specs.declared.tech.Layer.{Layer}
use Rattle.rt_base.specs.declared.tech.LayerNo.{LayerNo}
use Rattle.rt_base.specs.declared.tech.Shape.{Shape}
use Rattle.rt_base.specs.declared.tech.Tech.{Tech}
use Rattle.rt_base.specs.declared.tech.Via.{Via}
use Rattle.rt_base.specs.declared.walk.Edge.{Edge}
use Rattle.rt_base.specs.declared.walk.EdgeKind.TheVariants.{Along, Via as ByVia}
use Rattle.rt_base.specs.declared.walk.Entry.{Entry}
use Rattle.rt_base.specs.declared.walk.EntryKind.TheVariants.{Pin as AtPin, Stub}
use Rattle.rt_base.specs.declared.walk.Vertex.{Vertex}
use Rattle.rt_base.specs.declared.walk.Walk.{Walk}
use Rattle.track_graph.specs.declared.design.Design.{Design}
use Rattle.track_graph.specs.declared.design.Net.{Net}
use Rattle.track_graph.specs.declared.design.NetKind.{NetKind}
use Rattle.track_graph.specs.declared.design.NetKind.TheVariants.{Routable}
use Rattle.track_graph.specs.declared.design.Pin.{Pin}
use Rattle.track_graph.specs.declared.history.Block.{Block}
use Rattle.track_graph.specs.declared.history.Block.TheVariants.{Wire, RipFor}

abbrev pub sides : ℤ → ℤ → ℤ → ℤ → Sides
sides xl yl xh yh = record { xl = xl; yl = yl; xh = xh; yh = yh }

abbrev pub no : ℕ → LayerNo
no n = record { 0 = n }

abbrev pub layer : List ℕ → Bool → Bool → Layer
layer name routing horizontal = record { name = name; routing = routing; horizontal = horizontal; width = pos 100; spacing = pos 100; table = record { lengths = []; rows = [] } }

abbrev pub pad : Sides
pad = sides (negsuc 49) (negsuc 49) (pos 50) (pos 50)

abbrev pub via : Via
via = record { name = codes "V12"; usable = true; rects = (no 0, pad) ∷ (no 1, sides (negsuc 24) (negsuc 24) (pos 25) (pos 25)) ∷ (no 2, pad) ∷ [] }

abbrev pub tech : Tech
tech = record { layers = layer (codes "M1") true true ∷ layer (codes "C1") false false ∷ layer (codes "M2") true false ∷ []; vias = via ∷ [] }

abbrev pub lines : List ℤ
lines = pos 100 ∷ pos 300 ∷ pos 500 ∷ pos 700 ∷ pos 900 ∷ pos 1100 ∷ pos 1300 ∷ pos 1500 ∷ pos 1700 ∷ pos 1900 ∷ []

abbrev pub die : Sides
die = sides (pos 0) (pos 0) (pos 2000) (pos 2000)

abbrev pub at : ℕ → ℕ → ℕ → Vertex
at level x y = record { level = level; point = record { x = pos x; y = pos y } }

-- pin k round a vertex
abbrev pub pin_at : ℕ → ℕ → ℕ → ℕ → Pin
pin_at k level x y = record { comp = []; pin = []; rects = []; entries = record { vertex = at level x y; kind = AtPin k } ∷ [] }

abbrev pub net_of : List ℕ → NetKind → ℕ → List Pin → Net
net_of name kind close pins = record { name = name; pins = pins; guide = (0, die) ∷ (1, die) ∷ []; kind = kind; close = close }

abbrev pub chip_of : List Net → List Shape → Design
chip_of nets fixed = record { tech = tech; tracks = record { lines = lines ∷ lines ∷ []; largest_step = pos 200 ∷ pos 200 ∷ [] }; grid = record { die = die; tile = pos 6400 }; nets = nets; fixed = fixed; options = record { via = 1000; tile = pos 6400; rips = 3 }; skipped = [] }

abbrev pub chip : List Pin → List Shape → Design
chip pins fixed = chip_of (net_of (codes "a") Routable 0 pins ∷ []) fixed

abbrev pub along : ℕ → ℕ → ℕ → Edge
along level x y = record { kind = Along; to = at level x y }

abbrev pub by_via : ℕ → ℕ → ℕ → Edge
by_via level x y = record { kind = ByVia 0; to = at level x y }

abbrev pub from_pin : ℕ → ℕ → ℕ → ℕ → Entry
from_pin k level x y = record { vertex = at level x y; kind = AtPin k }

-- ---- a wire from (100, 100) on the lower level to (900, 500) on the upper one

abbrev pub corner_chip : Design
corner_chip = chip (pin_at 0 0 100 100 ∷ pin_at 1 1 900 500 ∷ []) []

abbrev pub corner : Walk
corner = record {
  start = from_pin 0 0 100 100;
  edges = along 0 300 100 ∷ along 0 500 100 ∷ along 0 700 100 ∷ along 0 900 100 ∷ by_via 1 900 100 ∷ along 1 900 300 ∷ along 1 900 500 ∷ [];
  finish = from_pin 1 1 900 500;
}

-- the same with a stub from the pin's corner (150, 150)
abbrev pub stub_pin : Pin
stub_pin = record { comp = []; pin = []; rects = (no 0, sides (pos 150) (pos 150) (pos 160) (pos 160)) ∷ []; entries = record { vertex = at 0 100 100; kind = Stub 0 0 } ∷ [] }

abbrev pub stubbed : Walk
stubbed = record corner { start = record { vertex = at 0 100 100; kind = Stub 0 0 } }

-- ---- a wire of net a that is ripped for one of net b, and finds another way

abbrev pub crossed_chip : Design
crossed_chip = chip_of (net_of (codes "a") Routable 0 (pin_at 0 1 300 100 ∷ pin_at 1 1 900 100 ∷ []) ∷ net_of (codes "b") Routable 0 (pin_at 0 0 100 100 ∷ pin_at 1 0 1100 100 ∷ []) ∷ []) []

abbrev pub short_way : Walk
short_way = record {
  start = from_pin 0 1 300 100;
  edges = by_via 0 300 100 ∷ along 0 500 100 ∷ along 0 700 100 ∷ along 0 900 100 ∷ by_via 1 900 100 ∷ [];
  finish = from_pin 1 1 900 100;
}

abbrev pub straight_way : Walk
straight_way = record {
  start = from_pin 0 0 100 100;
  edges = along 0 300 100 ∷ along 0 500 100 ∷ along 0 700 100 ∷ along 0 900 100 ∷ along 0 1100 100 ∷ [];
  finish = from_pin 1 0 1100 100;
}

abbrev pub way_round : Walk
way_round = record {
  start = from_pin 0 1 300 100;
  edges = along 1 300 300 ∷ by_via 0 300 300 ∷ along 0 500 300 ∷ along 0 700 300 ∷ along 0 900 300 ∷ by_via 1 900 300 ∷ along 1 900 100 ∷ [];
  finish = from_pin 1 1 900 100;
}

abbrev pub crossed_blocks : List Block
crossed_blocks = Wire 0 short_way ∷ RipFor 1 straight_way (0 ∷ []) straight_way ∷ Wire 0 way_round ∷ []
