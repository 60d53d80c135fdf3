-- The journal as a text, a line for each thing: `journal 1`, and then the blocks in order.
use Rattle.std.specs.Prelude.{ℕ, decimal, List, ◌++◌, codes, flat_map}
use Rattle.std.specs.Fmt.{signed_decimal}
use Rattle.rt_base.specs.declared.geometry.Point.{Point}
use Rattle.rt_base.specs.declared.tech.Tech.{Tech}
use Rattle.rt_base.specs.declared.walk.Entry.{Entry}
use Rattle.rt_base.specs.declared.walk.EntryKind.{EntryKind}
use Rattle.rt_base.specs.declared.walk.EntryKind.TheVariants.{Pin as AtPin, Stub, Wire as OnWire}
use Rattle.rt_base.specs.declared.walk.Vertex.{Vertex}
use Rattle.rt_base.specs.declared.walk.Walk.{Walk}
use Rattle.track_graph.specs.declared.design.Design.{Design}
use Rattle.track_graph.specs.declared.history.Block.{Block}
use Rattle.track_graph.specs.declared.history.Block.TheVariants.{Wire, Stuck, RipFor}
use Rattle.track_graph.specs.declared.history.Stroke.{Stroke}
use Rattle.track_graph.specs.declared.history.Stroke.TheVariants.{Run, Via as ViaAt}
use Rattle.track_graph.specs.Entries.{net_name_of}
use Rattle.track_graph.specs.Levels.{layer_name_of}
use Rattle.track_graph.specs.Metal.{via_name_of}
use Rattle.track_graph.specs.Strokes.{path_strokes}

-- a line with its line feed
abbrev pub line : List ℕ → List ℕ
line bytes = bytes ++ codes "\n"

-- `x y`
abbrev pub place_text : Point → List ℕ
place_text p = signed_decimal p.x ++ codes " " ++ signed_decimal p.y

-- `layer x y`
abbrev pub vertex_text : Tech → Vertex → List ℕ
vertex_text tech v = layer_name_of tech v.level ++ codes " " ++ place_text v.point

-- `pin k`, `stub k r` or `wire`
abbrev pub kind_text : EntryKind → List ℕ
kind_text (AtPin pin) = codes "pin " ++ decimal pin
kind_text (Stub pin k) = codes "stub " ++ decimal pin ++ codes " " ++ decimal k
kind_text OnWire = codes "wire"

-- `pin k layer x y`, `stub k r layer x y` or `wire layer x y`
abbrev pub entry_text : Tech → Entry → List ℕ
entry_text tech e = kind_text e.kind ++ codes " " ++ vertex_text tech e.vertex

-- `run x y` to the end of a run, or `via name`
abbrev pub stroke_line : Tech → Stroke → List ℕ
stroke_line tech (Run level a b) = line (codes "run " ++ place_text b)
stroke_line tech (ViaAt k p) = line (codes "via " ++ via_name_of tech k)

-- a word and an entry
abbrev pub entry_line : List ℕ → Tech → Entry → List ℕ
entry_line word tech e = line (word ++ entry_text tech e)

-- a line `from` entry, a line for each stroke of the edges, and a line `to` entry
abbrev pub walk_lines : Tech → Walk → List ℕ
walk_lines tech w =
    entry_line (codes "from ") tech w.start
    ++ flat_map (stroke_line tech) (path_strokes w.start.vertex w.edges)
    ++ entry_line (codes "to ") tech w.finish

-- a word and a net's name
abbrev pub net_line : List ℕ → Design → ℕ → List ℕ
net_line word d n = line (word ++ net_name_of d n)

-- a space and a net's name
abbrev pub ripped_text : Design → ℕ → List ℕ
ripped_text d n = codes " " ++ net_name_of d n

-- `ripped` and the nets' names
abbrev pub ripped_line : Design → List ℕ → List ℕ
ripped_line d nets = line (codes "ripped" ++ flat_map (ripped_text d) nets)

-- a line `wire`, the walk and a line `end`
abbrev pub wire_lines : Design → ℕ → Walk → List ℕ
wire_lines d n w = net_line (codes "wire ") d n ++ walk_lines d.tech w ++ line (codes "end")

-- a line `rip`, the soft walk, a line `ripped`, the walk and a line `end`
abbrev pub rip_lines : Design → ℕ → Walk → List ℕ → Walk → List ℕ
rip_lines d n soft ripped w = net_line (codes "rip ") d n ++ walk_lines d.tech soft ++ ripped_line d ripped ++ walk_lines d.tech w ++ line (codes "end")

-- the lines of a block
abbrev pub block_lines : Design → Block → List ℕ
block_lines d (Wire n w) = wire_lines d n w
block_lines d (Stuck n) = net_line (codes "stuck ") d n
block_lines d (RipFor n soft ripped w) = rip_lines d n soft ripped w

-- a line `journal 1` and the blocks in order
abbrev pub journal_lines : Design → List Block → List ℕ
journal_lines d blocks = line (codes "journal 1") ++ flat_map (block_lines d) blocks
