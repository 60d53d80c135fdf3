-- The report: ten counts, and then what was skipped, which nets have no path and which have no guide.
use Rattle.std.specs.Prelude.{ℕ, ◌+◌, decimal, Bool, true, false, ◌&&◌, not, if◌then◌else◌, List, [], ◌∷◌, ◌++◌, codes, length, flat_map, count_by, sum_by, ◌==◌}
use Rattle.std.specs.List.{enumerate_from, zip}
use Rattle.rt_base.specs.declared.walk.Edge.{Edge}
use Rattle.rt_base.specs.declared.walk.EdgeKind.{EdgeKind}
use Rattle.rt_base.specs.declared.walk.EdgeKind.TheVariants.{Along, Via as ByVia}
use Rattle.rt_base.specs.declared.walk.EntryKind.{EntryKind}
use Rattle.rt_base.specs.declared.walk.EntryKind.TheVariants.{Pin as AtPin, Stub, Wire as OnWire}
use Rattle.rt_base.specs.declared.walk.Vertex.{Vertex}
use Rattle.rt_base.specs.declared.walk.Walk.{Walk}
use Rattle.track_graph.specs.declared.design.Design.{Design}
use Rattle.track_graph.specs.declared.design.Net.{Net}
use Rattle.track_graph.specs.declared.design.NetKind.{NetKind}
use Rattle.track_graph.specs.declared.design.NetKind.TheVariants.{Routable, Prewired, Unguided, Single}
use Rattle.track_graph.specs.declared.history.Block.{Block}
use Rattle.track_graph.specs.declared.history.Block.TheVariants.{Wire, Stuck, RipFor}
use Rattle.track_graph.specs.declared.history.NetState.{NetState}
use Rattle.track_graph.specs.declared.history.State.{State}
use Rattle.rt_base.specs.Geometry.{distance, nearest_point}
use Rattle.track_graph.specs.Entries.{rect_of}
use Rattle.track_graph.specs.Histories.{all_joined}
use Rattle.track_graph.specs.States.{state_of}

-- the net is to be routed
abbrev pub is_routable : NetKind → Bool
is_routable Routable = true
is_routable Prewired = false
is_routable Unguided = false
is_routable Single = false

-- the net has wiring already
abbrev pub is_prewired : NetKind → Bool
is_prewired Routable = false
is_prewired Prewired = true
is_prewired Unguided = false
is_prewired Single = false

-- the net has no guide
abbrev pub is_unguided : NetKind → Bool
is_unguided Routable = false
is_unguided Prewired = false
is_unguided Unguided = true
is_unguided Single = false

-- the net has fewer than two pins
abbrev pub is_single : NetKind → Bool
is_single Routable = false
is_single Prewired = false
is_single Unguided = false
is_single Single = true

-- a routable net, all of whose pins are joined, or not
abbrev pub is_done : Net × NetState → Bool
is_done (net, state) = is_routable net.kind && all_joined state

abbrev pub is_open : Net × NetState → Bool
is_open (net, state) = is_routable net.kind && not (all_joined state)

-- how many nets a block rips
abbrev pub rips_of : Block → ℕ
rips_of (Wire n w) = 0
rips_of (Stuck n) = 0
rips_of (RipFor n soft ripped w) = length ripped

-- the length of a stub
abbrev pub kind_wire : Design → ℕ → EntryKind → Vertex → ℕ
kind_wire d n (AtPin pin) v = 0
kind_wire d n (Stub pin k) v = distance (nearest_point (rect_of d n pin k) v.point) v.point
kind_wire d n OnWire v = 0

-- the length of an edge along a track; a via has none
abbrev pub edge_wire : EdgeKind → Vertex → Vertex → ℕ
edge_wire Along v w = distance v.point w.point
edge_wire (ByVia k) v w = 0

-- the length of edges that follow each other from a vertex on
abbrev pub path_wire : Vertex → List Edge → ℕ
path_wire v [] = 0
path_wire v (e ∷ es) = edge_wire e.kind v e.to + path_wire e.to es

-- the length of a walk along tracks and of its stubs
abbrev pub walk_wire : Design → ℕ → Walk → ℕ
walk_wire d n w = kind_wire d n w.start.kind w.start.vertex + path_wire w.start.vertex w.edges + kind_wire d n w.finish.kind w.finish.vertex

-- the edge is a via
abbrev pub is_via : EdgeKind → Bool
is_via Along = false
is_via (ByVia k) = true

-- how many vias a walk has
abbrev pub walk_vias : Walk → ℕ
walk_vias w = count_by (λ (e : Edge). is_via e.kind) w.edges

-- the length of the standing walks of a net and of their stubs
abbrev pub net_wire : Design → ℕ × NetState → ℕ
net_wire d (n, state) = sum_by (walk_wire d n) state.walks

-- how many vias the standing walks of a net have
abbrev pub net_vias : NetState → ℕ
net_vias state = sum_by walk_vias state.walks

-- a word, a space and a number, on a line
abbrev pub count_line : List ℕ → ℕ → List ℕ
count_line word n = word ++ codes " " ++ decimal n ++ codes "\n"

-- a word, a space and a name, on a line
abbrev pub name_line : List ℕ → List ℕ → List ℕ
name_line word name = word ++ codes " " ++ name ++ codes "\n"

-- nothing where the count is 0
abbrev pub skipped_line : List ℕ × ℕ → List ℕ
skipped_line (name, n) = if n == 0 then [] else codes "skipped-in " ++ count_line name n

-- nothing unless the net is to be routed and has a pin that isn't joined
abbrev pub no_path_line : Net × NetState → List ℕ
no_path_line (net, state) = if is_open (net, state) then name_line (codes "no-path") net.name else []

-- nothing where the net has a guide or needs none
abbrev pub unguided_line : Net → List ℕ
unguided_line net = if is_unguided net.kind then name_line (codes "unguided-net") net.name else []

-- the nets in all, and of the routable ones those with all pins joined and the others
abbrev pub route_counts : List Net → List NetState → List ℕ
route_counts nets states =
    count_line (codes "nets") (length nets)
    ++ count_line (codes "joined") (count_by is_done (zip nets states))
    ++ count_line (codes "stuck") (count_by is_open (zip nets states))

-- the nets of the other kinds
abbrev pub other_counts : List Net → List ℕ
other_counts nets =
    count_line (codes "unguided") (count_by (λ (net : Net). is_unguided net.kind) nets)
    ++ count_line (codes "prewired") (count_by (λ (net : Net). is_prewired net.kind) nets)
    ++ count_line (codes "single") (count_by (λ (net : Net). is_single net.kind) nets)

-- how many nets there are, in all and of each kind
abbrev pub net_counts : Design → State → List ℕ
net_counts d s = route_counts d.nets s.nets ++ other_counts d.nets

-- ripped nets, lengths and vias of the standing walks, and skipped statements
abbrev pub wire_counts : Design → State → List Block → List ℕ
wire_counts d s blocks =
    count_line (codes "rips") (sum_by rips_of blocks)
    ++ count_line (codes "wire") (sum_by (net_wire d) (enumerate_from 0 s.nets))
    ++ count_line (codes "vias") (sum_by net_vias s.nets)
    ++ count_line (codes "skipped") (sum_by (λ (c : List ℕ × ℕ). c.1) d.skipped)

-- what was skipped, the nets without a path and the nets without a guide, each in file order
abbrev pub name_lines : Design → State → List ℕ
name_lines d s =
    flat_map skipped_line d.skipped
    ++ flat_map no_path_line (zip d.nets s.nets)
    ++ flat_map unguided_line d.nets

-- ten counts and the names, of a journal with this final state
abbrev pub report_of : Design → State → List Block → List ℕ
report_of d s blocks = net_counts d s ++ wire_counts d s blocks ++ name_lines d s

-- of the final state of a journal
abbrev pub report_text : Design → List Block → List ℕ
report_text d blocks = report_of d (state_of d blocks) blocks
