-- Each form is lawful.
use Rattle.rt_forms.specs.Reading.{or_end}
use Rattle.std.proofs.Common.{ℕ, List, [], codes, Bool}
use Rattle.rt_forms.specs.Lexeme.{Place}
use Rattle.rt_forms.specs.Form.{Form, next, loop, unless, Turn, ◌>>=◌}
use Rattle.rt_forms.proofs.Laws.{Lawful, Takes, Consumes, lawful, consuming, lawful_loop, lawful_whole, lawful_unless, takes_bind, takes_next, takes_admit, consumes_bind, consumes_later, consumes_unless}
use Rattle.rt_forms.proofs.Skips.{lawful_left, lawful_up_to, lawful_up_to_pair, lawful_before}
use Rattle.def_text.specs.declared.error.DefError.{DefError}
use Rattle.def_text.specs.declared.kinds.Statement.{Statement}
use Rattle.def_text.specs.declared.kinds.Statement.TheVariants.{Units, Die, Tracks, Unused, Skipped, Extension, Vias, Components, Pins, Blockages, Special, Nets, End, Other}
use Rattle.def_text.specs.declared.kinds.PinOption.{PinOption}
use Rattle.def_text.specs.declared.kinds.PinOption.TheVariants.{Layer, Port as PortOption, Placed, Refused as RefusedInPin, Unused as UnusedInPin}
use Rattle.def_text.specs.declared.kinds.BehindLayer.{BehindLayer}
use Rattle.def_text.specs.declared.kinds.BehindLayer.TheVariants.{Rule as LayerRule, Mask, Points}
use Rattle.def_text.specs.declared.kinds.NetOption.{NetOption}
use Rattle.def_text.specs.declared.kinds.NetOption.TheVariants.{Wiring, Subnet, Rule, Unused as UnusedInNet}
use Rattle.def_text.specs.declared.kinds.SpecialOption.{SpecialOption}
use Rattle.def_text.specs.declared.kinds.SpecialOption.TheVariants.{Wired, Metal as MetalOption, Shape, Style, Refused as RefusedInSpecial, Unused as UnusedInSpecial}
use Rattle.def_text.specs.declared.special.OpenSpecial.{OpenSpecial}
use Rattle.def_text.specs.declared.def.Component.{Component}
use Rattle.def_text.specs.declared.def.DefVia.{DefVia}
use Rattle.def_text.specs.declared.def.IoPin.{IoPin}
use Rattle.def_text.specs.declared.def.DefNet.{DefNet}
use Rattle.def_text.specs.declared.pins.Ports.{Ports}
use Rattle.def_text.specs.declared.nets.OpenNet.{OpenNet}
use Rattle.def_text.specs.declared.sections.Listed.{Listed}
use Rattle.def_text.specs.declared.statements.Parsed.{Parsed}
use Rattle.def_text.specs.declared.blockages.BlockageOption.{BlockageOption}
use Rattle.def_text.specs.declared.blockages.BlockageOption.TheVariants.{Drops, Rule as MarkRule, Unused as UnusedMark}
use Rattle.def_text.specs.declared.blockages.Marks.{Marks}
use Rattle.def_text.specs.declared.blockages.Blocked.{Blocked}
use Rattle.def_text.specs.Blockages.{skip_word, ends_mark, mark_rest, mark_by, more_marks, no_mark, blockage_polygon, blockage_shape, more_shapes, blockage_shapes, blockage_layer, blockage_item, more_blockages}
use Rattle.def_text.specs.Defs.{Metal}
use Rattle.def_text.specs.Parts.{point, no_bracket, placement, here, option_tail}
use Rattle.def_text.specs.Wiring.{wiring_range}
use Rattle.def_text.specs.Vias.{via_item}
use Rattle.def_text.specs.Components.{Placing, component_option, more_component, component_item}
use Rattle.def_text.specs.Polygons.{more_points, four_points, polygon_points, polygon}
use Rattle.def_text.specs.Special.{special_connection, special_connections, special_wired, special_metal, loose_shape, wiring_shape, special_shape, special_unused, special_option_by, special_option, more_special, special_item}
use Rattle.def_text.proofs.Words.{lawful_word_left}
use Rattle.rt_base.specs.declared.geometry.Point.{Point}
use Rattle.def_text.specs.Tracks.{die, more_layers, track_layers, track_tail, track_row}
use Rattle.def_text.specs.Sections.{section_end, more_items, said_count}
use Rattle.def_text.specs.Pins.{layer_rule, pin_layer, pin_port, pin_placed, pin_option_by, pin_option, more_pin, pin_item}
use Rattle.def_text.specs.Nets.{connection_tail, connection, connections, net_wiring, net_option_by, net_option, more_net, net_item}
use Rattle.def_text.specs.Texts.{units_statement, die_statement, tracks_statement, vias_section, components_section, pins_section, special_section, nets_section, statement_by, statement, a_def, def_form, until_units, units_form, blockages_section}

lawful_point : Lawful point
unfolding point
lawful_point = search lawful depth 16

lawful_placement : Lawful placement
unfolding placement
lawful_placement = search (lawful, lawful_point) depth 16

lawful_here : (total : ℕ) → Lawful (here total)
lawful_here total = search (lawful, lawful_left)

consumes_here : {S : Type 0} (total : ℕ) (G : ℕ → Form DefError (Turn S)) → ((at : ℕ) → Consumes (G at)) → Consumes (here total >>= G)
consumes_here total G c = consumes_later (here total) G c

lawful_option_tail : Lawful option_tail
lawful_option_tail = search (lawful, lawful_before)

lawful_wiring_range : (total plus : ℕ) → Lawful (wiring_range total plus)
unfolding wiring_range
lawful_wiring_range total plus = search (lawful, lawful_here, lawful_option_tail) depth 16

lawful_die : Lawful die
unfolding die
lawful_die = search (lawful, lawful_point) depth 16

lawful_more_layers : (layers : List (List ℕ)) → Lawful (more_layers layers)
unfolding more_layers
lawful_more_layers layers = search lawful depth 16

lawful_layers : (layers : List (List ℕ)) → Lawful (loop more_layers layers)
unfolding more_layers
lawful_layers layers = lawful_loop more_layers layers lawful_more_layers (λ u. search consuming)

lawful_track_layers : Lawful track_layers
unfolding track_layers
lawful_track_layers = search (lawful, lawful_layers)

lawful_track_tail : Lawful track_tail
unfolding track_tail
lawful_track_tail = search (lawful, lawful_track_layers) depth 16

lawful_track_row : Lawful track_row
unfolding track_row
lawful_track_row = search (lawful, lawful_track_tail) depth 20

lawful_section_end : (section : List ℕ) (said found : ℕ) → Lawful (section_end section said found)
unfolding section_end
lawful_section_end section said found = search lawful

lawful_said_count : Lawful said_count
unfolding said_count
lawful_said_count = search lawful

lawful_more_items : {A : Type 0} (section : List ℕ) (said : ℕ) (item : Listed A → Form DefError (Listed A)) → ((l : Listed A) → Lawful (item l)) → (l : Listed A) → Lawful (more_items section said item l)
unfolding more_items
lawful_more_items section said item law l = search (lawful, law, lawful_section_end) depth 20

lawful_items : {A : Type 0} (section : List ℕ) (said : ℕ) (item : Listed A → Form DefError (Listed A)) → ((l : Listed A) → Lawful (item l)) → (l : Listed A) → Lawful (loop (more_items section said item) l)
unfolding more_items
lawful_items section said item law l = lawful_loop (more_items section said item) l (lawful_more_items section said item law) (λ u. search consuming)

-- ---- vias

lawful_via_item : (total : ℕ) (l : Listed DefVia) → Lawful (via_item total l)
unfolding via_item
lawful_via_item total l = search (lawful, lawful_here, lawful_up_to) depth 20

-- ---- components

lawful_component_option : (placed : Placing) → Lawful (component_option placed)
unfolding component_option
lawful_component_option placed = search (lawful, lawful_placement, lawful_before) depth 16

lawful_more_component : (placed : Placing) → Lawful (more_component placed)
unfolding more_component
lawful_more_component placed = search (lawful, lawful_component_option) depth 20

lawful_component_options : (placed : Placing) → Lawful (loop more_component placed)
unfolding more_component
lawful_component_options placed = lawful_loop more_component placed lawful_more_component (λ u. search consuming)

lawful_component_item : (l : Listed Component) → Lawful (component_item l)
unfolding component_item
lawful_component_item l = search (lawful, lawful_component_options) depth 16

-- ---- pins

lawful_layer_rule : (behind : BehindLayer) → Lawful (layer_rule behind)
lawful_layer_rule Points = search lawful
lawful_layer_rule Mask = search lawful
lawful_layer_rule LayerRule = search lawful

lawful_pin_layer : (ports : Ports) → Lawful (pin_layer ports)
unfolding pin_layer
lawful_pin_layer ports = search (lawful, lawful_layer_rule, lawful_point) depth 20

lawful_pin_port : (ports : Ports) → Lawful (pin_port ports)
unfolding pin_port
lawful_pin_port ports = search lawful

lawful_pin_placed : (ports : Ports) → Lawful (pin_placed ports)
unfolding pin_placed
lawful_pin_placed ports = search (lawful, lawful_placement)

lawful_pin_option_by : (kind : PinOption) (ports : Ports) → Lawful (pin_option_by kind ports)
lawful_pin_option_by Layer ports = lawful_pin_layer ports
lawful_pin_option_by PortOption ports = lawful_pin_port ports
lawful_pin_option_by Placed ports = lawful_pin_placed ports
lawful_pin_option_by RefusedInPin ports = search lawful
lawful_pin_option_by UnusedInPin ports = search (lawful, lawful_before)

lawful_pin_option : (ports : Ports) → Lawful (pin_option ports)
unfolding pin_option
lawful_pin_option ports = search (lawful, lawful_pin_option_by)

lawful_more_pin : (ports : Ports) → Lawful (more_pin ports)
unfolding more_pin
lawful_more_pin ports = search (lawful, lawful_pin_option) depth 20

lawful_ports : (ports : Ports) → Lawful (loop more_pin ports)
unfolding more_pin
lawful_ports ports = lawful_loop more_pin ports lawful_more_pin (λ u. search consuming)

lawful_pin_item : (l : Listed IoPin) → Lawful (pin_item l)
unfolding pin_item
lawful_pin_item l = search (lawful, lawful_ports) depth 16

-- ---- nets

lawful_connection_tail : Lawful connection_tail
unfolding connection_tail
lawful_connection_tail = search lawful depth 16

lawful_connection : (pins : List (List ℕ × List ℕ)) → Lawful (connection pins)
unfolding connection
lawful_connection pins = search (lawful, lawful_connection_tail) depth 20

lawful_connections : Lawful connections
unfolding connection
lawful_connections = lawful_loop (unless no_bracket connection) [] (λ u. lawful_unless no_bracket connection u (lawful_connection u)) (λ u. consumes_unless no_bracket connection u (search consuming))

lawful_net_wiring : (total plus : ℕ) (net : OpenNet) → Lawful (net_wiring total plus net)
unfolding net_wiring
lawful_net_wiring total plus net = search (lawful, lawful_wiring_range)

lawful_net_option_by : (kind : NetOption) (total plus : ℕ) (net : OpenNet) → Lawful (net_option_by kind total plus net)
lawful_net_option_by Wiring total plus net = lawful_net_wiring total plus net
lawful_net_option_by Subnet total plus net = search lawful
lawful_net_option_by Rule total plus net = search lawful
lawful_net_option_by UnusedInNet total plus net = search (lawful, lawful_before)

lawful_net_option : (total plus : ℕ) (net : OpenNet) → Lawful (net_option total plus net)
unfolding net_option
lawful_net_option total plus net = search (lawful, lawful_net_option_by)

lawful_more_net : (total : ℕ) (net : OpenNet) → Lawful (more_net total net)
unfolding more_net
lawful_more_net total net = search (lawful, lawful_here, lawful_net_option) depth 20

lawful_nets_options : (total : ℕ) (net : OpenNet) → Lawful (loop (more_net total) net)
unfolding more_net
lawful_nets_options total net = lawful_loop (more_net total) net (lawful_more_net total) (λ u. search (consuming, consumes_here))

lawful_net_item : (total : ℕ) (l : Listed DefNet) → Lawful (net_item total l)
unfolding net_item
lawful_net_item total l = search (lawful, lawful_connections, lawful_nets_options) depth 20

-- ---- special nets

lawful_special_connection : (s : Unit {0}) → Lawful (special_connection s)
unfolding special_connection
lawful_special_connection s = search (lawful, lawful_connection_tail) depth 20

lawful_special_connections : Lawful special_connections
unfolding special_connection
lawful_special_connections = lawful_loop (unless no_bracket special_connection) tt (λ u. lawful_unless no_bracket special_connection u (lawful_special_connection u)) (λ u. consumes_unless no_bracket special_connection u (search consuming))

lawful_special_wired : (total plus : ℕ) (net : OpenSpecial) → Lawful (special_wired total plus net)
unfolding special_wired
lawful_special_wired total plus net = search (lawful, lawful_here, lawful_option_tail) depth 16

lawful_special_metal : (plus : ℕ) (net : OpenSpecial) → Lawful (special_metal plus net)
unfolding special_metal
lawful_special_metal plus net = search (lawful, lawful_before)

lawful_loose_shape : Lawful loose_shape
lawful_loose_shape = search (lawful, lawful_option_tail, lawful_before) depth 16

lawful_wiring_shape : Lawful wiring_shape
lawful_wiring_shape = search (lawful, lawful_option_tail)

lawful_special_shape : (plus : ℕ) (net : OpenSpecial) → Lawful (special_shape plus net)
unfolding special_shape
lawful_special_shape plus net = search (lawful, lawful_loose_shape, lawful_wiring_shape) depth 16

lawful_special_unused : (plus : ℕ) (net : OpenSpecial) → Lawful (special_unused plus net)
unfolding special_unused
lawful_special_unused plus net = search (lawful, lawful_before)

lawful_special_option_by : (kind : SpecialOption) (total plus : ℕ) (net : OpenSpecial) → Lawful (special_option_by kind total plus net)
lawful_special_option_by Wired total plus net = lawful_special_wired total plus net
lawful_special_option_by MetalOption total plus net = lawful_special_metal plus net
lawful_special_option_by Shape total plus net = lawful_special_shape plus net
lawful_special_option_by Style total plus net = search (lawful, lawful_special_unused) depth 16
lawful_special_option_by RefusedInSpecial total plus net = search lawful
lawful_special_option_by UnusedInSpecial total plus net = lawful_special_unused plus net

lawful_special_option : (total plus : ℕ) (net : OpenSpecial) → Lawful (special_option total plus net)
unfolding special_option
lawful_special_option total plus net = search (lawful, lawful_special_option_by)

lawful_more_special : (total : ℕ) (net : OpenSpecial) → Lawful (more_special total net)
unfolding more_special
lawful_more_special total net = search (lawful, lawful_here, lawful_special_option) depth 20

lawful_special_options : (total : ℕ) (net : OpenSpecial) → Lawful (loop (more_special total) net)
unfolding more_special
lawful_special_options total net = lawful_loop (more_special total) net (lawful_more_special total) (λ u. search (consuming, consumes_here))

lawful_special_item : (total : ℕ) (l : Listed DefNet) → Lawful (special_item total l)
unfolding special_item
lawful_special_item total l = search (lawful, lawful_special_connections, lawful_special_options) depth 20

-- ---- blockages

lawful_more_points : (points : List Point) → Lawful (more_points points)
unfolding more_points
lawful_more_points points = search (lawful, lawful_point)

takes_point : Takes point
unfolding point
takes_point = takes_bind _ _ (takes_admit _)

lawful_further_points : (points : List Point) → Lawful (loop (unless no_bracket more_points) points)
unfolding more_points
lawful_further_points points = lawful_loop (unless no_bracket more_points) points (λ u. lawful_unless no_bracket more_points u (lawful_more_points u)) (λ u. consumes_unless no_bracket more_points u (consumes_bind point _ takes_point))

lawful_four_points : Lawful four_points
unfolding four_points
lawful_four_points = search (lawful, lawful_point) depth 16

lawful_polygon_points : Lawful polygon_points
unfolding polygon_points
lawful_polygon_points = search (lawful, lawful_four_points, lawful_further_points)

lawful_polygon : (w : Place) → Lawful (polygon w)
unfolding polygon
lawful_polygon w = search (lawful, lawful_polygon_points, lawful_word_left) depth 16

lawful_mark_rest : Lawful mark_rest
unfolding skip_word
lawful_mark_rest = lawful_loop (unless (or_end ends_mark) skip_word) tt (λ u. lawful_unless (or_end ends_mark) skip_word u (search lawful)) (λ u. consumes_unless (or_end ends_mark) skip_word u (search consuming))

lawful_mark_by : (kind : BlockageOption) (marks : Marks) → Lawful (mark_by kind marks)
lawful_mark_by Drops marks = search lawful
lawful_mark_by MarkRule marks = search lawful
lawful_mark_by UnusedMark marks = search (lawful, lawful_mark_rest)

lawful_more_marks : (marks : Marks) → Lawful (more_marks marks)
unfolding more_marks
lawful_more_marks marks = search (lawful, lawful_mark_by) depth 16

lawful_marks : (marks : Marks) → Lawful (loop (unless no_mark more_marks) marks)
unfolding more_marks
lawful_marks marks = lawful_loop (unless no_mark more_marks) marks (λ u. lawful_unless no_mark more_marks u (lawful_more_marks u)) (λ u. consumes_unless no_mark more_marks u (search consuming))

lawful_blockage_polygon : (layer : List ℕ) (dropped : Bool) (w : Place) (metal : List Metal) → Lawful (blockage_polygon layer dropped w metal)
unfolding blockage_polygon
lawful_blockage_polygon layer dropped w metal = search (lawful, lawful_polygon)

lawful_shape : (layer : List ℕ) (dropped : Bool) (w : Place) (metal : List Metal) → Lawful (blockage_shape layer dropped w metal)
unfolding blockage_shape
lawful_shape layer dropped w metal = search (lawful, lawful_point, lawful_blockage_polygon) depth 16

lawful_more_shapes : (layer : List ℕ) (dropped : Bool) (metal : List Metal) → Lawful (more_shapes layer dropped metal)
unfolding more_shapes
lawful_more_shapes layer dropped metal = search (lawful, lawful_shape) depth 16

lawful_further_shapes : (layer : List ℕ) (dropped : Bool) (metal : List Metal) → Lawful (loop (more_shapes layer dropped) metal)
unfolding more_shapes
lawful_further_shapes layer dropped metal = lawful_loop (more_shapes layer dropped) metal (lawful_more_shapes layer dropped) (λ u. search consuming)

lawful_shapes : (layer : List ℕ) (dropped : Bool) (metal : List Metal) → Lawful (blockage_shapes layer dropped metal)
unfolding blockage_shapes
lawful_shapes layer dropped metal = search (lawful, lawful_shape, lawful_further_shapes)

lawful_blockage_layer : (blocked : Blocked) → Lawful (blockage_layer blocked)
unfolding blockage_layer
lawful_blockage_layer blocked = search (lawful, lawful_marks, lawful_shapes) depth 16

lawful_blockage_item : (blocked : Blocked) → Lawful (blockage_item blocked)
unfolding blockage_item
lawful_blockage_item blocked = search (lawful, lawful_blockage_layer, lawful_up_to) depth 16

lawful_more_blockages : (said : ℕ) (blocked : Blocked) → Lawful (more_blockages said blocked)
unfolding more_blockages
lawful_more_blockages said blocked = search (lawful, lawful_blockage_item, lawful_section_end) depth 20

lawful_blockages : (said : ℕ) (blocked : Blocked) → Lawful (loop (more_blockages said) blocked)
unfolding more_blockages
lawful_blockages said blocked = lawful_loop (more_blockages said) blocked (lawful_more_blockages said) (λ u. search consuming)

lawful_blockages_section : (w : Place) (s : Parsed) → Lawful (blockages_section w s)
unfolding blockages_section
lawful_blockages_section w s = search (lawful, lawful_said_count, lawful_blockages) depth 16

-- ---- texts

lawful_pins : (said : ℕ) (l : Listed IoPin) → Lawful (loop (more_items (codes "PINS") said pin_item) l)
lawful_pins said l = lawful_items (codes "PINS") said pin_item lawful_pin_item l

lawful_vias : (total said : ℕ) (l : Listed DefVia) → Lawful (loop (more_items (codes "VIAS") said (via_item total)) l)
lawful_vias total said l = lawful_items (codes "VIAS") said (via_item total) (lawful_via_item total) l

lawful_components : (said : ℕ) (l : Listed Component) → Lawful (loop (more_items (codes "COMPONENTS") said component_item) l)
lawful_components said l = lawful_items (codes "COMPONENTS") said component_item lawful_component_item l

lawful_specials : (total said : ℕ) (l : Listed DefNet) → Lawful (loop (more_items (codes "SPECIALNETS") said (special_item total)) l)
lawful_specials total said l = lawful_items (codes "SPECIALNETS") said (special_item total) (lawful_special_item total) l

lawful_nets : (total said : ℕ) (l : Listed DefNet) → Lawful (loop (more_items (codes "NETS") said (net_item total)) l)
lawful_nets total said l = lawful_items (codes "NETS") said (net_item total) (lawful_net_item total) l

lawful_units_statement : (w : Place) (s : Parsed) → Lawful (units_statement w s)
unfolding units_statement
lawful_units_statement w s = search lawful depth 20

lawful_die_statement : (w : Place) (s : Parsed) → Lawful (die_statement w s)
unfolding die_statement
lawful_die_statement w s = search (lawful, lawful_die)

lawful_tracks_statement : (s : Parsed) → Lawful (tracks_statement s)
unfolding tracks_statement
lawful_tracks_statement s = search (lawful, lawful_track_row)

lawful_vias_section : (w : Place) (s : Parsed) → Lawful (vias_section w s)
unfolding vias_section
lawful_vias_section w s = search (lawful, lawful_said_count, lawful_vias) depth 16

lawful_components_section : (w : Place) (s : Parsed) → Lawful (components_section w s)
unfolding components_section
lawful_components_section w s = search (lawful, lawful_said_count, lawful_components) depth 16

lawful_special_section : (w : Place) (s : Parsed) → Lawful (special_section w s)
unfolding special_section
lawful_special_section w s = search (lawful, lawful_said_count, lawful_specials) depth 16

lawful_pins_section : (w : Place) (s : Parsed) → Lawful (pins_section w s)
unfolding pins_section
lawful_pins_section w s = search (lawful, lawful_said_count, lawful_pins) depth 16

lawful_nets_section : (w : Place) (s : Parsed) → Lawful (nets_section w s)
unfolding nets_section
lawful_nets_section w s = search (lawful, lawful_said_count, lawful_nets) depth 16

lawful_statement_by : (kind : Statement) (w : Place) (s : Parsed) → Lawful (statement_by kind w s)
lawful_statement_by Units w s = lawful_units_statement w s
lawful_statement_by Die w s = lawful_die_statement w s
lawful_statement_by Tracks w s = lawful_tracks_statement s
lawful_statement_by Vias w s = lawful_vias_section w s
lawful_statement_by Components w s = lawful_components_section w s
lawful_statement_by Pins w s = lawful_pins_section w s
lawful_statement_by Blockages w s = lawful_blockages_section w s
lawful_statement_by Special w s = lawful_special_section w s
lawful_statement_by Nets w s = lawful_nets_section w s
lawful_statement_by Unused w s = search (lawful, lawful_up_to)
lawful_statement_by Skipped w s = search (lawful, lawful_up_to_pair)
lawful_statement_by Extension w s = search (lawful, lawful_up_to)
lawful_statement_by End w s = search lawful
lawful_statement_by Other w s = search lawful

pub lawful_statement : (s : Parsed) → Lawful (statement s)
unfolding statement
lawful_statement s = search (lawful, lawful_statement_by)

takes_statement : (s : Parsed) → Takes (statement s)
unfolding statement
takes_statement s = takes_bind next _ takes_next

lawful_statements : (s : Parsed) → Lawful (loop statement s)
unfolding statement
lawful_statements s = lawful_loop statement s lawful_statement (λ u. search consuming)

lawful_a_def : Lawful a_def
unfolding a_def
lawful_a_def = search (lawful, lawful_left, lawful_statements) depth 16

pub lawful_def : Lawful def_form
lawful_def = lawful_whole a_def lawful_a_def

lawful_until_units : (s : Parsed) → Lawful (until_units s)
unfolding until_units
lawful_until_units s = search (lawful, lawful_statement)

lawful_before_units : (s : Parsed) → Lawful (loop until_units s)
unfolding until_units
lawful_before_units s = lawful_loop until_units s lawful_until_units (λ u. consumes_bind (statement u) _ (takes_statement u))

pub lawful_units : Lawful units_form
unfolding units_form
lawful_units = search (lawful, lawful_left, lawful_before_units)
