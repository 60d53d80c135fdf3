-- Statements and items without positions take the same words.
use Rattle.std.proofs.Common.{ℕ, List}
use Rattle.rt_forms.specs.Form.{loop}
use Rattle.def_text.specs.declared.kinds.PinOption.{PinOption}
use Rattle.def_text.specs.declared.kinds.PinOption.TheVariants.{Layer, Port as PortOption, Placed, Refused as RefusedInPin, Unused as UnusedInPin}
use Rattle.def_text.specs.declared.kinds.BehindLayer.{BehindLayer}
use Rattle.def_text.specs.declared.kinds.BehindLayer.TheVariants.{Rule as LayerRule, Mask, Points}
use Rattle.def_text.specs.declared.def.Component.{Component}
use Rattle.def_text.specs.declared.def.IoPin.{IoPin}
use Rattle.def_text.specs.declared.pins.Ports.{Ports}
use Rattle.def_text.specs.declared.sections.Listed.{Listed}
use Rattle.def_text.specs.Tracks.{die, more_layers, track_layers, track_tail, track_row}
use Rattle.def_text.specs.Components.{Placing, component_option, more_component, component_item}
use Rattle.def_text.specs.Pins.{layer_rule, pin_layer, pin_port, pin_placed, pin_option_by, pin_option, more_pin, pin_item}
use Rattle.same_words.specs.Same.{Frame, Same}
use Rattle.same_words.specs.Values.{Equal, TurnsBy}
use Rattle.same_words.proofs.Combining.{same_equal_loop}
use Rattle.same_words.proofs.Skipping.{same}
use Rattle.same_words.proofs.Parts.{same_point, same_placement}

-- ---- the die and tracks

pub same_die : {f : Frame} → Same f Equal die die
unfolding die
same_die = search (same, same_point) depth 16

same_more_layers : {f : Frame} (layers : List (List ℕ)) → Same f (TurnsBy Equal) (more_layers layers) (more_layers layers)
unfolding more_layers
same_more_layers layers = search same depth 16

same_layers : {f : Frame} (layers : List (List ℕ)) → Same f Equal (loop more_layers layers) (loop more_layers layers)
same_layers layers = same_equal_loop more_layers more_layers layers same_more_layers

same_track_layers : {f : Frame} → Same f Equal track_layers track_layers
unfolding track_layers
same_track_layers = search (same, same_layers) depth 16

same_track_tail : {f : Frame} → Same f Equal track_tail track_tail
unfolding track_tail
same_track_tail = search (same, same_track_layers) depth 16

pub same_track_row : {f : Frame} → Same f Equal track_row track_row
unfolding track_row
same_track_row = search (same, same_track_tail) depth 20

-- ---- components

same_component_option : {f : Frame} (placed : Placing) → Same f Equal (component_option placed) (component_option placed)
unfolding component_option
same_component_option placed = search (same, same_placement) depth 16

same_more_component : {f : Frame} (placed : Placing) → Same f (TurnsBy Equal) (more_component placed) (more_component placed)
unfolding more_component
same_more_component placed = search (same, same_component_option) depth 16

same_component_options : {f : Frame} (placed : Placing) → Same f Equal (loop more_component placed) (loop more_component placed)
same_component_options placed = same_equal_loop more_component more_component placed same_more_component

pub same_component_item : {f : Frame} (listed : Listed Component) → Same f Equal (component_item listed) (component_item listed)
unfolding component_item
same_component_item listed = search (same, same_component_options) depth 16

-- ---- pins

same_layer_rule : {f : Frame} (kind : BehindLayer) → Same f Equal (layer_rule kind) (layer_rule kind)
same_layer_rule Points = search same depth 16
same_layer_rule Mask = search same depth 16
same_layer_rule LayerRule = search same depth 16

same_pin_layer : {f : Frame} (ports : Ports) → Same f Equal (pin_layer ports) (pin_layer ports)
unfolding pin_layer
same_pin_layer ports = search (same, same_layer_rule, same_point) depth 20

same_pin_port : {f : Frame} (ports : Ports) → Same f Equal (pin_port ports) (pin_port ports)
unfolding pin_port
same_pin_port ports = search same depth 16

same_pin_placed : {f : Frame} (ports : Ports) → Same f Equal (pin_placed ports) (pin_placed ports)
unfolding pin_placed
same_pin_placed ports = search (same, same_placement) depth 16

same_pin_option_by : {f : Frame} (kind : PinOption) (ports : Ports) → Same f Equal (pin_option_by kind ports) (pin_option_by kind ports)
same_pin_option_by Layer ports = same_pin_layer ports
same_pin_option_by PortOption ports = same_pin_port ports
same_pin_option_by Placed ports = same_pin_placed ports
same_pin_option_by RefusedInPin ports = search same depth 16
same_pin_option_by UnusedInPin ports = search same depth 16

same_pin_option : {f : Frame} (ports : Ports) → Same f Equal (pin_option ports) (pin_option ports)
unfolding pin_option
same_pin_option ports = search (same, same_pin_option_by) depth 16

same_more_pin : {f : Frame} (ports : Ports) → Same f (TurnsBy Equal) (more_pin ports) (more_pin ports)
unfolding more_pin
same_more_pin ports = search (same, same_pin_option) depth 16

same_pin_options : {f : Frame} (ports : Ports) → Same f Equal (loop more_pin ports) (loop more_pin ports)
same_pin_options ports = same_equal_loop more_pin more_pin ports same_more_pin

pub same_pin_item : {f : Frame} (listed : Listed IoPin) → Same f Equal (pin_item listed) (pin_item listed)
unfolding pin_item
same_pin_item listed = search (same, same_pin_options) depth 16
