-- Each form is lawful.
use Rattle.std.proofs.Common.{ℕ, ℤ, List, Bool, Option, Some, None, codes}
use Rattle.rt_base.specs.declared.geometry.Point.{Point}
use Rattle.rt_base.specs.declared.orient.Orient.{Orient}
use Rattle.rt_base.specs.declared.tech.LayerNo.{LayerNo}
use Rattle.rt_base.specs.declared.tech.Tech.{Tech}
use Rattle.rt_forms.specs.Lexeme.{Place}
use Rattle.rt_forms.specs.Form.{Form, next, choose, loop, unless, no_word}
use Rattle.rt_forms.proofs.Laws.{Lawful, Takes, lawful, consuming, lawful_loop, lawful_whole, lawful_unless, consumes_unless, consumes_bind, takes_bind, takes_next, takes_admit}
use Rattle.def_wires.specs.declared.error.WireFault.{WireFault}
use Rattle.def_wires.specs.declared.words.StepWord.{StepWord}
use Rattle.def_wires.specs.declared.words.StepWord.TheVariants.{Opening, Rectangle, RefusedStep, ViaName, Other}
use Rattle.def_wires.specs.declared.words.OptionWord.{OptionWord}
use Rattle.def_wires.specs.declared.words.OptionWord.TheVariants.{Rect, Via, Shape, Lead, OtherOption}
use Rattle.def_wires.specs.declared.steps.OpenPath.{OpenPath}
use Rattle.def_wires.specs.declared.wiring.WirePath.{WirePath}
use Rattle.def_wires.specs.Paths.{extension, first_corner, next_corner, plain_point, patch, orient_or_north, orient, array, optional_array, via_step, go_step, patch_step, step_by, more_steps, ends_path, optional_word, optional_shape, regular_start, special_start, path, more_paths, all_paths}
use Rattle.def_wires.specs.Options.{rect_option, more_points, via_option, shapes_by, shapes, shape_then, after_lead, lead_then, special_by, empty_option, plus_paths, wiring, wiring_form}

lawful_extension : Lawful extension
unfolding extension
lawful_extension = search lawful depth 16

lawful_first_corner : Lawful first_corner
unfolding first_corner
lawful_first_corner = search (lawful, lawful_extension) depth 16

lawful_next_corner : (from : Point) → Lawful (next_corner from)
unfolding next_corner
lawful_next_corner from = search (lawful, lawful_extension) depth 16

pub lawful_plain_point : Lawful plain_point
unfolding plain_point
lawful_plain_point = search lawful depth 16

lawful_patch : Lawful patch
unfolding patch
lawful_patch = search lawful depth 20

lawful_orient_or : (o : Option Orient) → Lawful (orient_or_north o)
lawful_orient_or None = search lawful
lawful_orient_or (Some o) = search lawful

lawful_orient : Lawful orient
unfolding orient
lawful_orient = search (lawful, lawful_orient_or)

lawful_array : Lawful array
unfolding array
lawful_array = search lawful depth 20

lawful_optional_array : (special : Bool) → Lawful (optional_array special)
unfolding optional_array
lawful_optional_array special = search (lawful, lawful_array) depth 16

lawful_via_step : (tech : Tech) (special : Bool) (w : Place) (p : OpenPath) → Lawful (via_step tech special w p)
unfolding via_step
lawful_via_step tech special w p = search (lawful, lawful_orient, lawful_optional_array) depth 16

lawful_go_step : (w : Place) (p : OpenPath) → Lawful (go_step w p)
unfolding go_step
lawful_go_step w p = search (lawful, lawful_next_corner) depth 16

lawful_patch_step : (p : OpenPath) → Lawful (patch_step p)
unfolding patch_step
lawful_patch_step p = search (lawful, lawful_patch)

lawful_step_by : (tech : Tech) (special : Bool) (kind : StepWord) (w : Place) (p : OpenPath) → Lawful (step_by tech special kind w p)
lawful_step_by tech special Opening w p = lawful_go_step w p
lawful_step_by tech special Rectangle w p = lawful_patch_step p
lawful_step_by tech special RefusedStep w p = search lawful
lawful_step_by tech special ViaName w p = lawful_via_step tech special w p
lawful_step_by tech special Other w p = search lawful

lawful_more_steps : (tech : Tech) (special : Bool) (p : OpenPath) → Lawful (more_steps tech special p)
unfolding more_steps
lawful_more_steps tech special p = search (lawful, lawful_step_by)

lawful_steps : (tech : Tech) (special : Bool) (p : OpenPath) → Lawful (loop (unless ends_path (more_steps tech special)) p)
unfolding more_steps
lawful_steps tech special p = lawful_loop (unless ends_path (more_steps tech special)) p (λ u. lawful_unless ends_path (more_steps tech special) u (lawful_more_steps tech special u)) (λ u. consumes_unless ends_path (more_steps tech special) u (search consuming))

lawful_optional_word : (word : List ℕ) → Lawful (optional_word word)
unfolding optional_word
lawful_optional_word word = search lawful

lawful_optional_shape : Lawful optional_shape
unfolding optional_shape
lawful_optional_shape = search lawful depth 16

lawful_regular_start : (tech : Tech) → Lawful (regular_start tech)
unfolding regular_start
lawful_regular_start tech = search (lawful, lawful_optional_word, lawful_first_corner) depth 16

lawful_special_start : (tech : Tech) → Lawful (special_start tech)
unfolding special_start
lawful_special_start tech = search (lawful, lawful_optional_shape, lawful_first_corner) depth 16

lawful_path : (tech : Tech) (special : Bool) → Lawful (path tech special)
unfolding path
lawful_path tech special = search (lawful, lawful_regular_start, lawful_special_start, lawful_steps) depth 16

lawful_more_paths : (tech : Tech) (special : Bool) (paths : List WirePath) → Lawful (more_paths tech special paths)
unfolding more_paths
lawful_more_paths tech special paths = search (lawful, lawful_path)

lawful_further_paths : (tech : Tech) (special : Bool) (paths : List WirePath) → Lawful (loop (unless no_word (more_paths tech special)) paths)
unfolding more_paths
lawful_further_paths tech special paths = lawful_loop (unless no_word (more_paths tech special)) paths (λ u. lawful_unless no_word (more_paths tech special) u (lawful_more_paths tech special u)) (λ u. consumes_unless no_word (more_paths tech special) u (search consuming))

lawful_all_paths : (tech : Tech) (special : Bool) → Lawful (all_paths tech special)
unfolding all_paths
lawful_all_paths tech special = search (lawful, lawful_path, lawful_further_paths)

-- ---- wiring that begins with `+`

lawful_rect_option : (tech : Tech) → Lawful (rect_option tech)
unfolding rect_option
lawful_rect_option tech = search (lawful, lawful_plain_point) depth 16

lawful_more_points : (layer : LayerNo) (v : ℕ) (o : Orient) (paths : List WirePath) → Lawful (more_points layer v o paths)
unfolding more_points
lawful_more_points layer v o paths = search (lawful, lawful_plain_point)

takes_plain_point : Takes plain_point
unfolding plain_point
takes_plain_point = takes_bind _ _ (takes_admit _)

lawful_further_points : (layer : LayerNo) (v : ℕ) (o : Orient) (paths : List WirePath) → Lawful (loop (unless no_word (more_points layer v o)) paths)
unfolding more_points
lawful_further_points layer v o paths = lawful_loop (unless no_word (more_points layer v o)) paths (λ u. lawful_unless no_word (more_points layer v o) u (lawful_more_points layer v o u)) (λ u. consumes_unless no_word (more_points layer v o) u (consumes_bind plain_point _ takes_plain_point))

lawful_via_option : (tech : Tech) → Lawful (via_option tech)
unfolding via_option
lawful_via_option tech = search (lawful, lawful_orient, lawful_plain_point, lawful_further_points) depth 20

lawful_shapes_by : (tech : Tech) (kind : OptionWord) (w : Place) → Lawful (shapes_by tech kind w)
lawful_shapes_by tech Rect w = lawful_rect_option tech
lawful_shapes_by tech Via w = lawful_via_option tech
lawful_shapes_by tech Shape w = search lawful
lawful_shapes_by tech Lead w = search lawful
lawful_shapes_by tech OtherOption w = search lawful

lawful_shapes : (tech : Tech) → Lawful (shapes tech)
unfolding shapes
lawful_shapes tech = search (lawful, lawful_shapes_by)

lawful_shape_then : (tech : Tech) (plus : ℕ) → Lawful (shape_then tech plus)
unfolding shape_then
lawful_shape_then tech plus = search (lawful, lawful_shapes) depth 16

lawful_after_lead : (tech : Tech) (kind : OptionWord) (plus : ℕ) (w : Place) → Lawful (after_lead tech kind plus w)
lawful_after_lead tech Rect plus w = lawful_rect_option tech
lawful_after_lead tech Via plus w = lawful_via_option tech
lawful_after_lead tech Shape plus w = lawful_shape_then tech plus
lawful_after_lead tech Lead plus w = search lawful
lawful_after_lead tech OtherOption plus w = search lawful

lawful_lead_then : (tech : Tech) → Lawful (lead_then tech)
unfolding lead_then
lawful_lead_then tech = search (lawful, lawful_after_lead) depth 16

lawful_special_by : (tech : Tech) (kind : OptionWord) (plus : ℕ) (w : Place) → Lawful (special_by tech kind plus w)
lawful_special_by tech Rect plus w = lawful_rect_option tech
lawful_special_by tech Via plus w = lawful_via_option tech
lawful_special_by tech Shape plus w = lawful_shape_then tech plus
lawful_special_by tech Lead plus w = lawful_lead_then tech
lawful_special_by tech OtherOption plus w = search lawful

lawful_empty_option : Lawful empty_option
lawful_empty_option = search lawful

lawful_plus_paths : (tech : Tech) (special : Bool) → Lawful (plus_paths tech special)
unfolding plus_paths
lawful_plus_paths tech special = search (lawful, lawful_special_by, lawful_empty_option) depth 16

lawful_wiring : (tech : Tech) (special : Bool) → Lawful (wiring tech special)
unfolding wiring
lawful_wiring tech special = search (lawful, lawful_plus_paths, lawful_all_paths) depth 16

pub lawful_wiring_form : (tech : Tech) (special : Bool) → Lawful (wiring_form tech special)
lawful_wiring_form tech special = lawful_whole (wiring tech special) (lawful_wiring tech special)
