-- Each form of vias is lawful.
use Rattle.std.proofs.Common.{ℕ, List, Bool, Option, Some, None}
use Rattle.rt_base.specs.declared.tech.Tech.{Tech}
use Rattle.rt_shapes.specs.declared.cut_array.Generated.{Generated}
use Rattle.rt_forms.specs.Lexeme.{Place}
use Rattle.rt_forms.specs.Form.{Form, loop, unless, no_word}
use Rattle.rt_forms.proofs.Laws.{Lawful, lawful, consuming, lawful_loop, lawful_whole, lawful_unless, consumes_unless}
use Rattle.def_wires.specs.declared.via_words.ViaWord.{ViaWord}
use Rattle.def_wires.specs.declared.via_words.ViaWord.TheVariants.{Rect, Rule, CutSize, Layers, CutSpacing, Enclosure, RowCol, RefusedInVia, OtherInVia}
use Rattle.def_wires.specs.declared.vias.ViaParts.{ViaParts}
use Rattle.def_wires.specs.Meaning.{Metal}
use Rattle.def_wires.specs.Vias.{via_rect, rect_by, more_rects, pair_from, rule_part, cut_part, layers_part, spacing_part, enclosure_part, array_part, part_by, more_parts, generated_or_more, rects_then, parts_then, via_by, via_rects, named_via, via_form}
use Rattle.def_wires.proofs.Grammar.{lawful_plain_point}

lawful_via_rect : (tech : Tech) → Lawful (via_rect tech)
unfolding via_rect
lawful_via_rect tech = search (lawful, lawful_plain_point) depth 16

lawful_rect_by : (tech : Tech) (kind : ViaWord) (w : Place) (rects : List Metal) → Lawful (rect_by tech kind w rects)
lawful_rect_by tech Rect w rects = search (lawful, lawful_via_rect)
lawful_rect_by tech RefusedInVia w rects = search lawful
lawful_rect_by tech Rule w rects = search lawful
lawful_rect_by tech CutSize w rects = search lawful
lawful_rect_by tech Layers w rects = search lawful
lawful_rect_by tech CutSpacing w rects = search lawful
lawful_rect_by tech Enclosure w rects = search lawful
lawful_rect_by tech RowCol w rects = search lawful
lawful_rect_by tech OtherInVia w rects = search lawful

lawful_more_rects : (tech : Tech) (rects : List Metal) → Lawful (more_rects tech rects)
unfolding more_rects
lawful_more_rects tech rects = search (lawful, lawful_rect_by) depth 16

lawful_further_rects : (tech : Tech) (rects : List Metal) → Lawful (loop (unless no_word (more_rects tech)) rects)
unfolding more_rects
lawful_further_rects tech rects = lawful_loop (unless no_word (more_rects tech)) rects (λ u. lawful_unless no_word (more_rects tech) u (lawful_more_rects tech u)) (λ u. consumes_unless no_word (more_rects tech) u (search consuming))

lawful_rects_then : (tech : Tech) → Lawful (rects_then tech)
unfolding rects_then
lawful_rects_then tech = search (lawful, lawful_via_rect, lawful_further_rects)

lawful_pair : (low : ℕ) → Lawful (pair_from low)
unfolding pair_from
lawful_pair low = search lawful

lawful_rule : (w : Place) (p : ViaParts) → Lawful (rule_part w p)
unfolding rule_part
lawful_rule w p = search lawful depth 16

lawful_cut : (w : Place) (p : ViaParts) → Lawful (cut_part w p)
unfolding cut_part
lawful_cut w p = search (lawful, lawful_pair) depth 16

lawful_layers : (tech : Tech) (w : Place) (p : ViaParts) → Lawful (layers_part tech w p)
unfolding layers_part
lawful_layers tech w p = search lawful depth 16

lawful_spacing : (w : Place) (p : ViaParts) → Lawful (spacing_part w p)
unfolding spacing_part
lawful_spacing w p = search (lawful, lawful_pair) depth 16

lawful_enclosure : (w : Place) (p : ViaParts) → Lawful (enclosure_part w p)
unfolding enclosure_part
lawful_enclosure w p = search (lawful, lawful_pair) depth 16

lawful_rowcol : (w : Place) (p : ViaParts) → Lawful (array_part w p)
unfolding array_part
lawful_rowcol w p = search (lawful, lawful_pair) depth 16

lawful_part_by : (tech : Tech) (kind : ViaWord) (w : Place) (p : ViaParts) → Lawful (part_by tech kind w p)
lawful_part_by tech Rule w p = lawful_rule w p
lawful_part_by tech CutSize w p = lawful_cut w p
lawful_part_by tech Layers w p = lawful_layers tech w p
lawful_part_by tech CutSpacing w p = lawful_spacing w p
lawful_part_by tech Enclosure w p = lawful_enclosure w p
lawful_part_by tech RowCol w p = lawful_rowcol w p
lawful_part_by tech Rect w p = search lawful
lawful_part_by tech RefusedInVia w p = search lawful
lawful_part_by tech OtherInVia w p = search lawful

lawful_more_parts : (tech : Tech) (p : ViaParts) → Lawful (more_parts tech p)
unfolding more_parts
lawful_more_parts tech p = search (lawful, lawful_part_by) depth 16

lawful_further_parts : (tech : Tech) (p : ViaParts) → Lawful (loop (unless no_word (more_parts tech)) p)
unfolding more_parts
lawful_further_parts tech p = lawful_loop (unless no_word (more_parts tech)) p (λ u. lawful_unless no_word (more_parts tech) u (lawful_more_parts tech u)) (λ u. consumes_unless no_word (more_parts tech) u (search consuming))

lawful_generated : (form : Option Generated) → Lawful (generated_or_more form)
lawful_generated None = search lawful
lawful_generated (Some form) = search lawful

lawful_parts_then : (tech : Tech) (kind : ViaWord) (w : Place) → Lawful (parts_then tech kind w)
unfolding parts_then
lawful_parts_then tech kind w = search (lawful, lawful_part_by, lawful_further_parts, lawful_generated) depth 16

lawful_via_by : (tech : Tech) (kind : ViaWord) (w : Place) → Lawful (via_by tech kind w)
lawful_via_by tech Rect w = lawful_rects_then tech
lawful_via_by tech Rule w = lawful_parts_then tech Rule w
lawful_via_by tech CutSize w = lawful_parts_then tech CutSize w
lawful_via_by tech Layers w = lawful_parts_then tech Layers w
lawful_via_by tech CutSpacing w = lawful_parts_then tech CutSpacing w
lawful_via_by tech Enclosure w = lawful_parts_then tech Enclosure w
lawful_via_by tech RowCol w = lawful_parts_then tech RowCol w
lawful_via_by tech RefusedInVia w = lawful_parts_then tech RefusedInVia w
lawful_via_by tech OtherInVia w = lawful_parts_then tech OtherInVia w

lawful_via_rects : (tech : Tech) → Lawful (via_rects tech)
unfolding via_rects
lawful_via_rects tech = search (lawful, lawful_via_by) depth 16

lawful_named_via : (name : List ℕ) (tech : Tech) → Lawful (named_via name tech)
unfolding named_via
lawful_named_via name tech = search (lawful, lawful_via_rects)

pub lawful_via_form : (name : List ℕ) (tech : Tech) → Lawful (via_form name tech)
lawful_via_form name tech = lawful_whole (named_via name tech) (lawful_named_via name tech)
