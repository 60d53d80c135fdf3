-- Polygons and blockages take the same words.
use Rattle.std.proofs.Common.{ℕ, Bool, List, refl, ap, ◌∙◌}
use Rattle.rt_base.specs.declared.geometry.Point.{Point}
use Rattle.rt_forms.specs.Form.{loop, unless}
use Rattle.rt_forms.specs.Reading.{or_end}
use Rattle.rt_forms.proofs.Laws.{Takes, takes_bind, takes_next}
use Rattle.def_text.specs.declared.error.DefError.{DefError}
use Rattle.def_text.specs.declared.blockages.BlockageOption.{BlockageOption}
use Rattle.def_text.specs.declared.blockages.BlockageOption.TheVariants.{Drops, Rule, Unused}
use Rattle.def_text.specs.declared.blockages.Marks.{Marks}
use Rattle.def_text.specs.declared.blockages.Blocked.{Blocked}
use Rattle.def_text.specs.Defs.{Metal}
use Rattle.def_text.specs.Parts.{no_bracket}
use Rattle.def_text.specs.Polygons.{more_points, four_points, polygon_points, polygon, a_word_is_left}
use Rattle.def_text.specs.Blockages.{ends_mark, skip_word, mark_rest, mark_by, more_marks, no_mark, blockage_polygon, blockage_shape, more_shapes, blockage_shapes, blockage_layer, blockage_item, more_blockages}
use Rattle.written.specs.Cuts.{bytes_of}
use Rattle.same_words.specs.Same.{Frame, Same}
use Rattle.same_words.specs.Values.{Equal, TurnsBy, strict}
use Rattle.same_words.proofs.Combining.{same_bind, same_name, same_done, same_equal_loop, same_end, no_words}
use Rattle.same_words.proofs.Skipping.{same, same_unless, same_ahead}
use Rattle.same_words.proofs.Parts.{same_point, same_section_end}

-- ---- polygons

same_more_points : {f : Frame} (points : List Point) → Same f (TurnsBy Equal) (more_points points) (more_points points)
unfolding more_points
same_more_points points = search (same, same_point) depth 16

same_four_points : {f : Frame} → Same f Equal four_points four_points
unfolding four_points
same_four_points = search (same, same_point) depth 16

same_further_points : {f : Frame} (points : List Point) → Same f Equal (loop (unless no_bracket more_points) points) (loop (unless no_bracket more_points) points)
same_further_points points = same_equal_loop _ _ points (λ s. same_unless no_bracket more_points more_points s s (λ line first line' first' word. refl) (λ lax line first line' first'. refl) refl (same_more_points s))

same_polygon_points : {f : Frame} → Same f Equal polygon_points polygon_points
unfolding polygon_points
same_polygon_points = search (same, same_four_points, same_further_points) depth 16

same_word_left : {f : Frame} → Same f Equal (a_word_is_left {E = DefError}) a_word_is_left
same_word_left {f} = record { again = λ front front' rest rest' a e i t h. (a, refl, (no_words front' (e ∙ ap bytes_of h.0), same_end f.lax rest rest' t.first ∙ h.1)) }

same_polygon : {f : Frame} (line first line' first' : ℕ) (word : List ℕ) → Same f Equal (polygon (record { line = line; first = first; word = word })) (polygon (record { line = line'; first = first'; word = word }))
unfolding polygon
same_polygon line first line' first' word = search (same, same_polygon_points, same_word_left) depth 16

-- ---- blockages

same_skip_word : {f : Frame} (s : Unit {0}) → Same f (TurnsBy Equal) (skip_word s) (skip_word s)
unfolding skip_word
same_skip_word s = search same depth 16

same_mark_rest : {f : Frame} → Same f Equal mark_rest mark_rest
same_mark_rest = same_equal_loop _ _ tt (λ s. same_unless (or_end ends_mark) skip_word skip_word s s (λ line first line' first' word. refl) (λ lax line first line' first'. refl) refl (same_skip_word s))

same_mark_by : {f : Frame} (kind : BlockageOption) (marks : Marks) → Same f Equal (mark_by kind marks) (mark_by kind marks)
same_mark_by Drops marks = search same depth 16
same_mark_by Rule marks = search same depth 16
same_mark_by Unused marks = search (same, same_mark_rest) depth 16

same_more_marks : {f : Frame} (marks : Marks) → Same f (TurnsBy Equal) (more_marks marks) (more_marks marks)
unfolding more_marks
same_more_marks marks = search (same, same_mark_by) depth 16

-- `;` and `+` differ behind an option, so both texts go on with the same word there
same_marks : (f : Frame) (marks : Marks) → Same (strict f) Equal (loop (unless no_mark more_marks) marks) (loop (unless no_mark more_marks) marks)
same_marks f marks = same_equal_loop _ _ marks (λ s. same_unless no_mark more_marks more_marks s s (λ line first line' first' word. refl) (λ lax line first line' first'. absurd cc) refl (same_more_marks s))

same_blockage_polygon : {f : Frame} (layer : List ℕ) (dropped : Bool) (line first line' first' : ℕ) (word : List ℕ) (metal : List Metal) → Same f Equal (blockage_polygon layer dropped (record { line = line; first = first; word = word }) metal) (blockage_polygon layer dropped (record { line = line'; first = first'; word = word }) metal)
unfolding blockage_polygon
same_blockage_polygon layer dropped line first line' first' word metal = search (same, same_polygon) depth 16

same_blockage_shape : {f : Frame} (layer : List ℕ) (dropped : Bool) (line first line' first' : ℕ) (word : List ℕ) (metal : List Metal) → Same f Equal (blockage_shape layer dropped (record { line = line; first = first; word = word }) metal) (blockage_shape layer dropped (record { line = line'; first = first'; word = word }) metal)
unfolding blockage_shape
same_blockage_shape layer dropped line first line' first' word metal = search (same, same_blockage_polygon, same_point) depth 16

same_more_shapes : {f : Frame} (layer : List ℕ) (dropped : Bool) (metal : List Metal) → Same f (TurnsBy Equal) (more_shapes layer dropped metal) (more_shapes layer dropped metal)
unfolding more_shapes
same_more_shapes layer dropped metal = search (same, same_blockage_shape) depth 16

same_further_shapes : {f : Frame} (layer : List ℕ) (dropped : Bool) (metal : List Metal) → Same f Equal (loop (more_shapes layer dropped) metal) (loop (more_shapes layer dropped) metal)
same_further_shapes layer dropped metal = same_equal_loop _ _ metal (same_more_shapes layer dropped)

same_blockage_shapes : {f : Frame} (layer : List ℕ) (dropped : Bool) (metal : List Metal) → Same f Equal (blockage_shapes layer dropped metal) (blockage_shapes layer dropped metal)
unfolding blockage_shapes
same_blockage_shapes layer dropped metal = search (same, same_blockage_shape, same_further_shapes) depth 16

takes_blockage_shapes : (layer : List ℕ) (dropped : Bool) (metal : List Metal) → Takes (blockage_shapes layer dropped metal)
unfolding blockage_shapes
takes_blockage_shapes layer dropped metal = takes_bind _ _ takes_next

same_blockage_layer : {f : Frame} (blocked : Blocked) → Same f Equal (blockage_layer blocked) (blockage_layer blocked)
unfolding blockage_layer
same_blockage_layer {f} blocked =
    same_name _ _ (λ line first line' first' layer.
    same_ahead _ _ _ _ (λ marks. takes_bind _ _ (takes_blockage_shapes layer marks.dropped blocked.metal)) (same_marks f _) (λ marks.
    same_bind _ _ _ _ (same_blockage_shapes layer marks.dropped blocked.metal) (λ metal.
    same_done _ _ refl)))

same_blockage_item : {f : Frame} (blocked : Blocked) → Same f Equal (blockage_item blocked) (blockage_item blocked)
unfolding blockage_item
same_blockage_item blocked = search (same, same_blockage_layer) depth 16

pub same_more_blockages : {f : Frame} (said : ℕ) (blocked : Blocked) → Same f (TurnsBy Equal) (more_blockages said blocked) (more_blockages said blocked)
unfolding more_blockages
same_more_blockages said blocked = search (same, same_blockage_item, same_section_end) depth 16

pub same_all_blockages : {f : Frame} (said : ℕ) (blocked : Blocked) → Same f Equal (loop (more_blockages said) blocked) (loop (more_blockages said) blocked)
same_all_blockages said blocked = same_equal_loop _ _ blocked (same_more_blockages said)
