-- BLOCKAGES (DEF 5.8, Blockages).
use Rattle.std.specs.Prelude.{ℕ, ◌+◌, List, [], ◌∷◌, ◌++◌, Bool, true, false, Err, Option, Some, None, bytes_eq, codes, map, not, ◌||◌, if◌then◌else◌}
use Rattle.rt_base.specs.Geometry.{hull_of}
use Rattle.rt_forms.specs.Lexeme.{Place}
use Rattle.rt_forms.specs.Form.{Form, next, look, check, done, ◌>>=◌, choose, loop, unless, Turn, More, Done}
use Rattle.rt_forms.specs.Reading.{a_name, is_next, or_end, rest}
use Rattle.def_text.specs.declared.error.DefError.{DefError}
use Rattle.def_text.specs.declared.error.DefError.TheVariants.{Expected}
use Rattle.def_text.specs.declared.blockages.BlockageOption.{BlockageOption}
use Rattle.def_text.specs.declared.blockages.BlockageOption.TheVariants.{Drops, Rule, Unused}
use Rattle.def_text.specs.declared.blockages.Marks.{Marks}
use Rattle.def_text.specs.declared.blockages.Blocked.{Blocked}
use Rattle.def_text.specs.Defs.{Metal}
use Rattle.def_text.specs.Parts.{a_number, point}
use Rattle.def_text.specs.Sections.{section_end}
use Rattle.def_text.specs.Polygons.{polygon}
use Rattle.rt_shapes.specs.Polygons.{slabs_of}

abbrev pub blockage_option_of : Option Place → BlockageOption
blockage_option_of None = Unused
blockage_option_of (Some w) =
    if bytes_eq w.word (codes "SLOTS") || bytes_eq w.word (codes "FILLS") then Drops
    else if bytes_eq w.word (codes "SPACING") || bytes_eq w.word (codes "DESIGNRULEWIDTH") then Rule
    else Unused

-- `+`, `;`, RECT and POLYGON end an option
abbrev pub ends_mark : List ℕ → Bool
ends_mark word = bytes_eq word (codes "+") || bytes_eq word (codes ";") || bytes_eq word (codes "RECT") || bytes_eq word (codes "POLYGON")

unfoldable pub skip_word : Unit {0} → Form DefError (Turn (Unit {0}))
skip_word s = do
  _ ← next
  done (More s)

-- all words before the first that ends an option
abbrev pub mark_rest : Form DefError (Unit {0})
mark_rest = loop (unless (or_end ends_mark) skip_word) tt

-- an option behind its `+`
abbrev pub mark_by : BlockageOption → Marks → Form DefError Marks
mark_by Drops marks = do
  _ ← next
  done (record marks { dropped = true })
mark_by Rule marks = do
  _ ← next
  _ ← a_number
  done (record marks { skipped = marks.skipped + 1 })
mark_by Unused marks = do
  _ ← mark_rest
  done marks

-- one more option
unfoldable pub more_marks : Marks → Form DefError (Turn Marks)
more_marks marks = do
  _ ← next
  w ← look
  marks' ← mark_by (blockage_option_of w) marks
  done (More marks')

-- no further option
abbrev pub no_mark : Option Place → Bool
no_mark w = not (is_next (codes "+") w)

-- rectangles of an item, which SLOTS or FILLS drops
abbrev pub kept : Bool → List Metal → List Metal
kept true metal = []
kept false metal = metal

-- points behind their word
unfoldable pub blockage_polygon : List ℕ → Bool → Place → List Metal → Form DefError (List Metal)
blockage_polygon layer dropped w metal = do
  points ← polygon w
  done (metal ++ kept dropped (map (λ sides. (layer, sides)) (slabs_of points)))

-- `RECT point point` or `POLYGON` points
unfoldable pub blockage_shape : List ℕ → Bool → Place → List Metal → Form DefError (List Metal)
blockage_shape layer dropped w metal =
    choose (bytes_eq w.word (codes "RECT")) (do
      p ← point
      q ← point
      done (metal ++ kept dropped ((layer, hull_of p q) ∷ []))) (
    choose (bytes_eq w.word (codes "POLYGON")) (blockage_polygon layer dropped w metal) (
    check (Err (Expected w.line))))

-- one more shape, or `;`
unfoldable pub more_shapes : List ℕ → Bool → List Metal → Form DefError (Turn (List Metal))
more_shapes layer dropped metal = do
  w ← next
  choose (bytes_eq w.word (codes ";")) (done (Done metal)) (do
    metal' ← blockage_shape layer dropped w metal
    done (More metal'))

-- one or more shapes, and `;`
unfoldable pub blockage_shapes : List ℕ → Bool → List Metal → Form DefError (List Metal)
blockage_shapes layer dropped metal = do
  w ← next
  first ← blockage_shape layer dropped w metal
  loop (more_shapes layer dropped) first

-- `LAYER l` options shapes `;`, behind its first word
unfoldable pub blockage_layer : Blocked → Form DefError Blocked
blockage_layer blocked = do
  layer ← a_name
  marks ← loop (unless no_mark more_marks) (record { dropped = false; skipped = blocked.skipped })
  metal ← blockage_shapes layer.word marks.dropped blocked.metal
  done (record { metal = metal; found = blocked.found + 1; skipped = marks.skipped })

-- an item behind its `-`
unfoldable pub blockage_item : Blocked → Form DefError Blocked
blockage_item blocked = do
  w ← next
  choose (bytes_eq w.word (codes "LAYER")) (blockage_layer blocked) (
      choose (bytes_eq w.word (codes "PLACEMENT")) (do
        _ ← rest
        done (record blocked { found = blocked.found + 1 })) (
      check (Err (Expected w.line))))

-- one more item, or the end
unfoldable pub more_blockages : ℕ → Blocked → Form DefError (Turn Blocked)
more_blockages said blocked = do
  w ← next
  choose (bytes_eq w.word (codes "-")) (do
    blocked' ← blockage_item blocked
    done (More blocked')) (
      choose (bytes_eq w.word (codes "END")) (do
        _ ← section_end (codes "BLOCKAGES") said blocked.found
        done (Done blocked)) (
      check (Err (Expected w.line))))
