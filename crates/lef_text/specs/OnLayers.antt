-- Layers by name, and shapes on them (LEF/DEF 5.8 Language Reference, LEF VIA, MACRO PIN: PORT, LEF MACRO: OBS; LAYER, RECT).
use Rattle.std.specs.Prelude.{ℕ, List, [], ◌∷◌, ◌++◌, position, Result, Ok, Err, Option, Some, None, bytes_eq, fold, slice_get, if◌then◌else◌}
use Rattle.rt_base.specs.Sides.{Sides}
use Rattle.rt_base.specs.declared.tech.LayerNo.{LayerNo}
use Rattle.rt_forms.specs.Lexeme.{Place}
use Rattle.rt_forms.specs.Form.{Form, check}
use Rattle.rt_forms.specs.Reading.{is_name_word}
use Rattle.lef_text.specs.declared.error.LefError.{LefError}
use Rattle.lef_text.specs.declared.error.LefError.TheVariants.{Expected, Unknown, NoLayer, Refused}
use Rattle.lef_text.specs.declared.library.Library.{Library}

-- ---- layers by name

-- the number of a layer that is named, None inside where it is dropped
abbrev pub number_at : List (Option LayerNo) → Option ℕ → Option (Option LayerNo)
number_at numbers None = None
number_at numbers (Some k) = slice_get numbers k

abbrev pub layer_number : List (List ℕ) → List (Option LayerNo) → List ℕ → Option (Option LayerNo)
layer_number names numbers word = number_at numbers (position (λ n. bytes_eq word n) names)

abbrev pub known : Place → Option (Option LayerNo) → Result (Option LayerNo) LefError
known p None = Err (NoLayer p.line p.word)
known p (Some n) = Ok n

-- the name of a layer before
abbrev pub layer_word : Library → Place → Result (Option LayerNo) LefError
layer_word lib p = if is_name_word p.word then known p (layer_number lib.layer_names lib.numbers p.word) else Err (Expected p.line)

-- ---- shapes

-- a shape on a layer that is dropped is dropped
abbrev pub with_shape : List (LayerNo × Sides) → Option LayerNo → Sides → List (LayerNo × Sides)
with_shape shapes None s = shapes
with_shape shapes (Some layer) s = shapes ++ (layer, s) ∷ []

abbrev pub with_shapes : List (LayerNo × Sides) → Option LayerNo → List Sides → List (LayerNo × Sides)
with_shapes shapes layer added = fold (λ all s. with_shape all layer s) shapes added

-- ---- lines that aren't taken

abbrev pub unknown : {A : Type 0} → Place → Form LefError A
unknown w = check (Err (Unknown w.line))

abbrev pub refused_line : {A : Type 0} → Place → Form LefError A
refused_line w = check (Err (Refused w.line w.word))
