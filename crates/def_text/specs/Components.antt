-- COMPONENTS (DEF 5.8, Components).
use Rattle.std.specs.Prelude.{[], ◌∷◌, ◌++◌, Bool, false, Err, Option, Some, None, IfSome, ◌^◌, bytes_eq, codes, ◌||◌}
use Rattle.rt_base.specs.Ranges.{IsPointWithin}
use Rattle.rt_base.specs.declared.geometry.Point.{Point}
use Rattle.rt_base.specs.declared.orient.Orient.{Orient}
use Rattle.rt_forms.specs.Lexeme.{Place}
use Rattle.rt_forms.specs.Form.{Form, next, look, check, done, ◌>>=◌, choose, loop, Turn, More, Done}
use Rattle.rt_forms.specs.Reading.{a_name, option_rest}
use Rattle.def_text.specs.declared.error.DefError.{DefError}
use Rattle.def_text.specs.declared.error.DefError.TheVariants.{Expected}
use Rattle.def_text.specs.declared.def.Component.{Component}
use Rattle.def_text.specs.declared.sections.Listed.{Listed}
use Rattle.def_text.specs.Parts.{placement}
use Rattle.def_text.specs.Sections.{new_name}

-- where a component is placed, if it is
abbrev pub Placing : Type 0
Placing = Option (Point × Orient)

abbrev pub IsPlacing : Placing → Type 0
IsPlacing placed = IfSome placed (λ (p : Point × Orient). IsPointWithin (2 ^ 30) p.0)

-- the option is a placement
abbrev pub is_placement : Option Place → Bool
is_placement None = false
is_placement (Some w) = bytes_eq w.word (codes "PLACED") || bytes_eq w.word (codes "FIXED") || bytes_eq w.word (codes "COVER")

-- an option behind its `+`: the last placement counts
unfoldable pub component_option : Placing → Form DefError Placing
component_option placed = do
  w ← look
  choose (is_placement w) (do
    at ← placement
    done (Some at)) (do
      _ ← option_rest
      done placed)

-- one more option, or `;`
unfoldable pub more_component : Placing → Form DefError (Turn Placing)
more_component placed = do
  w ← next
  choose (bytes_eq w.word (codes ";")) (done (Done placed)) (
      choose (bytes_eq w.word (codes "+")) (do
        placed' ← component_option placed
        done (More placed')) (
      check (Err (Expected w.line))))

-- `name macro` options `;`
unfoldable pub component_item : Listed Component → Form DefError (Listed Component)
component_item listed = do
  name ← a_name
  _ ← check (new_name listed.names name)
  of ← a_name
  placed ← loop more_component None
  done (record listed { names = listed.names ++ name.word ∷ []; items = listed.items ++ record { name = name.word; of = of.word; placed = placed } ∷ [] })
