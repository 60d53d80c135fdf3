-- VIAS (DEF 5.8, Vias): where the words of each stand.
use Rattle.std.specs.Prelude.{ℕ, ◌-◌, [], ◌∷◌, ◌++◌}
use Rattle.rt_forms.specs.Form.{Form, check, done, ◌>>=◌}
use Rattle.rt_forms.specs.Reading.{a_name, rest}
use Rattle.def_text.specs.declared.error.DefError.{DefError}
use Rattle.def_text.specs.declared.def.DefVia.{DefVia}
use Rattle.def_text.specs.declared.sections.Listed.{Listed}
use Rattle.def_text.specs.Defs.{IsNameWord, IsRange}
use Rattle.def_text.specs.Parts.{here}
use Rattle.def_text.specs.Sections.{new_name}

-- `name` words `;`, in a text of so many words
unfoldable pub via_item : ℕ → Listed DefVia → Form DefError (Listed DefVia)
via_item total listed = do
  name ← a_name
  _ ← check (new_name listed.names name)
  first ← here total
  _ ← rest
  past ← here total
  done (record listed { names = listed.names ++ name.word ∷ []; items = listed.items ++ record { name = name.word; tokens = (first, past - 1) } ∷ [] })

-- a via that was read
pub record IsDefVia (total : ℕ) (v : DefVia) : Type 0 where
  pub name : IsNameWord v.name
  pub tokens : IsRange total v.tokens
