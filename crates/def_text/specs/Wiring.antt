-- Where the wiring of nets stands (DEF 5.8, Nets: regularWiring).
use Rattle.std.specs.Prelude.{ℕ, ◌<◌, ◌^◌, length, All, if◌then◌else◌}
use Rattle.rt_forms.specs.Form.{Form, next, done, ◌>>=◌}
use Rattle.def_text.specs.declared.error.DefError.{DefError}
use Rattle.def_text.specs.declared.def.DefNet.{DefNet}
use Rattle.def_text.specs.Defs.{IsConnection, IsRange}
use Rattle.def_text.specs.Parts.{here, option_tail}

-- the words behind an option's first up to the next `+` or `;`; where there are none, the option's own `+`, which has this number, and its word
unfoldable pub wiring_range : ℕ → ℕ → Form DefError (ℕ × ℕ)
wiring_range total plus = do
  _ ← next
  behind ← here total
  alone ← option_tail
  past ← here total
  done (if alone then (plus, past) else (behind, past))

-- a net that was read of a text of so many words
pub record IsNetOf (total : ℕ) (n : DefNet) : Type 0 where
  pub pins : All IsConnection n.pins
  pub pin_count : length n.pins < 2 ^ 32
  pub wiring : All (IsRange total) n.wiring
