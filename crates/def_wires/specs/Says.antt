-- What the tokens of a text say by a form, to the last one: a value, or the first fault.
use Rattle.std.specs.Prelude.{ℕ, List, Result, Ok}
use Rattle.rt_base.specs.declared.token.Token.{Token}
use Rattle.rt_forms.specs.Lexeme.{lexemes}
use Rattle.rt_forms.specs.Form.{Form, and_then}
use Rattle.def_wires.specs.declared.error.WireFault.{WireFault}
use Rattle.def_wires.specs.Faults.{wire_faults}

-- what reading the words gives, without the words behind them
abbrev pub says : {A : Type 0} → Form WireFault A → List ℕ → List Token → Result A WireFault
says F text tokens = and_then (F.read wire_faults (lexemes text tokens)) (λ read. Ok read.0)
