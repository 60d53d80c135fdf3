-- What a design is built of.
use Rattle.std.specs.Prelude.{ℕ, List, length, Option, option_map, IfSome}
use Rattle.std.specs.Option.{option_copied}
use Rattle.rt_base.specs.declared.token.Token.{Token}
use Rattle.rt_base.specs.Tokens.{AllInside}
use Rattle.lef_text.specs.declared.lef.Lef.{Lef}
use Rattle.lef_text.specs.IsLef.{IsLef}
use Rattle.def_text.specs.declared.def.Def.{Def}
use Rattle.def_text.specs.Defs.{IsDef, AreRanges}
use Rattle.guide_text.specs.declared.guides.Guides.{Guides}
use Rattle.guide_text.specs.IsGuides.{Guide, AreGuides}
use Rattle.build.specs.declared.given.Given.{Given}

-- what a design is built of: LEF and DEF, the text of DEF and its tokens, and guides of nets, where there are any
pub record Input : Type 0 where
  pub lef : Lef
  pub def : Def
  pub text : List ℕ
  pub tokens : List Token
  pub guides : Option (List Guide)

abbrev pub input_of : Lef → Def → List ℕ → List Token → Option Guides → Input
input_of lef def text tokens guides = record { lef = lef; def = def; text = text; tokens = tokens; guides = option_map (λ (g : Guides). g.nets) guides }

-- what the readers of these texts ensure
pub record IsInput (i : Input) : Type 0 where
  pub is_lef : IsLef i.lef
  pub is_def : IsDef i.def
  pub inside : AllInside (length i.text) i.tokens
  pub ranges : AreRanges (length i.tokens) i.def
  pub are_guides : IfSome i.guides AreGuides

-- the input that the code holds
abbrev pub input_by : Given → Input
input_by g = input_of g.lef.now g.def.now g.text.now g.tokens.now (option_copied g.guides)
