use Rattle.std.proofs.Common.{◌≡◌, ◌∙◌, ℕ, List, [], Ok, ap, subst}
use Rattle.rt_base.specs.Sides.{Sides}
use Rattle.rt_base.specs.declared.tech.LayerNo.{LayerNo}
use Rattle.rt_forms.specs.Lexeme.{Lexeme}
use Rattle.rt_forms.specs.Form.{loop}
use Rattle.lef_text.specs.declared.library.Library.{Library}
use Rattle.lef_text.specs.declared.library.MacroLines.{MacroLines}
use Rattle.lef_text.specs.Faults.{lef_faults}
use Rattle.lef_text.specs.Macros.{Cell, cell_of, macro_line, no_macro_lines, corner_0, AreNear}
use Rattle.lef_text.proofs.Grammar.{lawful_macro_lines}
use Rattle.lef_text.proofs.SoundMacros.{near_lines, cell_near}
use Rattle.lef_text.proofs.macros.macro_body.Goals as goal

abbrev Shapes : Type 0
Shapes = List (LayerNo × Sides)

abbrev begun : List (List ℕ × Shapes) → List (List ℕ) → Shapes → MacroLines
begun pins names obs = record { size = corner_0; origin = corner_0; pins = pins; pin_names = names; obs = obs }

near_read : (units : ℕ) (lib0 : Library) (name : List ℕ) (old new : List Lexeme) (pins : List (List ℕ × Shapes)) (names : List (List ℕ)) (obs : Shapes) (s : Cell) → pins ≡ [] → names ≡ [] → obs ≡ []
    → (loop (macro_line units name) (cell_of lib0 (begun pins names obs))).read lef_faults old ≡ Ok (s, new) → AreNear s.lines
near_read units lib0 name old new pins names obs s a b d h =
    let none : begun pins names obs ≡ no_macro_lines = ap (λ (p : List (List ℕ × Shapes)). begun p names obs) a ∙ ap (λ (n : List (List ℕ)). begun [] n obs) b ∙ ap (λ (o : Shapes). begun [] [] o) d in
    let found = (lawful_macro_lines units name (cell_of lib0 no_macro_lines)).found lef_faults old new s (subst (λ (m : MacroLines). (loop (macro_line units name) (cell_of lib0 m)).read lef_faults old ≡ Ok (s, new)) none h) in
    cell_near lib0 s ((near_lines units name lib0).all found.0 new s found.2)

pub macro_of-requires : goal.macro_of-requires
macro_of-requires c =
    near_read c.args.units c.args.lib.now c.args.name.bytes.now _ _ c.new.result c.new-2.result c.new-3.result (cell_of c.macro_lines.new.lib c.macro_lines.new.lines) c.new.ensures c.new-2.ensures c.new-3.ensures c.in_ok-macro_lines.ensures.reads.0
