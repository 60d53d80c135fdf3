use Rattle.std.proofs.Common.{◌≡◌, ℕ, List, Ok, subst}
use Rattle.std.specs.Prelude.{IfSome}
use Rattle.rt_forms.specs.Lexeme.{Lexeme}
use Rattle.rt_forms.specs.Form.{loop}
use Rattle.rt_shapes.specs.GeneratedVias.{IsForm}
use Rattle.lef_text.specs.declared.library.Library.{Library}
use Rattle.lef_text.specs.declared.library.ViaLines.{ViaLines}
use Rattle.lef_text.specs.Faults.{lef_faults}
use Rattle.lef_text.specs.GeneratedVias.{form_of}
use Rattle.lef_text.specs.Vias.{via_line, no_via_lines}
use Rattle.lef_text.proofs.Grammar.{lawful_via_lines}
use Rattle.lef_text.proofs.SoundVias.{form_of_lines}
use Rattle.lef_text.proofs.vias.via_rects.Goals as goal

form_read : (units : ℕ) (lib : Library) (name : List ℕ) (old new : List Lexeme) (first s : ViaLines) → first ≡ no_via_lines → (loop (via_line units lib name) first).read lef_faults old ≡ Ok (s, new) → IfSome (form_of s.form) (λ g. IsForm g.0)
form_read units lib name old new first s from h =
    let found = (lawful_via_lines units lib name no_via_lines).found lef_faults old new s (subst (λ (l : ViaLines). (loop (via_line units lib name) l).read lef_faults old ≡ Ok (s, new)) from h) in
    form_of_lines units lib name found.0 new s found.2

pub rects_at_end-requires : goal.rects_at_end-requires
rects_at_end-requires c =
    form_read c.args.units c.args.lib.now c.args.name.now _ _ c.no_via_lines-lines.result c.via_lines.new.lines c.no_via_lines-lines.ensures c.in_ok-via_lines.ensures.0
