use Rattle.std.proofs.Common.{◌≡◌, ◌≢◌, ℕ, List, Result, Ok, Err, Option, Bool, codes, ap, ◌∙◌}
use Rattle.std.specs.Prelude.{IsErrAnd}
use Rattle.std.proofs.lemmas.Result.{err_from_is_err_and}
use Rattle.rt_base.specs.declared.tech.LayerNo.{LayerNo}
use Rattle.rt_forms.specs.Lexeme.{Lexeme}
use Rattle.rt_forms.specs.Form.{Read, one, and_then}
use Rattle.rt_forms.specs.Clauses.{Reads}
use Rattle.rt_forms.proofs.Clauses.{handed}
use Rattle.lef_text.specs.declared.error.LefError.{LefError}
use Rattle.lef_text.specs.declared.error.LefError.TheVariants.{Memory}
use Rattle.lef_text.specs.declared.library.Library.{Library}
use Rattle.lef_text.specs.Faults.{lef_faults}
use Rattle.lef_text.specs.Vias.{optional}
use Rattle.lef_text.specs.Shapes.{layer_place, layer_words}
use Rattle.lef_text.proofs.shapes.layer_words.Goals as goal

abbrev Found : Type 0
Found = ℕ × Option LayerNo

words_err : (lib : Library) (old mid new : List Lexeme) (found : Found) (e : LefError) (r : Result Found LefError) → (one (layer_place lib)).read lef_faults old ≡ Ok (found, mid) → (e ≢ Memory → (optional (codes "EXCEPTPGNET")).read lef_faults mid ≡ Err e) → IsErrAnd r (λ x. x ≡ e) → Reads lef_faults (λ x. x) r old new (layer_words lib)
unfolding layer_words
words_err lib old mid new found e r h k q =
    let p = err_from_is_err_and r q in
    handed lef_faults (λ x. x) (layer_words lib) r e p.0 old new p.1 p.2
    (λ n. ap (λ (t : Read LefError Found). and_then t (λ x. and_then ((optional (codes "EXCEPTPGNET")).read lef_faults x.1) (λ y. Ok (x.0, y.1)))) h ∙ ap (λ (t : Read LefError Bool). and_then t (λ y. Ok (found, y.1))) (k n))

pub returns-in_err-optional : goal.returns-in_err-optional
returns-in_err-optional c = words_err _ _ _ _ _ _ _ c.in_ok-found.ensures.0 c.in_err-optional.ensures c.from_residual-in_err-optional.ensures.1
