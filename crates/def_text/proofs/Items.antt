-- The end of a section.
use Rattle.std.proofs.Common.{◌≡◌, ◌≢◌, ℕ, List, true, false, Result, Ok, Err, length, bytes_eq, codes, refl}
use Rattle.std.specs.Prelude.{IsErrAnd}
use Rattle.std.proofs.lemmas.Result.{err_from_is_err_and}
use Rattle.rt_forms.specs.Lexeme.{Lexeme, Place}
use Rattle.rt_forms.specs.Form.{Form, next_of, Turn, Done}
use Rattle.rt_forms.specs.Clauses.{Reads}
use Rattle.def_text.specs.declared.error.DefError.{DefError}
use Rattle.def_text.specs.declared.sections.Listed.{Listed}
use Rattle.def_text.specs.Faults.{def_faults}
use Rattle.def_text.specs.Sections.{section_end, more_items}

end_err : {A : Type 0} (section : List ℕ) (said : ℕ) (item : Listed A → Form DefError (Listed A)) (l : Listed A) (ws vs : List Lexeme) (w : Place) (e : DefError)
    → next_of def_faults ws ≡ Ok (w, vs) → bytes_eq w.word (codes "-") ≡ false → bytes_eq w.word (codes "END") ≡ true → (section_end section said (length l.items)).read def_faults vs ≡ Err e
    → (more_items section said item l).read def_faults ws ≡ Err e
unfolding more_items
end_err section said item l ws vs w e h minus ended failed = rw (h, minus, ended, failed) refl

pub items_end_err : {A X : Type 0} (section : List ℕ) (said : ℕ) (item : Listed A → Form DefError (Listed A)) (l : Listed A) (ws vs new : List Lexeme) (w : Place) (e : DefError) (view : X → Turn (Listed A)) (r : Result X DefError)
    → next_of def_faults ws ≡ Ok (w, vs) → bytes_eq w.word (codes "-") ≡ false → bytes_eq w.word (codes "END") ≡ true → (e ≢ def_faults.memory → (section_end section said (length l.items)).read def_faults vs ≡ Err e)
    → IsErrAnd r (λ x. x ≡ e) → Reads def_faults view r ws new (more_items section said item l)
items_end_err section said item l ws vs new w e view r h minus ended failed q =
    let p = err_from_is_err_and r q in
    rw (p.1, p.2) (λ n. end_err section said item l ws vs w e h minus ended (failed n))

pub items_end : {A : Type 0} (section : List ℕ) (said : ℕ) (item : Listed A → Form DefError (Listed A)) (l : Listed A) (ws vs us : List Lexeme) (w : Place)
    → next_of def_faults ws ≡ Ok (w, vs) → bytes_eq w.word (codes "-") ≡ false → bytes_eq w.word (codes "END") ≡ true → (section_end section said (length l.items)).read def_faults vs ≡ Ok (tt, us)
    → (more_items section said item l).read def_faults ws ≡ Ok (Done l, us)
unfolding more_items
items_end section said item l ws vs us w h minus ended read = rw (h, minus, ended, read) refl
