-- What a reader hands on.
use Rattle.std.proofs.Common.{◌≡◌, ◌≢◌, List, Result, Err, Option, ap}
use Rattle.rt_forms.specs.Lexeme.{Lexeme, Place}
use Rattle.rt_forms.specs.Form.{Faults, Form, Read, next_of, and_then, with_rest, some_or, admit}
use Rattle.rt_forms.specs.Clauses.{Reads}

-- the fault of the first word
pub one_err : {E X Y : Type 0} (f : Faults E) (meaning : Place → Option Y) (view : X → Y) (r : Result X E) (e x : E) (old new : List Lexeme)
    → r ≡ Err x → x ≡ e → (e ≢ f.memory → next_of f old ≡ Err e) → Reads f view r old new (admit meaning)
one_err {E} {X} {Y} f meaning view r e x old new p q h =
    rw (p, q) (λ n. ap (λ (v : Read E Place). and_then v (λ w. with_rest w.1 (some_or (f.expected w.0.line) (meaning w.0)))) (h n))

-- a fault that is handed on
pub handed : {E X Y : Type 0} (f : Faults E) (view : X → Y) (F : Form E Y) (r : Result X E) (e x : E) (old new : List Lexeme)
    → r ≡ Err x → x ≡ e → (e ≢ f.memory → F.read f old ≡ Err e) → Reads f view r old new F
handed f view F r e x old new p q h = rw (p, q) h
