-- The layers of a generated via.
use Rattle.std.proofs.Common.{ℕ, ◌<◌, ◌≤◌, ◌+◌, List, [], ◌∷◌, map, unsigned_abs, arith, All}
use Rattle.std.specs.List.{range_with_len, flat_map}
use Rattle.std.proofs.lemmas.List.Elements.{All-nil, All-cons}
use Rattle.rt_shapes.specs.declared.cut_array.Generated.{Generated}
use Rattle.rt_shapes.specs.GeneratedVias.{cut_of, row_of, cuts_of, generated_of, enclosing}
use Rattle.def_wires.specs.Meaning.{Metal}
use Rattle.def_wires.specs.Sound.{IsFormOn}
use Rattle.def_wires.proofs.Copies.{all_pieces}

all_mapped : {A B : Type 0} (P : B → Type 0) (f : A → B) (xs : List A) → ((x : A) → P (f x)) → All P (map f xs)
all_mapped P f [] h = All-nil P
all_mapped P f (x ∷ xs) h = All-cons P (f x) (map f xs) (h x) (all_mapped P f xs h)

abbrev pub OnLayer : ℕ → Metal → Type 0
OnLayer n m = m.0.0 < n

pub generated_on : (n : ℕ) (form : Generated) → IsFormOn n form → All (OnLayer n) (generated_of form)
generated_on n form h =
    let bottom : Metal = (form.layers.0, enclosing form form.enclosure.0 form.enclosure.1) in
    let top : Metal = (form.layers.2, enclosing form form.enclosure.2 form.enclosure.3) in
    All-cons (OnLayer n) bottom (top ∷ cuts_of form) h.0 (All-cons (OnLayer n) top (cuts_of form) h.2
    (all_pieces (OnLayer n) (row_of form) 0 (unsigned_abs form.rows) (unsigned_abs form.rows) (omega arith)
    (λ row lt. all_mapped (OnLayer n) (λ (column : ℕ). (form.layers.1, cut_of form row column)) (range_with_len 0 (unsigned_abs form.columns)) (λ column. h.1))))
