-- Places in two lists of blocks.
use Rattle.std.proofs.Common.{◌≡◌, ◌∙◌, ℕ, ◌+◌, ◌-◌, ◌<◌, ◌≤◌, List, ◌++◌, Some, slice_get, get_or, length, sym, ap, arith, length-append}
use Rattle.std.proofs.lemmas.List.{get_or_append_left, get_or-append-add}
use Rattle.std.proofs.lemmas.Option.{slice_get_within, slice_get-get_or, get_or_from_slice_get}
use Rattle.track_graph.specs.declared.history.Block.{Block}

-- a block of two lists is one of the first or one of the second
pub at_left : (xs ys : List Block) (i : ℕ) (b : Block) → i < length xs → slice_get (xs ++ ys) i ≡ Some b → slice_get xs i ≡ Some b
at_left xs ys i b lt at =
    slice_get-get_or xs i b lt ∙ ap (λ (x : Block). Some x) (sym (get_or_append_left xs ys b i lt) ∙ get_or_from_slice_get (xs ++ ys) i b b at)

pub to_left : (xs ys : List Block) (i : ℕ) (b : Block) → slice_get xs i ≡ Some b → slice_get (xs ++ ys) i ≡ Some b
to_left xs ys i b at =
    let lt : i < length xs = slice_get_within xs i b at in
    slice_get-get_or (xs ++ ys) i b (omega (arith, length-append xs ys)) ∙ ap (λ (x : Block). Some x) (get_or_append_left xs ys b i lt ∙ get_or_from_slice_get xs i b b at)

pub at_right : (xs ys : List Block) (i : ℕ) (b : Block) → length xs ≤ i → slice_get (xs ++ ys) i ≡ Some b → slice_get ys (i - length xs) ≡ Some b
at_right xs ys i b le at =
    let within : i < length (xs ++ ys) = slice_get_within (xs ++ ys) i b at in
    let k : ℕ = i - length xs in
    let back : length xs + k ≡ i = omega arith in
    slice_get-get_or ys k b (omega (arith, length-append xs ys))
    ∙ ap (λ (x : Block). Some x) (sym (get_or-append-add xs ys k b) ∙ ap (λ (j : ℕ). get_or (xs ++ ys) j b) back ∙ get_or_from_slice_get (xs ++ ys) i b b at)
