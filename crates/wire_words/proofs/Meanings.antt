-- What single words of a path mean.
use Rattle.std.proofs.Common.{◌≡◌, ℕ, ◌^◌, ℤ, Bool, true, false, cond, not, List, Result, Ok, Err, Some, bytes_eq, refl, sym, ◌⊎◌, inl, inr, slice_get}
use Rattle.std.specs.Prelude.{codes, ◌||◌, nat_eq}
use Rattle.std.specs.Option.{option_eq}
use Rattle.std.specs.Ordering.{int_eq}
use Rattle.std.proofs.lemmas.Bool.Decides.{Decides-int_eq}
use Rattle.std.specs.Fmt.{signed_decimal}
use Rattle.rt_base.specs.Ranges.{IsWithin}
use Rattle.rt_base.specs.declared.geometry.Point.{Point}
use Rattle.rt_base.specs.declared.tech.LayerNo.{LayerNo}
use Rattle.rt_base.specs.declared.tech.Tech.{Tech}
use Rattle.rt_forms.specs.Lexeme.{Place}
use Rattle.rt_forms.specs.Reading.{is_name_word}
use Rattle.def_wires.specs.declared.error.WireFault.{WireFault}
use Rattle.def_wires.specs.declared.error.WireFault.TheVariants.{Diagonal}
use Rattle.def_wires.specs.declared.wiring.Joined.{Joined}
use Rattle.def_wires.specs.declared.words.StepWord.{StepWord}
use Rattle.def_wires.specs.declared.words.StepWord.TheVariants.{Opening, Rectangle, RefusedStep, ViaName, Other}
use Rattle.def_wires.specs.Meaning.{is_routing, joined_by, rects_of_via, other_of}
use Rattle.def_wires.specs.Names.{layer_named, via_named}
use Rattle.def_wires.specs.Words.{first_coordinate, coordinate, last_coordinate, straight, routing_layer, any_via, layer_beyond, step_word, opening, is_refused}
use Rattle.wire_words.proofs.Numbers.{integer_read, not_star}

-- ---- coordinates

pub first_coordinate_is : (p : Place) (z : ℤ) → p.word ≡ signed_decimal z → IsWithin (2 ^ 30) z → first_coordinate p ≡ Ok z
first_coordinate_is p z e near = rw (e, not_star z near, integer_read z near) refl

pub coordinate_is : (before : ℤ) (p : Place) (z : ℤ) → p.word ≡ signed_decimal z → IsWithin (2 ^ 30) z → coordinate before p ≡ Ok z
coordinate_is before p z e near = rw (e, not_star z near, integer_read z near) refl

straight_is : (from b : Point) (line : ℕ) → (from.x ≡ b.x) ⊎ (from.y ≡ b.y) → straight from b.x line b.y ≡ Ok b
straight_is from b line (inl same) = let e : int_eq b.x from.x ≡ true = (Decides-int_eq b.x from.x).1 (sym same) in rw e refl
straight_is from b line (inr same) =
    let e : int_eq b.y from.y ≡ true = (Decides-int_eq b.y from.y).1 (sym same) in
    by_x (int_eq b.x from.x) (int_eq b.y from.y) e
  where
    by_x : (s t : Bool) → t ≡ true → (let r : Result Point WireFault = cond (s || t) (Ok b) (Err (Diagonal line)) in r) ≡ Ok b
    by_x true t e = refl
    by_x false t e = rw e refl

pub last_coordinate_is : (from b : Point) (p : Place) → p.word ≡ signed_decimal b.y → IsWithin (2 ^ 30) b.y → (from.x ≡ b.x) ⊎ (from.y ≡ b.y) → last_coordinate from b.x p ≡ Ok b
last_coordinate_is from b p e near h = rw (coordinate_is from.y p b.y e near) (straight_is from b p.line h)

-- ---- names

pub layer_is : (reader : Tech) (p : Place) (name : List ℕ) (k : ℕ) → p.word ≡ name → is_name_word name ≡ true → layer_named reader.layers name ≡ Some k → is_routing reader k ≡ true → routing_layer reader p ≡ Ok (record { 0 = k })
layer_is reader p name k e word named routing = rw (e, word, named, routing) refl

named_so : (a b c d : Bool) → (let kind : StepWord = cond a Opening (cond b Rectangle (cond c RefusedStep (cond d ViaName Other))) in kind) ≡ ViaName → d ≡ true
named_so true b c d h = absurd cc
named_so false true c d h = absurd cc
named_so false false true d h = absurd cc
named_so false false false true h = refl
named_so false false false false h = absurd cc

pub via_is_name : (name : List ℕ) → step_word name ≡ ViaName → is_name_word name ≡ true
via_is_name name h = named_so (bytes_eq name (codes "(")) (bytes_eq name (codes "RECT")) (is_refused name) (is_name_word name) h

pub via_is : (reader : Tech) (p : Place) (name : List ℕ) (k : ℕ) → p.word ≡ name → step_word name ≡ ViaName → via_named reader.vias name ≡ Some k → any_via reader p ≡ Ok k
via_is reader p name k e step named = let word = via_is_name name step in rw (e, word, named) refl

pub beyond_is : (reader : Tech) (layer : LayerNo) (line k : ℕ) (j : Joined) (other : LayerNo) → joined_by reader (rects_of_via reader k) ≡ Some j → other_of j layer ≡ Some other → layer_beyond reader layer line k ≡ Ok other
beyond_is reader layer line k j other e h = rw (e, h) refl

-- ---- signs

pub opens : (p : Place) → p.word ≡ codes "(" → opening p ≡ Ok tt
opens p e = rw e refl

no_sign : (q s p m o c t : Bool) → not (q || (s || p || m || o || c || t)) ≡ true → (s ≡ false) × (p ≡ false) × (o ≡ false)
no_sign true s p m o c t h = absurd cc
no_sign false true p m o c t h = absurd cc
no_sign false false true m o c t h = absurd cc
no_sign false false false true o c t h = absurd cc
no_sign false false false false true c t h = absurd cc
no_sign false false false false false c t h = (refl, refl, refl)

-- a name is no `;`, no `+` and no `(`
pub name_no_sign : (name : List ℕ) → is_name_word name ≡ true → (bytes_eq name (codes ";") ≡ false) × (bytes_eq name (codes "+") ≡ false) × (bytes_eq name (codes "(") ≡ false)
name_no_sign name h = no_sign (option_eq nat_eq (slice_get name 0) (Some 34)) (bytes_eq name (codes ";")) (bytes_eq name (codes "+")) (bytes_eq name (codes "-")) (bytes_eq name (codes "(")) (bytes_eq name (codes ")")) (bytes_eq name (codes "*")) h
