-- What a DEF text says that has further wiring of nets before their closing `;`.
use Rattle.std.specs.Prelude.{◌≡◌, ℕ, List, [], ◌∷◌, ◌++◌, drop, map, length, slice_range, codes, All, false}
use Rattle.std.specs.List.{AllZip, zip}
use Rattle.rt_forms.specs.Lexeme.{Place}
use Rattle.rt_forms.specs.Reading.{ends_option}
use Rattle.def_text.specs.declared.def.Def.{Def}
use Rattle.def_text.specs.declared.def.DefNet.{DefNet}
use Rattle.def_text.specs.declared.def.DefVia.{DefVia}
use Rattle.written.specs.Cuts.{Cut, bytes_of}

-- the words of a range, by their bytes
abbrev pub range_words : List Place → ℕ × ℕ → List (List ℕ)
range_words words r = bytes_of (slice_range words r.0 r.1)

-- a cut is made before the closing `;` of a net
pub record IsClose (net : DefNet) (c : Cut) : Type 0 where
  pub place : c.mark.first ≡ net.close
  pub semicolon : c.mark.word ≡ codes ";"

-- words that may be put in there: none, or `+ ROUTED` and one at least, of which none ends an option
abbrev pub IsOption : List (List ℕ) → Type 0
IsOption [] = Unit {0}
IsOption (plus ∷ []) = ⊥
IsOption (plus ∷ routed ∷ []) = ⊥
IsOption (plus ∷ routed ∷ word ∷ words) = (plus ≡ codes "+") × (routed ≡ codes "ROUTED") × All (λ w. ends_option w ≡ false) (word ∷ words)

-- the words behind `+ ROUTED` as one more range; none where nothing was put in
abbrev pub range_behind : List (List ℕ) → List (List (List ℕ))
range_behind [] = []
range_behind (word ∷ words) = drop 1 words ∷ []

-- a via of the same name and words
pub record IsViaAgain (old new : List Place) (v w : DefVia) : Type 0 where
  pub name : w.name ≡ v.name
  pub words : range_words new w.tokens ≡ range_words old v.tokens

-- a net of the same name and pins, whose ranges of wiring have the same words, and behind them one more where words were put in
pub record IsNetAgain (old new : List Place) (added : List (List ℕ)) (m n : DefNet) : Type 0 where
  pub name : n.name ≡ m.name
  pub pins : n.pins ≡ m.pins
  pub wiring : map (range_words new) n.wiring ≡ map (range_words old) m.wiring ++ range_behind added

-- all that is kept of a text is as before, but for what was put in, net by net
pub record IsAgain (old new : List Place) (added : List (List (List ℕ))) (d e : Def) : Type 0 where
  pub count : length added ≡ length d.nets
  pub units : e.units ≡ d.units
  pub die : e.die ≡ d.die
  pub tracks : e.tracks ≡ d.tracks
  pub vias : AllZip (IsViaAgain old new) d.vias e.vias
  pub components : e.components ≡ d.components
  pub pins : e.pins ≡ d.pins
  pub blockages : e.blockages ≡ d.blockages
  pub special : AllZip (IsNetAgain old new []) d.special e.special
  pub nets : AllZip (λ (m : DefNet × List (List ℕ)) n. IsNetAgain old new m.1 m.0 n) (zip d.nets added) e.nets
  pub skipped : e.skipped ≡ d.skipped
