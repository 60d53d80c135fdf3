-- A DEF text is read again, with further wiring of nets before their closing `;`.
use Rattle.std.specs.Prelude.{◌≡◌, ℕ, List, [], ◌∷◌, length, All}
use Rattle.std.specs.List.{AllZip}
use Rattle.rt_forms.specs.Lexeme.{Place, End}
use Rattle.def_text.specs.declared.def.Def.{Def}
use Rattle.def_text.specs.Texts.{def_form}
use Rattle.written.specs.Cuts.{Cut, cut_words, with_words, bytes_of}
use Rattle.def_again.specs.Again.{IsClose, IsOption, IsAgain}

-- where the closing `;` of the nets stand in the words of a text, and that the text is read again with wiring there
pub record IsReread (words : List Place) (d : Def) : Type 0 where
  pub cuts : List Cut
  pub last : List Place
  pub whole : cut_words cuts last ≡ words
  pub closes : AllZip IsClose d.nets cuts
  pub again : (added : List (List (List ℕ))) → length added ≡ length cuts → All IsOption added → (words' : List Place) (line' : ℕ) → bytes_of words' ≡ with_words cuts last added
      → (e : Def) × def_form.takes words' (End line' ∷ []) e × IsAgain words words' added d e
