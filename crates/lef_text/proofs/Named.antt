-- The words of a text that look like names are names.
use Rattle.std.proofs.Common.{◌≡◌, ◌∙◌, ℕ, ◌+◌, Bool, true, false, not, ◌||◌, if◌then◌else◌, List, [], ◌∷◌, ◌++◌, length, refl, sym, append_assoc}
use Rattle.std.specs.Prelude.{All, slice_range}
use Rattle.std.specs.List.{AllByRecursion, list_any}
use Rattle.std.proofs.lemmas.List.Elements.{All-weaker}
use Rattle.std.proofs.lemmas.List.Folds.{list_any-append}
use Rattle.rt_base.specs.declared.tech.Layer.{Layer}
use Rattle.rt_base.specs.declared.tech.Via.{Via}
use Rattle.rt_base.specs.declared.token.Token.{Token}
use Rattle.rt_base.specs.Names.{IsPlainWord, is_sign, IsName}
use Rattle.rt_base.specs.Parts.{is_blank, is_bad, Part, Blank, Comment, Quoted, Plain, spelled, spelling, Fits, AllFit, is_token, token_after, tokens_after}
use Rattle.rt_base.specs.Scan.{IsText, IsCutInto}
use Rattle.rt_base.proofs.Lists.{range-middle}
use Rattle.rt_base.proofs.Parting.{or_false}
use Rattle.rt_forms.specs.Lexeme.{Place, places}
use Rattle.rt_forms.specs.Reading.{is_name_word}
use Rattle.lef_text.specs.declared.lef.Lef.{Lef}
use Rattle.lef_text.specs.IsLef.{IsLef, IsLayer, IsVia}

-- where it looks like a name, it is one
abbrev IfNameWord : List ℕ → Type 0
IfNameWord word = is_name_word word ≡ true → IsName word

abbrev pub IsNamed : Place → Type 0
IsNamed p = IfNameWord p.word

-- a name looks like one
pub name_word : (word : List ℕ) → IsName word → is_name_word word ≡ true
name_word [] h = absurd h.plain
name_word (b ∷ bs) h = rw (h.plain.1, h.no_sign) refl

no_sign_of : (a b : Bool) → not (a || b) ≡ true → b ≡ false
no_sign_of true b h = absurd cc
no_sign_of false true h = absurd cc
no_sign_of false false h = refl

part_named : (p : Part) (rest : List ℕ) → Fits p rest → IsText (spelled p) → is_token p ≡ true → IfNameWord (spelled p)
part_named (Blank b) rest fits text_only token = absurd cc
part_named (Comment bs) rest fits text_only token = absurd cc
part_named (Quoted bs) rest fits text_only token = λ named. absurd cc
part_named (Plain b bs) rest fits text_only token =
    let blank : is_blank b ≡ false = fits.0 in
    let none : list_any is_blank bs ≡ false = fits.3 in
    λ named. record { plain = (fits.1, fits.2, rw (blank, none) refl, text_only); no_sign = no_sign_of _ (is_sign (b ∷ bs)) named }

parts_named : (text before : List ℕ) (ps : List Part) → text ≡ before ++ spelling ps → AllFit ps [] → IsText (spelling ps) → AllByRecursion IsNamed (places text (tokens_after before ps))
parts_named text before [] e fit text_only = tt
parts_named text before (p ∷ ps) e fit text_only =
    let texts = or_false (list_any is_bad (spelled p)) (list_any is_bad (spelling ps)) (sym (list_any-append is_bad (spelled p) (spelling ps)) ∙ text_only) in
    at (is_token p) (rw e (range-middle before (spelled p) (spelling ps))) (part_named p (spelling ps ++ []) fit.0 texts.0)
    (parts_named text (before ++ spelled p) ps (e ∙ sym (append_assoc before (spelled p) (spelling ps))) fit.1 texts.1)
  where
    at : (b : Bool) → slice_range text (length before) (length before + length (spelled p)) ≡ spelled p → (b ≡ true → IfNameWord (spelled p)) → AllByRecursion IsNamed (places text (tokens_after (before ++ spelled p) ps))
        → AllByRecursion IsNamed (places text (if b then token_after before (length (spelled p)) ∷ tokens_after (before ++ spelled p) ps else tokens_after (before ++ spelled p) ps))
    at true word named more = (rw word (named refl), more)
    at false word named more = more

-- each word of a text that looks like a name is one
pub words_named : (text : List ℕ) (tokens : List Token) → IsCutInto text tokens → AllByRecursion IsNamed (places text tokens)
words_named text tokens cut =
    rw cut.made.same (parts_named text [] cut.made.parts (sym cut.made.whole) cut.made.fit (rw cut.made.whole cut.text_only))

-- the names of layers and of vias are plain words
pub plain_names : (l : Lef) → IsLef l → All (λ (k : Layer). IsPlainWord k.name) l.layers × All (λ (v : Via). IsPlainWord v.name) l.vias
plain_names l h = (
  All-weaker IsLayer (λ (k : Layer). IsPlainWord k.name) (λ k q. q.name.plain) l.layers h.layers,
  All-weaker (IsVia (length l.layers)) (λ (v : Via). IsPlainWord v.name) (λ v q. q.name.plain) l.vias h.vias,
)
