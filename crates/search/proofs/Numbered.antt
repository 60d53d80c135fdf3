-- Tiles that get their numbers, the last one first.
use Rattle.std.proofs.Common.{◌≡◌, ◌∙◌, ℕ, ◌+◌, ◌<◌, ◌≤◌, List, [], ◌∷◌, ◌++◌, length, get_or, refl, sym, ap, arith, inl, inr, All, Any}
use Rattle.std.proofs.lemmas.Bool.{cases_lt}
use Rattle.std.proofs.lemmas.List.{get_or_append_left, get_or_push, length-append}
use Rattle.std.proofs.lemmas.List.Elements.{All-push, All-nil}
use Rattle.rt_base.specs.declared.tech.Shape.{Shape}
use Rattle.search.specs.declared.piece.Piece.{Piece}
use Rattle.search.specs.Wholes.{AreNumbered, IsTileAt}

-- the tiles that are left are the first ones, and the others have their numbers
pub record IsNumberedTo (first now : List (List Shape)) (pieces : List Piece) : Type 0 where
  pub few : length now ≤ length first
  pub left : (t : ℕ) (d : List Shape) → t < length now → get_or now t d ≡ get_or first t d
  pub each : All (IsTileAt first) pieces
  pub every : (t : ℕ) → length now ≤ t → t < length first → Any (λ (p : Piece). p.no ≡ t) pieces

pub numbered-none : (first : List (List Shape)) → IsNumberedTo first first []
numbered-none first = record { few = omega arith; left = λ t d less. refl; each = All-nil (IsTileAt first); every = λ t from to. absurd (omega (arith, from, to)) }

longer : (xs : List (List Shape)) (x : List Shape) → length (xs ++ x ∷ []) ≡ length xs + 1
longer xs x = length-append xs (x ∷ [])

pub numbered-more : (first before now : List (List Shape)) (x : List Shape) (pieces : List Piece) (p : Piece) → before ≡ now ++ x ∷ [] → p.no ≡ length now → p.tile ≡ x → IsNumberedTo first before pieces → IsNumberedTo first now (pieces ++ p ∷ [])
numbered-more first before now x pieces p is number tile h =
    let one : length before ≡ length now + 1 = ap length is ∙ longer now x in
    let here : get_or before (length now) [] ≡ x = ap (λ (xs : List (List Shape)). get_or xs (length now) []) is ∙ get_or_push now x [] (length now) refl in
    record {
      few = omega (arith, one, h.few);
      left = λ t d less. sym (get_or_append_left now (x ∷ []) d t less) ∙ ap (λ (xs : List (List Shape)). get_or xs t d) (sym is) ∙ h.left t d (omega (arith, less, one));
      each = All-push (IsTileAt first) pieces p h.each (record {
        is_tile = omega (arith, number, one, h.few);
        same = tile ∙ sym here ∙ h.left (length now) [] (omega (arith, one)) ∙ ap (λ (t : ℕ). get_or first t []) (sym number);
      });
      every = λ t from to. elim (cases_lt (length now) t) [
        | inl behind ↦ (
            let a = h.every t (omega (arith, one, behind)) to in
            (a.0, a.1, omega (arith, a.2, length-append pieces (p ∷ [])), get_or_append_left pieces (p ∷ []) a.1 a.0 a.2 ∙ a.3, a.4)
            )
        | inr most ↦ (
            let same : t ≡ length now = omega (arith, from, most) in
            (length pieces, p, omega (arith, length-append pieces (p ∷ [])), get_or_push pieces p p (length pieces) refl, number ∙ sym same)
            )
      ];
    }

pub numbered-all : (first now : List (List Shape)) (pieces : List Piece) → length now ≡ 0 → IsNumberedTo first now pieces → AreNumbered first pieces
numbered-all first now pieces none h = record { each = h.each; every = λ t less. h.every t (omega (arith, none)) less }
