-- That the same points are covered is an equivalence, and goes through lists put end to end.
use Rattle.std.proofs.Common.{◌≡◌, ℕ, ◌⊎◌, inl, inr, ⊎_elim, sym, subst, List, [], ◌∷◌, ◌++◌, Any}
use Rattle.rt_base.proofs.Lists.{Any-cases, Any-none, Any-here, Any-there}
use Rattle.rt_base.specs.declared.geometry.Point.{Point}
use Rattle.track_graph.specs.Metal.{Metal}
use Rattle.written.specs.Cover.{HoldsPart, Covers, CoverSame}

-- ---- one of the elements of a list

Any-append_left : {X : Type 0} → (P : X → Type 0) (xs ys : List X) → Any P xs → Any P (xs ++ ys)
Any-append_left P [] ys h = absurd (Any-none P h)
Any-append_left P (x ∷ xs) ys h = ⊎_elim
    (λ (here : P x). Any-here P x (xs ++ ys) here)
    (λ (later : Any P xs). Any-there P x (xs ++ ys) (Any-append_left P xs ys later))
    (Any-cases P x xs h)

Any-append_right : {X : Type 0} → (P : X → Type 0) (xs ys : List X) → Any P ys → Any P (xs ++ ys)
Any-append_right P [] ys h = h
Any-append_right P (x ∷ xs) ys h = Any-there P x (xs ++ ys) (Any-append_right P xs ys h)

Any-append_cases : {X : Type 0} → (P : X → Type 0) (xs ys : List X) → Any P (xs ++ ys) → Any P xs ⊎ Any P ys
Any-append_cases P [] ys h = inr h
Any-append_cases P (x ∷ xs) ys h = ⊎_elim
    (λ (here : P x). inl (Any-here P x xs here))
    (λ (later : Any P (xs ++ ys)). ⊎_elim
    (λ (l : Any P xs). inl (Any-there P x xs l))
    (λ (r : Any P ys). inr r)
    (Any-append_cases P xs ys later))
    (Any-cases P x (xs ++ ys) h)

-- ---- covered points

-- the rectangle is on the layer and holds the point
abbrev pub IsOver : ℕ → ℕ → Point → Metal → Type 0
IsOver layer parts p m = (m.0.0 ≡ layer) × HoldsPart parts m.1 p

pub cover_same : (a b : List Metal) → a ≡ b → CoverSame a b
cover_same a b same = subst (λ (c : List Metal). CoverSame a c) same (λ layer parts p some. (λ h. h, λ h. h))

pub cover_sym : (a b : List Metal) → CoverSame a b → CoverSame b a
cover_sym a b h layer parts p some = let both = h layer parts p some in (both.1, both.0)

pub cover_trans : (a b c : List Metal) → CoverSame a b → CoverSame b c → CoverSame a c
cover_trans a b c h k layer parts p some =
    let first = h layer parts p some in
    let last = k layer parts p some in
    (λ covered. last.0 (first.0 covered), λ covered. first.1 (last.1 covered))

pub cover_between : (a b c e : List Metal) → a ≡ b → e ≡ c → CoverSame b c → CoverSame a e
cover_between a b c e first last h = cover_trans a b e (cover_same a b first) (cover_trans b c e h (cover_same c e (sym last)))

pub cover_append : (a b c d : List Metal) → CoverSame a b → CoverSame c d → CoverSame (a ++ c) (b ++ d)
cover_append a b c d h k layer parts p some =
    let first = h layer parts p some in
    let last = k layer parts p some in
    (each a b c d first.0 last.0, each b a d c first.1 last.1)
  where
    each : (a b c d : List Metal) → (Covers a layer parts p → Covers b layer parts p) → (Covers c layer parts p → Covers d layer parts p) → Covers (a ++ c) layer parts p → Covers (b ++ d) layer parts p
    each a b c d f g h = ⊎_elim
        (λ (l : Covers a layer parts p). Any-append_left (IsOver layer parts p) b d (f l))
        (λ (r : Covers c layer parts p). Any-append_right (IsOver layer parts p) b d (g r))
        (Any-append_cases (IsOver layer parts p) a c h)

pub cover_swap : (a b : List Metal) → CoverSame (a ++ b) (b ++ a)
cover_swap a b layer parts p some = (swapped a b, swapped b a)
  where
    swapped : (a b : List Metal) → Covers (a ++ b) layer parts p → Covers (b ++ a) layer parts p
    swapped a b h = ⊎_elim
        (λ (l : Covers a layer parts p). Any-append_right (IsOver layer parts p) b a l)
        (λ (r : Covers b layer parts p). Any-append_left (IsOver layer parts p) b a r)
        (Any-append_cases (IsOver layer parts p) a b h)

-- one rectangle for two that cover what it covers
pub cover_joined : (m first last : Metal) → ((layer parts : ℕ) (p : Point) → IsOver layer parts p m → IsOver layer parts p first ⊎ IsOver layer parts p last) → ((layer parts : ℕ) (p : Point) → IsOver layer parts p first ⊎ IsOver layer parts p last → IsOver layer parts p m) → CoverSame (m ∷ []) (first ∷ last ∷ [])
cover_joined m first last apart together layer parts p some = (forth, back)
  where
    forth : Covers (m ∷ []) layer parts p → Covers (first ∷ last ∷ []) layer parts p
    forth h = ⊎_elim
        (λ (here : IsOver layer parts p m). ⊎_elim
        (λ (l : IsOver layer parts p first). Any-here (IsOver layer parts p) first (last ∷ []) l)
        (λ (r : IsOver layer parts p last). Any-there (IsOver layer parts p) first (last ∷ []) (Any-here (IsOver layer parts p) last [] r))
        (apart layer parts p here))
        (λ (none : Covers [] layer parts p). absurd (Any-none (IsOver layer parts p) none))
        (Any-cases (IsOver layer parts p) m [] h)

    back : Covers (first ∷ last ∷ []) layer parts p → Covers (m ∷ []) layer parts p
    back h = ⊎_elim
        (λ (l : IsOver layer parts p first). Any-here (IsOver layer parts p) m [] (together layer parts p (inl l)))
        (λ (later : Covers (last ∷ []) layer parts p). ⊎_elim
        (λ (r : IsOver layer parts p last). Any-here (IsOver layer parts p) m [] (together layer parts p (inr r)))
        (λ (none : Covers [] layer parts p). absurd (Any-none (IsOver layer parts p) none))
        (Any-cases (IsOver layer parts p) last [] later))
        (Any-cases (IsOver layer parts p) first (last ∷ []) h)
