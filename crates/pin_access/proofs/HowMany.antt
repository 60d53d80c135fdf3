-- How many things there are of a kind: none, of two kinds, images, and one number at most.
use Rattle.std.proofs.Common.{◌≡◌, ◌≢◌, ◌⊎◌, ◌↔◌, inl, inr, ⊎_elim, ℕ, suc, ◌+◌, ◌≤◌, List, [], ◌∷◌, ◌++◌, length, get_or, map, AllPairs, Contains, refl, sym, ap, subst, ◌∙◌, arith}
use Rattle.std.proofs.lemmas.List.{length-append, length-map}
use Rattle.std.proofs.lemmas.List.Elements.{Contains-append_left, Contains-append_right, Contains-append_cases}
use Rattle.pin_access.specs.Counts.{Counts}
use Rattle.pin_access.proofs.Members.{contains_cases, contains_none, contains_here, contains_there, contains_image, from_image}
use Rattle.pin_access.proofs.EntryLemmas.{all_pairs_joined, all_pairs_image}

abbrev Differ : {X : Type 0} → List X → Type 0
Differ xs = AllPairs (λ a b. a ≢ b) xs

pub counts_none : {X : Type 0} → (P : X → Type 0) → ((x : X) → P x → ⊥) → Counts P 0
counts_none P none = record {
  those = [];
  once = λ i j d lt within. absurd (omega arith);
  exactly = λ x. (λ h. absurd (contains_none x h), λ p. absurd (none x p));
  count = refl;
}

pub counts_same : {X : Type 0} → (P Q : X → Type 0) (n : ℕ) → ((x : X) → P x ↔ Q x) → Counts P n → Counts Q n
counts_same P Q n same c = record {
  those = c.those;
  once = c.once;
  exactly = λ x. (λ h. (same x).0 ((c.exactly x).0 h), λ q. (c.exactly x).1 ((same x).1 q));
  count = c.count;
}

-- of either of two kinds, of which nothing is both
pub counts_both : {X : Type 0} → (P Q : X → Type 0) (m n : ℕ) → ((x : X) → P x → Q x → ⊥) → Counts P m → Counts Q n → Counts (λ x. P x ⊎ Q x) (m + n)
counts_both {X} P Q m n apart c d = record {
  those = c.those ++ d.those;
  once = all_pairs_joined (λ (a b : X). a ≢ b) c.those d.those c.once d.once (λ x y hx hy e. apart y (subst P e ((c.exactly x).0 hx)) ((d.exactly y).0 hy));
  exactly = λ x. (
    λ h. ⊎_elim
        (λ (l : Contains c.those x). inl ((c.exactly x).0 l))
        (λ (r : Contains d.those x). inr ((d.exactly x).0 r))
        (Contains-append_cases c.those d.those x h),
    λ h. ⊎_elim
        (λ (p : P x). Contains-append_left c.those d.those x ((c.exactly x).1 p))
        (λ (q : Q x). Contains-append_right c.those d.those x ((d.exactly x).1 q))
        h,
  );
  count = length-append c.those d.those ∙ ap (λ (k : ℕ). k + length d.those) c.count ∙ ap (λ (k : ℕ). m + k) d.count;
}

-- images of different things differ
pub counts_image : {X Y : Type 0} → (f : X → Y) (P : X → Type 0) (n : ℕ) → ((a b : X) → f a ≡ f b → a ≡ b) → Counts P n → Counts (λ (y : Y). (x : X) × P x × (f x ≡ y)) n
counts_image {X} {Y} f P n apart c = record {
  those = map f c.those;
  once = all_pairs_image f (λ (a b : Y). a ≢ b) c.those (λ i j d lt within e. c.once i j d lt within (apart (get_or c.those i d) (get_or c.those j d) e));
  exactly = λ y. (
    λ h. let image : (x : X) × Contains c.those x × (f x ≡ y) = from_image f c.those y h in (image.0, (c.exactly image.0).0 image.1, image.2),
    λ h. subst (λ z. Contains (map f c.those) z) h.2 (contains_image f c.those h.0 ((c.exactly h.0).1 h.1)),
  );
  count = length-map c.those f ∙ c.count;
}

-- a list that has a thing is two lists with the thing between them
record Parted {X : Type 0} (xs : List X) (x : X) : Type 0 where
  before : List X
  after : List X
  parts : xs ≡ before ++ (x ∷ after)

parted : {X : Type 0} → (xs : List X) (x : X) → Contains xs x → Parted xs x
parted [] x h = absurd (contains_none x h)
parted {X} (y ∷ ys) x h = ⊎_elim
    (λ (e : y ≡ x). let p : Parted (y ∷ ys) x = record { before = []; after = ys; parts = ap (λ (z : X). z ∷ ys) e } in p)
    (λ (t : Contains ys x).
    let rest : Parted ys x = parted ys x t in
    let p : Parted (y ∷ ys) x = record { before = y ∷ rest.before; after = rest.after; parts = ap (λ (zs : List X). y ∷ zs) rest.parts } in
    p)
    (contains_cases y ys x h)

-- different things that a list has are at most as many as the list is long
pub within_length : {X : Type 0} → (xs ys : List X) → Differ xs → ((x : X) → Contains xs x → Contains ys x) → length xs ≤ length ys
within_length [] ys once into = omega arith
within_length {X} (x ∷ xs) ys once into =
    let p : Parted ys x = parted ys x (into x (contains_here x xs)) in
    let fewer = within_length xs (p.before ++ p.after) (λ i j d lt within. once (suc i) (suc j) d (omega arith) (omega arith)) (rest p) in
    omega (arith, fewer, ap length p.parts, length-append p.before (x ∷ p.after), length-append p.before p.after)
  where
    rest : (p : Parted ys x) (y : X) → Contains xs y → Contains (p.before ++ p.after) y
    rest p y (k, lt, is) =
        let other : x ≢ y = λ e. once 0 (suc k) y (omega arith) (omega arith) (e ∙ sym is) in
        ⊎_elim
        (λ (l : Contains p.before y). Contains-append_left p.before p.after y l)
        (λ (r : Contains (x ∷ p.after) y). ⊎_elim
        (λ (e : x ≡ y). absurd (other e))
        (λ (t : Contains p.after y). Contains-append_right p.before p.after y t)
        (contains_cases x p.after y r))
        (Contains-append_cases p.before (x ∷ p.after) y (subst (λ zs. Contains zs y) p.parts (into y (contains_there x xs y (k, lt, is)))))

-- things that a list has are at most as many as the list is long
pub counts_within : {X : Type 0} → (P : X → Type 0) (n : ℕ) (ys : List X) → Counts P n → ((x : X) → P x → Contains ys x) → n ≤ length ys
counts_within P n ys c into = omega (arith, c.count, within_length c.those ys c.once (λ x h. into x ((c.exactly x).0 h)))

-- there is one number of them
pub counts_unique : {X : Type 0} → (P : X → Type 0) (m n : ℕ) → Counts P m → Counts P n → m ≡ n
counts_unique P m n c d =
    let most = counts_within P m d.those c (λ x p. (d.exactly x).1 p) in
    let least = counts_within P n c.those d (λ x p. (c.exactly x).1 p) in
    omega (arith, most, least, c.count, d.count)

-- those of a list of different things
pub counts_list : {X : Type 0} → (xs : List X) → Differ xs → Counts (λ (x : X). Contains xs x) (length xs)
counts_list xs once = record {
  those = xs;
  once = once;
  exactly = λ x. (λ h. h, λ h. h);
  count = refl;
}
