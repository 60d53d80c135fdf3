-- Shapes in their buckets.
use Rattle.std.proofs.Common.{◌≡◌, ℕ, ◌*◌, ◌^◌, ◌<◌, ◌≤◌, List, [], ◌∷◌, ◌++◌, Bool, true, false, Result, Ok, Err, OnOk, OnErr, All, Contains, IsPermutation, length, get_or, set, length-set, get_or-set_same, get_or-set_other, ap, sym, ◌∙◌, inl, inr, arith}
use Rattle.std.specs.Bool.{OnTrue, OnFalse}
use Rattle.std.proofs.lemmas.Bool.{cases_eq}
use Rattle.std.proofs.lemmas.List.{get_or_default}
use Rattle.std.proofs.lemmas.List.Elements.{Contains-push_cases, Contains-append_right, Contains-get_or}
use Rattle.std.proofs.lemmas.List.Sorted.{Contains-permutation, IsPermutation-to_front, IsPermutation-sym}
use Rattle.rt_base.specs.declared.tech.Shape.{Shape}
use Rattle.shape_grid.specs.declared.size.Size.{Size}
use Rattle.shape_grid.specs.Cells.{Suits, Stands, AreStanding, bucket_of, all_of}
use Rattle.shape_grid.proofs.Buckets.{in_bucket, out_of_bucket, more_in, less_in}

-- buckets of which one is written anew
pub standing_set : (size : Size) (columns rows : ℕ) (bs : List (List Shape)) (i : ℕ) (new : List Shape) → AreStanding size columns rows bs → i < length bs → ((s : Shape) → Contains new s → Stands size columns rows s i) → AreStanding size columns rows (set bs i new)
standing_set size columns rows bs i new st less all =
    record {
      wide = st.wide;
      tall = st.tall;
      broad = st.broad;
      high = st.high;
      many = length-set bs i new ∙ st.many;
      stands = λ b s c. each b s c;
    }
  where
    each : (b : ℕ) (s : Shape) → Contains (get_or (set bs i new) b []) s → Stands size columns rows s b
    each b s c = elim (cases_eq b i) [
      | inl same ↦ (let here : get_or (set bs i new) b [] ≡ new = ap (λ (k : ℕ). get_or (set bs i new) k []) same ∙ get_or-set_same bs i new [] less in rw same (all s (rw (← here) c)))
      | inr other ↦ (let there : get_or (set bs i new) b [] ≡ get_or bs b [] = get_or-set_other bs i b new [] other in st.stands b s (rw (← there) c))
    ]

-- what stands in a bucket stands there in its place
pub placed : (size : Size) (columns rows : ℕ) (bs : List (List Shape)) (i : ℕ) (old : List Shape) → AreStanding size columns rows bs → i < length bs → old ≡ get_or bs i old → (s : Shape) → Contains old s → Stands size columns rows s i
placed size columns rows bs i old st less is s c =
    let same : old ≡ get_or bs i [] = is ∙ get_or_default bs i old [] less in
    st.stands i s (rw (← same) c)

-- a shape of the size is put into its bucket, or not
pub after_put : {A E : Type 0} (r : Result A E) (size : Size) (columns rows : ℕ) (bs : List (List Shape)) (i : ℕ) (old new : List Shape) (x : Shape) → AreStanding size columns rows bs → i < length bs → i ≡ bucket_of size columns rows x.rect → Suits size x → old ≡ get_or bs i old → OnOk r (new ≡ old ++ x ∷ []) → OnErr r (new ≡ old) → AreStanding size columns rows (set bs i new)
after_put (Ok a) size columns rows bs i old new x st less at suits is ok err =
    standing_set size columns rows bs i new st less each
  where
    each : (s : Shape) → Contains new s → Stands size columns rows s i
    each s c = elim (Contains-push_cases old x s (rw (← ok) c)) [
      | inl before ↦ placed size columns rows bs i old st less is s before
      | inr same ↦ rw (← same) (record { suits = suits; at = at })
    ]
after_put (Err e) size columns rows bs i old new x st less at suits is ok err =
    standing_set size columns rows bs i new st less (λ s c. placed size columns rows bs i old st less is s (rw (← err) c))

-- then it is one more of all
pub one_more : {A E : Type 0} (r : Result A E) (bs : List (List Shape)) (i : ℕ) (old new : List Shape) (x : Shape) → i < length bs → old ≡ get_or bs i old → OnOk r (new ≡ old ++ x ∷ []) → OnOk r (IsPermutation (x ∷ all_of bs) (all_of (set bs i new)))
one_more (Ok a) bs i old new x less is ok =
    more_in (λ b. b) bs i new old x less (rw (← is, ok) (IsPermutation-sym _ _ (IsPermutation-to_front old x)))
one_more (Err e) bs i old new x less is ok = tt

-- a shape is taken out of its bucket, or not
pub after_take : (r : Bool) (size : Size) (columns rows : ℕ) (bs : List (List Shape)) (i : ℕ) (old new : List Shape) (x : Shape) → AreStanding size columns rows bs → i < length bs → old ≡ get_or bs i old → OnTrue r (IsPermutation (x ∷ new) old) → OnFalse r (new ≡ old) → AreStanding size columns rows (set bs i new)
after_take true size columns rows bs i old new x st less is found same =
    standing_set size columns rows bs i new st less (λ s c. placed size columns rows bs i old st less is s (Contains-permutation (x ∷ new) old s found (Contains-append_right (x ∷ []) new s c)))
after_take false size columns rows bs i old new x st less is found same =
    standing_set size columns rows bs i new st less (λ s c. placed size columns rows bs i old st less is s (rw (← same) c))

-- then it is one less of all
pub one_less : (r : Bool) (bs : List (List Shape)) (i : ℕ) (old new : List Shape) (x : Shape) → i < length bs → old ≡ get_or bs i old → OnTrue r (IsPermutation (x ∷ new) old) → OnTrue r (IsPermutation (x ∷ all_of (set bs i new)) (all_of bs))
one_less true bs i old new x less is found = less_in (λ b. b) bs i new old x less (rw (← is) found)
one_less false bs i old new x less is found = tt

-- and a shape that is not in its bucket is nowhere
pub nowhere : (r : Bool) (size : Size) (columns rows : ℕ) (bs : List (List Shape)) (i : ℕ) (old : List Shape) (x : Shape) → AreStanding size columns rows bs → i < length bs → i ≡ bucket_of size columns rows x.rect → old ≡ get_or bs i old → OnFalse r (Contains old x → ⊥) → OnFalse r (Contains (all_of bs) x → ⊥)
nowhere true size columns rows bs i old x st less at is absent = tt
nowhere false size columns rows bs i old x st less at is absent = λ c.
    let found = in_bucket bs x c in
    let there = found.0 in
    let same : there ≡ i = (st.stands there x found.2).at ∙ sym at in
    let here : old ≡ get_or bs i [] = is ∙ get_or_default bs i old [] less in
    absent (rw (here, ← same) found.2)

-- buckets with nothing in them
pub standing_empty : (size : Size) (columns rows : ℕ) (bs : List (List Shape)) → size.wide < 64 → size.tall < 64 → columns ≤ 20 → rows ≤ 20 → length bs ≡ 2 ^ columns * 2 ^ rows → all_of bs ≡ [] → AreStanding size columns rows bs
standing_empty size columns rows bs wide tall broad high many empty =
    record {
      wide = wide;
      tall = tall;
      broad = broad;
      high = high;
      many = many;
      stands = λ b s c. none s (rw empty at (out_of_bucket bs b s c));
    }
  where
    none : {A : Type 0} (x : Shape) → Contains [] x → A
    none x c = absurd (omega (arith, c.1))

-- what stands in a bucket is of the size
pub suits_in : (size : Size) (columns rows : ℕ) (bs cs : List (List Shape)) (i : ℕ) (item old : List Shape) → AreStanding size columns rows bs → cs ≡ bs → i < length cs → item ≡ get_or cs i item → old ≡ item → All (Suits size) old
suits_in size columns rows bs cs i item old st same less is copy k d within =
    let here : i < length bs = rw (← same) less in
    let at : item ≡ get_or bs i item = rw same at is in
    let c : Contains item (get_or old k d) = rw (← copy) (Contains-get_or old k d within) in
    (placed size columns rows bs i item st here at (get_or old k d) c).suits

-- a shape of another layer is nowhere
pub not_there : (size : Size) (columns rows : ℕ) (bs : List (List Shape)) (x : Shape) → AreStanding size columns rows bs → (size.layer.0 ≡ x.layer.0 → ⊥) → Contains (all_of bs) x → ⊥
not_there size columns rows bs x st other c =
    let found = in_bucket bs x c in
    other (sym (st.stands found.0 x found.2).suits.layer)
