-- Items by their names.
use Rattle.std.proofs.Common.{◌≡◌, ◌≢◌, ℕ, zero, suc, ◌+◌, ◌<◌, ◌≤◌, List, [], ◌∷◌, ◌++◌, Bool, true, false, ◌||◌, cond, Option, Some, None, is_some, not, position, map, AllPairs, length, get_or, take, slice_get, option_and_then, bytes_eq, refl, sym, ap, subst, ◌∙◌, inl, inr, arith}
use Rattle.std.specs.List.{cons_option, filter, filter_map, find, list_any, position_from, position_or_len}
use Rattle.std.proofs.lemmas.Bool.{cases_Bool, cases_lt, lt-ltb, le-ltb, both_ways}
use Rattle.std.proofs.lemmas.Option.{slice_get_past}
use Rattle.std.specs.Option.{option_to_list}
use Rattle.std.proofs.lemmas.List.{append-nil, take_more, map_push, get_or-map, length-map}
use Rattle.std.proofs.lemmas.List.Elements.{filter_more, filter_map-append}
use Rattle.std.proofs.lemmas.List.Filters.{length-filter_both}
use Rattle.std.proofs.lemmas.List.Folds.{find_at}
use Rattle.std.proofs.lemmas.Iterator.Adapters.{position_from-zero}
use Rattle.rt_words.proofs.Words.{unequal}
use Rattle.rt_base.specs.Sides.{Sides}
use Rattle.rt_base.specs.declared.tech.Layer.{Layer}
use Rattle.guide_text.specs.IsGuides.{Box}
use Rattle.net_guides.specs.NetGuides.{level_names, box_among}

-- what stands before an item, and the item
pub next : {X : Type 0} → (xs : List X) (i : ℕ) (x : X) → i < length xs → x ≡ get_or xs i x → take (i + 1) xs ≡ take i xs ++ x ∷ []
next {X} xs i x within at = take_more xs i x within ∙ ap (λ (y : X). take i xs ++ y ∷ []) (sym at)

pub map_next : {X Y : Type 0} → (f : X → Y) (xs : List X) (i : ℕ) (x : X) → i < length xs → x ≡ get_or xs i x → map f (take (i + 1) xs) ≡ map f (take i xs) ++ f x ∷ []
map_next f xs i x within at = ap (map f) (next xs i x within at) ∙ map_push f (take i xs) x

-- a name that differs from each before it isn't among these
pub apart_name : {X : Type 0} → (name : X → List ℕ) (xs : List X) (i : ℕ) (x : X) → AllPairs (λ a b. name a ≢ name b) xs → i < length xs → x ≡ get_or xs i x → list_any (bytes_eq (name x)) (map name (take i xs)) ≡ false
apart_name name [] i x apart within at = absurd (omega arith)
apart_name name (y ∷ ys) zero x apart within at = refl
apart_name {X} name (y ∷ ys) (suc i) x apart within at =
    let differs : name y ≢ name x = subst (λ (z : X). name y ≢ name z) (sym at) (apart zero (suc i) x (omega arith) within) in
    let miss : bytes_eq (name x) (name y) ≡ false = unequal (name x) (name y) (λ e. differs (sym e)) in
    let tail : AllPairs (λ a b. name a ≢ name b) ys = λ k j d lt inside. apart (suc k) (suc j) d (omega arith) (omega arith) in
    rw miss (apart_name name ys i x tail (omega arith) at)

-- names that are apart, by the items that have them
pub apart_items : {X : Type 0} → (name : X → List ℕ) (xs : List X) → AllPairs (λ a b. a ≢ b) (map name xs) → AllPairs (λ a b. name a ≢ name b) xs
apart_items name xs h i j d lt within e =
    h i j (name d) lt (omega (arith, length-map xs name)) (get_or-map name xs i d (name d) (omega arith) ∙ e ∙ sym (get_or-map name xs j d (name d) within))

-- what isn't among the names of some items isn't among those of fewer
pub none_kept : {X : Type 0} → (test : List ℕ → Bool) (name : X → List ℕ) (keep : X → Bool) (xs : List X) → list_any test (map name xs) ≡ false → list_any test (map name (filter keep xs)) ≡ false
none_kept test name keep [] none = refl
none_kept {X} test name keep (x ∷ xs) none = by_test (test (name x)) refl (none_kept test name keep xs)
  where
    by_keep : (b : Bool) → test (name x) ≡ false → list_any test (map name (filter keep xs)) ≡ false → list_any test (map name (cond b (x ∷ filter keep xs) (filter keep xs))) ≡ false
    by_keep true miss rest = rw miss rest
    by_keep false miss rest = rest

    by_test : (b : Bool) → test (name x) ≡ b → (list_any test (map name xs) ≡ false → list_any test (map name (filter keep xs)) ≡ false) → list_any test (map name (cond (keep x) (x ∷ filter keep xs) (filter keep xs))) ≡ false
    by_test true hit later = absurd (both_ways _ none (rw hit refl))
    by_test false miss later = by_keep (keep x) miss (later (rw miss at none))

-- whether some item has a name
pub any_named : {X : Type 0} → (test : List ℕ → Bool) (name : X → List ℕ) (xs : List X) → list_any test (map name xs) ≡ list_any (λ (x : X). test (name x)) xs
any_named test name [] = refl
any_named test name (x ∷ xs) = ap (λ (b : Bool). test (name x) || b) (any_named test name xs)

some_from : {X : Type 0} → (p : X → Bool) (n : ℕ) (xs : List X) → is_some (position_from p n xs) ≡ list_any p xs
some_from p n [] = refl
some_from {X} p n (x ∷ xs) =
    elim (cases_Bool (p x)) [
      | inl hit ↦ rw hit refl
      | inr miss ↦ rw miss (some_from p (n + 1) xs)
    ]

-- there is a first place where some place is
pub some_place : {X : Type 0} → (p : X → Bool) (xs : List X) → is_some (position p xs) ≡ list_any p xs
some_place p xs = ap is_some (position_from-zero p xs) ∙ some_from p 0 xs

place_from : {X : Type 0} → (test : List ℕ → Bool) (name : X → List ℕ) (n : ℕ) (xs : List X) → position_from test n (map name xs) ≡ position_from (λ (x : X). test (name x)) n xs
place_from test name n [] = refl
place_from {X} test name n (x ∷ xs) = ap (λ (o : Option ℕ). cond (test (name x)) (Some n) o) (place_from test name (n + 1) xs)

found_place : {X : Type 0} → (p : X → Bool) (xs : List X) → find p xs ≡ option_and_then (slice_get xs) (position p xs)
found_place {X} p xs =
    find_at p xs
    ∙ elim (cases_lt (position_or_len p xs) (length xs)) [
      | inl within ↦ rw (lt-ltb (position_or_len p xs) (length xs) within) refl
      | inr past ↦ rw (le-ltb (position_or_len p xs) (length xs) past) (slice_get_past xs (position_or_len p xs) past)
    ]

-- the item that is found by its name, by the name's place
pub found_named : {X : Type 0} → (test : List ℕ → Bool) (name : X → List ℕ) (xs : List X) → option_and_then (slice_get xs) (position test (map name xs)) ≡ find (λ (x : X). test (name x)) xs
found_named {X} test name xs =
    ap (option_and_then (slice_get xs)) (position_from-zero test (map name xs) ∙ place_from test name 0 xs ∙ sym (position_from-zero (λ (x : X). test (name x)) xs))
    ∙ sym (found_place (λ (x : X). test (name x)) xs)

-- a name that is new among these is added at the end
pub added : (names more : List (List ℕ)) (bytes name : List ℕ) (is_new : Bool) → bytes ≡ name → is_new ≡ not (list_any (bytes_eq bytes) names) → more ≡ cond is_new (names ++ bytes ∷ []) names → list_any (bytes_eq name) names ≡ false → more ≡ names ++ name ∷ []
added names more bytes name is_new same new is fresh =
    is
    ∙ ap (λ (b : Bool). cond b (names ++ bytes ∷ []) names) (new ∙ ap (λ (n : List ℕ). not (list_any (bytes_eq n) names)) same ∙ ap not fresh)
    ∙ ap (λ (n : List ℕ). names ++ n ∷ []) same

levels_next : (layers : List Layer) (i : ℕ) (layer : Layer) (b : Bool) → i < length layers → layer ≡ get_or layers i layer → layer.routing ≡ b → level_names (take (i + 1) layers) ≡ map (λ (l : Layer). l.name) (filter (λ (l : Layer). l.routing) (take i layers) ++ cond b (layer ∷ []) [])
levels_next layers i layer b within at routing =
    ap (map (λ (l : Layer). l.name))
    (filter_more (λ (l : Layer). l.routing) layers i layer within
    ∙ ap (λ (l : Layer). filter (λ (l : Layer). l.routing) (take i layers) ++ cond l.routing (l ∷ []) []) (sym at)
    ∙ ap (λ (c : Bool). filter (λ (l : Layer). l.routing) (take i layers) ++ cond c (layer ∷ []) []) routing)

-- one more layer, which is a routing layer or isn't
pub levels_more : (layers : List Layer) (i : ℕ) (layer : Layer) → i < length layers → layer ≡ get_or layers i layer → layer.routing ≡ true → level_names (take (i + 1) layers) ≡ level_names (take i layers) ++ layer.name ∷ []
levels_more layers i layer within at routing = levels_next layers i layer true within at routing ∙ map_push (λ (l : Layer). l.name) (filter (λ (l : Layer). l.routing) (take i layers)) layer

pub levels_skip : (layers : List Layer) (i : ℕ) (layer : Layer) → i < length layers → layer ≡ get_or layers i layer → layer.routing ≡ false → level_names (take (i + 1) layers) ≡ level_names (take i layers)
levels_skip layers i layer within at routing = levels_next layers i layer false within at routing ∙ ap (map (λ (l : Layer). l.name)) (append-nil (filter (λ (l : Layer). l.routing) (take i layers)))

-- one more box, which is on one of these levels or on none
pub boxes_more : (levels : List (List ℕ)) (boxes : List Box) (i : ℕ) (box : Box) (o : Option (ℕ × Sides)) → i < length boxes → box ≡ get_or boxes i box → box_among levels box ≡ o → filter_map (box_among levels) (take (i + 1) boxes) ≡ filter_map (box_among levels) (take i boxes) ++ option_to_list o
boxes_more levels boxes i box o within at is =
    ap (filter_map (box_among levels)) (next boxes i box within at)
    ∙ filter_map-append (box_among levels) (take i boxes) (box ∷ [])
    ∙ ap (λ (p : Option (ℕ × Sides)). filter_map (box_among levels) (take i boxes) ++ cons_option p []) is
    ∙ ap (λ (bs : List (ℕ × Sides)). filter_map (box_among levels) (take i boxes) ++ bs) (alone o)
  where
    alone : (p : Option (ℕ × Sides)) → cons_option p [] ≡ option_to_list p
    alone None = refl
    alone (Some b) = refl

-- no more levels than layers
pub level_count : (layers : List Layer) → length (level_names layers) ≤ length layers
level_count layers =
    omega
    (arith, length-map (filter (λ (l : Layer). l.routing) layers) (λ (l : Layer). l.name), length-filter_both (λ (l : Layer). l.routing) (λ (l : Layer). not l.routing) (λ l. refl) layers)
