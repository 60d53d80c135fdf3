-- Bands and rows of shapes.
use Rattle.std.proofs.Common.{◌≡◌, ◌∙◌, ℕ, zero, suc, ◌^◌, ◌<◌, ◌≤◌, ℤ, Bool, true, false, ◌&&◌, ◌||◌, ◌==◌, Option, Some, None, List, [], ◌∷◌, ◌++◌, length, get_or, set, map, All, Contains, IsPermutation, Result, Ok, Err, OnOk, OnErr, refl, sym, ap, subst, arith}
use Rattle.std.specs.Bool.{OnTrue, OnFalse}
use Rattle.std.specs.List.{flat_map, list_any, AllWithin}
use Rattle.std.proofs.lemmas.Int.{ints, clamps}
use Rattle.std.proofs.lemmas.List.{append-nil, set-get_or, map-append}
use Rattle.std.proofs.lemmas.List.Elements.{All-contains}
use Rattle.std.proofs.lemmas.List.Sorted.{All-permutation, IsPermutation-map, IsPermutation-sym, IsPermutation-trans, IsPermutation-append_comm, IsPermutation-append_right}
use Rattle.rt_base.specs.Geometry.{hull_of_sides}
use Rattle.rt_base.specs.Ranges.{AreSidesWithin}
use Rattle.rt_base.specs.Sides.{Sides}
use Rattle.rt_base.specs.declared.tech.Shape.{Shape}
use Rattle.legality.specs.declared.rule.WireRule.{WireRule}
use Rattle.legality.specs.declared.mover.Mover.{Mover}
use Rattle.legality.specs.Forbidden.{is_near_at}
use Rattle.legality.specs.Gaps.{IsInside, gap_across}
use Rattle.legality.proofs.NearLemmas.{clear_inside}
use Rattle.shape_grid.proofs.Buckets.{more_in, less_in, same_in}
use Rattle.shape_grid.proofs.Tables.{in_part, any_parts}
use Rattle.legality.proofs.FoundLemmas.{any_same}
use Rattle.rt_base.specs.declared.tech.LayerNo.{LayerNo}
use Rattle.std.proofs.lemmas.Bool.Decides.{nat_tests}
use Rattle.std.proofs.lemmas.List.Concat.{flat_map-append}
use Rattle.std.proofs.lemmas.List.Folds.{list_any_none}
use Rattle.legality.specs.Rows.{RowOf, StandsIn, IsHull, kept_in, row_kept, all_kept}
use Rattle.legality.specs.Rules.{Kept, Says, IsKeptBy, kept_forbids, rule_forbids, wire_mover}
use Rattle.rt_base.specs.declared.tech.Tech.{Tech}

pub all_cons : {X : Type 0} (P : X → Type 0) (x : X) (xs : List X) → P x → All P xs → All P (x ∷ xs)
all_cons P x xs here rest zero d lt = here
all_cons P x xs here rest (suc k) d lt = rest k d (omega (arith, lt))

pub all_tail : {X : Type 0} (P : X → Type 0) (x : X) (xs : List X) → All P (x ∷ xs) → All P xs
all_tail P x xs all k d lt = all (suc k) d (omega (arith, lt))

inside_itself : (s : Sides) → IsInside s s
inside_itself s = record { left = omega (arith, ints); right = omega (arith, ints); low = omega (arith, ints); high = omega (arith, ints) }

inside_first : (h s i : Sides) → IsInside h i → IsInside (hull_of_sides h s) i
inside_first h s i p = record {
  left = omega (arith, ints, clamps, p.left);
  right = omega (arith, ints, clamps, p.right);
  low = omega (arith, ints, clamps, p.low);
  high = omega (arith, ints, clamps, p.high);
}

inside_second : (h s : Sides) → IsInside (hull_of_sides h s) s
inside_second h s = record {
  left = omega (arith, ints, clamps);
  right = omega (arith, ints, clamps);
  low = omega (arith, ints, clamps);
  high = omega (arith, ints, clamps);
}

-- the hull of one shape
pub hull_one : (x : Shape) (ys : List Shape) → AreSidesWithin (2 ^ 61) x.rect → IsPermutation (x ∷ []) ys → IsHull x.rect ys
hull_one x ys within moved =
    All-permutation (StandsIn x.rect) (x ∷ []) ys moved (all_cons (StandsIn x.rect) x [] (record { inside = inside_itself x.rect; within = within }) (λ k d lt. absurd (omega (arith, lt))))

-- of one shape more
pub hull_more : (h : Sides) (x : Shape) (xs ys : List Shape) → AreSidesWithin (2 ^ 61) x.rect → IsHull h xs → IsPermutation (x ∷ xs) ys → IsHull (hull_of_sides h x.rect) ys
hull_more h x xs ys within is moved =
    All-permutation (StandsIn (hull_of_sides h x.rect)) (x ∷ xs) ys moved
    (all_cons (StandsIn (hull_of_sides h x.rect)) x xs (record { inside = inside_second h x.rect; within = within }) (λ k d lt. record { inside = inside_first h x.rect _ (is k d lt).inside; within = (is k d lt).within }))

-- of one shape less
pub hull_less : (h : Sides) (x : Shape) (xs ys : List Shape) → IsHull h xs → IsPermutation (x ∷ ys) xs → IsHull h ys
hull_less h x xs ys is moved = all_tail (StandsIn h) x ys (All-permutation (StandsIn h) xs (x ∷ ys) (IsPermutation-sym (x ∷ ys) xs moved) is)

-- after a shape was put in, or not
pub hull_taken : (r : Bool) (h : Sides) (x : Shape) (xs ys : List Shape) → IsHull h xs → OnTrue r (IsPermutation (x ∷ ys) xs) → OnFalse r (ys ≡ xs) → IsHull h ys
hull_taken true h x xs ys is found same = hull_less h x xs ys is found
hull_taken false h x xs ys is found same = subst (IsHull h) (sym same) is

-- what isn't inside isn't among them
pub not_among : (h : Sides) (x : Shape) (xs : List Shape) → IsHull h xs → (IsInside h x.rect → ⊥) → Contains xs x → ⊥
not_among h x xs is out c = out (All-contains (StandsIn h) xs x is c).inside

-- all of them are in range
pub hull_sides : (h : Sides) (xs : List Shape) → IsHull h xs → All (λ (s : Shape). AreSidesWithin (2 ^ 61) s.rect) xs
hull_sides h xs is k d lt = (is k d lt).within

-- what is clear of a hull is near none of its shapes
pub hull_clear : (test : Shape → Bool) (m : Mover) (h : Sides) (xs : List Shape) → IsHull h xs → m.spacing ≤ gap_across m h → (z : ℤ) → list_any (λ s. test s && is_near_at m s.rect z) xs ≡ false
hull_clear test m h xs is clear z = list_any_none (λ s. test s && is_near_at m s.rect z) xs (λ k d lt. ap (λ (b : Bool). test (get_or xs k d) && b) (clear_inside m h (get_or xs k d).rect z (is k d lt).inside clear) ∙ no (test (get_or xs k d)))
  where
    no : (b : Bool) → (b && false) ≡ false
    no true = refl
    no false = refl

-- one shape more in a part, and one less
pub part_more : {A E X Y : Type 0} (r : Result A E) (f : Y → List X) (ys : List Y) (i : ℕ) (old new : Y) (x : X) → i < length ys → old ≡ get_or ys i old → OnOk r (IsPermutation (x ∷ f old) (f new)) → OnOk r (IsPermutation (x ∷ flat_map f ys) (flat_map f (set ys i new)))
part_more (Ok a) f ys i old new x less is more = more_in f ys i new old x less (rw (← is) more)
part_more (Err e) f ys i old new x less is more = tt

pub part_same : {A E X Y : Type 0} (r : Result A E) (f : Y → List X) (ys : List Y) (i : ℕ) (old new : Y) → old ≡ get_or ys i old → OnErr r (f new ≡ f old) → OnErr r (flat_map f (set ys i new) ≡ flat_map f ys)
part_same (Ok a) f ys i old new is same = tt
part_same (Err e) f ys i old new is same = same_in f ys i new old (rw (← is) same)

pub part_less : {X Y : Type 0} (f : Y → List X) (ys : List Y) (i : ℕ) (old new : Y) (x : X) → i < length ys → old ≡ get_or ys i old → IsPermutation (x ∷ f new) (f old) → IsPermutation (x ∷ flat_map f (set ys i new)) (flat_map f ys)
part_less f ys i old new x less is found = less_in f ys i new old x less (rw (← is) found)

-- a part written back as it was
pub part_back : {Y : Type 0} (ys : List Y) (i : ℕ) (old new : Y) → old ≡ get_or ys i old → new ≡ old → set ys i new ≡ ys
part_back ys i old new is same = ap (λ k. set ys i k) (same ∙ is) ∙ set-get_or ys i old

-- one more part, with one element
pub one_part : {X Y : Type 0} (f : Y → List X) (ys : List Y) (y : Y) (x : X) → IsPermutation (x ∷ []) (f y) → IsPermutation (x ∷ flat_map f ys) (flat_map f (ys ++ y ∷ []))
one_part f ys y x one =
    let all : flat_map f (ys ++ y ∷ []) ≡ flat_map f ys ++ f y = flat_map-append f ys (y ∷ []) ∙ ap (λ l. flat_map f ys ++ l) (append-nil (f y)) in
    rw all (IsPermutation-trans (x ∷ flat_map f ys) (flat_map f ys ++ x ∷ []) (flat_map f ys ++ f y) (IsPermutation-append_comm (x ∷ []) (flat_map f ys)) (IsPermutation-append_right (flat_map f ys) (x ∷ []) (f y) one))

-- what is in no part is nowhere
pub none_in_parts : {X Y : Type 0} (f : Y → List X) (ys : List Y) (n : ℕ) (x : X) → length ys ≡ n → AllWithin (λ y. Contains (f y) x → ⊥) ys 0 n → Contains (flat_map f ys) x → ⊥
none_in_parts {X} {Y} f ys n x long none c =
    let found = in_part f ys x c in
    by_default ys found.0 found.1 (λ d. none found.0 d (omega arith) (omega (arith, found.1)) (found.2 d))
  where
    by_default : (ys : List Y) (k : ℕ) → k < length ys → (Y → ⊥) → ⊥
    by_default [] k less fails = omega (arith, less)
    by_default (y ∷ ys) k less fails = fails y

-- shapes of a layer, one more and one less
pub layer_more : {A E : Type 0} (r : Result A E) (n : ℕ) (x : Shape) (old new : List Shape) → x.layer.0 ≡ n → All (λ (s : Shape). s.layer.0 ≡ n) old → OnOk r (IsPermutation (x ∷ old) new) → OnErr r (new ≡ old) → All (λ (s : Shape). s.layer.0 ≡ n) new
layer_more (Ok a) n x old new on all ok err = All-permutation (λ (s : Shape). s.layer.0 ≡ n) (x ∷ old) new ok (all_cons (λ (s : Shape). s.layer.0 ≡ n) x old on all)
layer_more (Err e) n x old new on all ok err = subst (All (λ (s : Shape). s.layer.0 ≡ n)) (sym err) all

pub layer_less : (n : ℕ) (x : Shape) (old new : List Shape) → All (λ (s : Shape). s.layer.0 ≡ n) old → IsPermutation (x ∷ new) old → All (λ (s : Shape). s.layer.0 ≡ n) new
layer_less n x old new all found = all_tail (λ (s : Shape). s.layer.0 ≡ n) x new (All-permutation (λ (s : Shape). s.layer.0 ≡ n) old (x ∷ new) (IsPermutation-sym (x ∷ new) old found) all)

pub not_on_layer : (n : ℕ) (x : Shape) (xs : List Shape) → All (λ (s : Shape). s.layer.0 ≡ n) xs → (n ≡ x.layer.0 → ⊥) → Contains xs x → ⊥
not_on_layer n x xs all other c = other (sym (All-contains (λ (s : Shape). s.layer.0 ≡ n) xs x all c))

-- a row's shapes with its rule
pub kept_any : (p : Kept → Bool) (rule : Option WireRule) (xs : List Shape) → list_any p (map (kept_in rule) xs) ≡ list_any (λ s. p (kept_in rule s)) xs
kept_any p rule [] = refl
kept_any p rule (x ∷ xs) = ap (λ (b : Bool). p (kept_in rule x) || b) (kept_any p rule xs)

pub kept_shapes : (rule : Option WireRule) (xs : List Shape) → map (λ (k : Kept). k.shape) (map (kept_in rule) xs) ≡ xs
kept_shapes rule [] = refl
kept_shapes rule (x ∷ xs) = ap (λ (l : List Shape). x ∷ l) (kept_shapes rule xs)

-- beside no rule, and beside the rule of another level, nothing is forbidden
pub rule_none : (test : Shape → Bool) (o : Option WireRule) (level : ℕ) (line : ℤ) (xs : List Shape) → ((z : ℤ) (rect : Sides) → rule_forbids o level line z rect ≡ false) → (z : ℤ) → list_any (λ s. test s && rule_forbids o level line z s.rect) xs ≡ false
rule_none test o level line xs none z = list_any_none (λ s. test s && rule_forbids o level line z s.rect) xs (λ k d lt. ap (λ (b : Bool). test (get_or xs k d) && b) (none z (get_or xs k d).rect) ∙ no (test (get_or xs k d)))
  where
    no : (b : Bool) → (b && false) ≡ false
    no true = refl
    no false = refl

pub no_rule : (o : Option WireRule) (level : ℕ) (line z : ℤ) (rect : Sides) → o ≡ None → rule_forbids o level line z rect ≡ false
no_rule o level line z rect is = subst (λ (r : Option WireRule). rule_forbids r level line z rect ≡ false) (sym is) refl

pub other_rule : (o : Option WireRule) (r : WireRule) (level : ℕ) (line z : ℤ) (rect : Sides) → o ≡ Some r → (r.level ≡ level → ⊥) → rule_forbids o level line z rect ≡ false
other_rule o r level line z rect is other = subst (λ (q : Option WireRule). rule_forbids q level line z rect ≡ false) (sym is) (ap (λ (b : Bool). b && is_near_at (wire_mover r line) rect z) (differ r.level level other))
  where
    differ : (m n : ℕ) → (m ≡ n → ⊥) → (m == n) ≡ false
    differ m n h = grind (arith, nat_tests)

pub this_rule : (o : Option WireRule) (r : WireRule) (m : Mover) (level : ℕ) (line at z : ℤ) (rect : Sides) → o ≡ Some r → r.level ≡ level → at ≡ line → m ≡ wire_mover r at → is_near_at m rect z ≡ rule_forbids o level line z rect
this_rule o r m level line at z rect is on along mover =
    subst (λ (q : Option WireRule). is_near_at m rect z ≡ rule_forbids q level line z rect) (sym is)
    (ap (λ (n : Mover). is_near_at n rect z) mover ∙ ap (λ (a : ℤ). is_near_at (wire_mover r a) rect z) along ∙ ap (λ (b : Bool). b && is_near_at (wire_mover r line) rect z) (sym (equal r.level level on)))
  where
    equal : (m n : ℕ) → m ≡ n → (m == n) ≡ true
    equal m n e = grind (arith, nat_tests)

-- a test of what is kept in rows
pub rows_any : (test : Shape → Bool) (level : ℕ) (line z : ℤ) (rows : List RowOf) → list_any (λ (r : RowOf). list_any (λ s. test s && rule_forbids r.rule level line z s.rect) r.shapes) rows ≡ list_any (λ (k : Kept). test k.shape && kept_forbids level line z k) (all_kept rows)
rows_any test level line z rows =
    any_same (λ (r : RowOf). list_any (λ s. test s && rule_forbids r.rule level line z s.rect) r.shapes) (λ (r : RowOf). list_any (λ (k : Kept). test k.shape && kept_forbids level line z k) (row_kept r)) rows
    (λ r. sym (kept_any (λ (k : Kept). test k.shape && kept_forbids level line z k) r.rule r.shapes))
    ∙ any_parts (λ (k : Kept). test k.shape && kept_forbids level line z k) row_kept rows

-- shapes of a layer after one was taken out, or not
pub layer_taken : (r : Bool) (n : ℕ) (x : Shape) (olds news : List Shape) → All (λ (s : Shape). s.layer.0 ≡ n) olds → OnTrue r (IsPermutation (x ∷ news) olds) → OnFalse r (news ≡ olds) → All (λ (s : Shape). s.layer.0 ≡ n) news
layer_taken true n x olds news all found same = layer_less n x olds news all found
layer_taken false n x olds news all found same = subst (All (λ (s : Shape). s.layer.0 ≡ n)) (sym same) all

-- what is kept in a row with one shape less
pub row_less : (old new : RowOf) (x : Shape) → new.rule ≡ old.rule → IsPermutation (x ∷ new.shapes) old.shapes → IsPermutation (kept_in old.rule x ∷ row_kept new) (row_kept old)
row_less old new x rule found = subst (λ (o : Option WireRule). IsPermutation (kept_in old.rule x ∷ map (kept_in o) new.shapes) (row_kept old)) (sym rule) (IsPermutation-map (kept_in old.rule) (x ∷ new.shapes) old.shapes found)

-- and with one more
pub row_more : {A E : Type 0} (r : Result A E) (old new : RowOf) (x : Shape) → new.rule ≡ old.rule → OnOk r (IsPermutation (x ∷ old.shapes) new.shapes) → OnOk r (IsPermutation (kept_in old.rule x ∷ row_kept old) (row_kept new))
row_more (Ok a) old new x rule more = subst (λ (o : Option WireRule). IsPermutation (kept_in old.rule x ∷ row_kept old) (map (kept_in o) new.shapes)) (sym rule) (IsPermutation-map (kept_in old.rule) (x ∷ old.shapes) new.shapes more)
row_more (Err e) old new x rule more = tt

pub row_same : {A E : Type 0} (r : Result A E) (old new : RowOf) → new.rule ≡ old.rule → OnErr r (new.shapes ≡ old.shapes) → OnErr r (row_kept new ≡ row_kept old)
row_same (Ok a) old new rule same = tt
row_same (Err e) old new rule same = ap (λ (o : Option WireRule). map (kept_in o) new.shapes) rule ∙ ap (map (kept_in old.rule)) same

-- a row's first shape
pub row_first : (old new : RowOf) (layer : LayerNo) (rule : Option WireRule) (x : Shape) → old ≡ record { layer = layer; rule = rule; shapes = [] } → new.rule ≡ old.rule → IsPermutation (x ∷ old.shapes) new.shapes → IsPermutation (kept_in rule x ∷ []) (row_kept new)
row_first old new layer rule x is same one =
    let rules : new.rule ≡ rule = same ∙ ap (λ (r : RowOf). r.rule) is in
    let ones : IsPermutation (x ∷ []) new.shapes = subst (λ (l : List Shape). IsPermutation (x ∷ l) new.shapes) (ap (λ (r : RowOf). r.shapes) is) one in
    subst (λ (o : Option WireRule). IsPermutation (kept_in rule x ∷ []) (map (kept_in o) new.shapes)) (sym rules) (IsPermutation-map (kept_in rule) (x ∷ []) new.shapes ones)

-- the shapes of all rows
pub rows_shapes : (rows : List RowOf) → map (λ (k : Kept). k.shape) (all_kept rows) ≡ flat_map (λ (r : RowOf). r.shapes) rows
rows_shapes [] = refl
rows_shapes (r ∷ rs) = map-append (λ (k : Kept). k.shape) (row_kept r) (all_kept rs) ∙ ap (λ (l : List Shape). l ++ map (λ (k : Kept). k.shape) (all_kept rs)) (kept_shapes r.rule r.shapes) ∙ ap (λ (l : List Shape). r.shapes ++ l) (rows_shapes rs)

-- one more in its row, with what the technology says beside it
pub added : {A E : Type 0} (r : Result A E) (tech : Tech) (s : Shape) (rule : Option WireRule) (olds news : List Kept) → Says tech s rule → OnOk r (IsPermutation (kept_in rule s ∷ olds) news) → OnOk r ((k : Kept) × IsKeptBy tech s k × IsPermutation (k ∷ olds) news)
added (Ok a) tech s rule olds news says more = (kept_in rule s, record { shape = refl; rule = says }, more)
added (Err e) tech s rule olds news says more = tt
