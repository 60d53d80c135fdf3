-- The first fault of a list, item by item.
use Rattle.std.proofs.Common.{unwrap_or, min, sum_by, ◌*◌, ◌^◌, ◌-◌, ◌≡◌, ◌≢◌, ℕ, ◌+◌, ◌<◌, ◌≤◌, All, inl, inr, List, [], ◌∷◌, ◌++◌, length, get_or, take, drop, Option, Some, None, Result, IsErrAnd, refl, sym, ap, subst, ◌∙◌, arith}
use Rattle.std.specs.Option.{option_or}
use Rattle.std.proofs.lemmas.Result.{err_from_is_err_and}
use Rattle.std.proofs.lemmas.List.{take_more, drop_more, take-append-drop}
use Rattle.std.proofs.lemmas.Bool.{cases_lt, lt-ltb}
use Rattle.std.proofs.lemmas.List.Elements.{All-cons, All-weaker}
use Rattle.std.proofs.lemmas.Option.{none-some}
use Rattle.rt_base.specs.Tiles.{columns_of, rows_of}
use Rattle.rt_base.specs.declared.grid.Grid.{Grid}
use Rattle.rt_base.specs.declared.tech.Layer.{Layer}
use Rattle.rt_base.specs.declared.tech.Shape.{Shape}
use Rattle.rt_base.specs.declared.tech.Tech.{Tech}
use Rattle.track_graph.specs.declared.design.Net.{Net}
use Rattle.build.specs.declared.error.BuildError.{BuildError}
use Rattle.build.specs.declared.error.BuildError.TheVariants.{Memory as OutOfMemory, Limit}
use Rattle.build.specs.declared.error.Limited.{Limited}
use Rattle.build.specs.declared.error.Limited.TheVariants.{RoutingLayers, Tracks, FixedShapes, Coordinate, Entries, Tiles, TileShapes}
use Rattle.build.specs.Built.{fixed_of}
use Rattle.build.specs.Faults.{first_of, first_by, lines_said, limit_fault, largest_coordinate, level_fault, guide_fault, unit_fault, section_fault, level_and_guide_fault, name_fault, count_faults, count_fault, entry_count, met_count, size_fault}
use Rattle.build.specs.Findings.{Finds}
use Rattle.build.specs.Inputs.{Input}
use Rattle.build.specs.LookUps.{layer_names_of, net_names}
use Rattle.build.specs.TrackLines.{line_count, routing_layers}
use Rattle.build.specs.Indexes.{Tells}

option_or_assoc : {X : Type 0} → (a b c : Option X) → option_or a (option_or b c) ≡ option_or (option_or a b) c
option_or_assoc None b c = refl
option_or_assoc (Some x) b c = refl

pub first_by-append : {X : Type 0} → (test : X → Option BuildError) (xs ys : List X) → first_by test (xs ++ ys) ≡ option_or (first_by test xs) (first_by test ys)
first_by-append test [] ys = refl
first_by-append test (x ∷ xs) ys = ap (option_or (test x)) (first_by-append test xs ys) ∙ option_or_assoc (test x) (first_by test xs) (first_by test ys)

-- no fault before an item, and none of the item
pub none_more : {X : Type 0} → (test : X → Option BuildError) (xs : List X) (i : ℕ) (x : X) → i < length xs → x ≡ get_or xs i x → first_by test (take i xs) ≡ None → test x ≡ None → first_by test (take (i + 1) xs) ≡ None
none_more {X} test xs i x within at none here =
    ap (first_by test) (take_more xs i x within ∙ ap (λ (y : X). take i xs ++ y ∷ []) (sym at))
    ∙ first_by-append test (take i xs) (x ∷ [])
    ∙ ap (λ (f : Option BuildError). option_or f (option_or (test x) None)) none
    ∙ ap (λ (f : Option BuildError). option_or f None) here

-- the fault of the first item that has one
pub first_at : {X : Type 0} → (test : X → Option BuildError) (xs : List X) (i : ℕ) (x : X) (e : BuildError) → i < length xs → x ≡ get_or xs i x → first_by test (take i xs) ≡ None → test x ≡ Some e → first_by test xs ≡ Some e
first_at {X} test xs i x e within at none here =
    let parts : xs ≡ take i xs ++ (x ∷ drop (i + 1) xs) =
    sym (take-append-drop i xs) ∙ ap (λ (ys : List X). take i xs ++ ys) (drop_more xs i x within ∙ ap (λ (y : X). y ∷ drop (i + 1) xs) (sym at)) in
    ap (first_by test) parts
    ∙ first_by-append test (take i xs) (x ∷ drop (i + 1) xs)
    ∙ ap (λ (f : Option BuildError). option_or f (first_by test (x ∷ drop (i + 1) xs))) none
    ∙ ap (λ (f : Option BuildError). option_or f (first_by test (drop (i + 1) xs))) here

-- an exit by `?` with a fault of an item, where values are answered
pub found_fault : {A : Type 0} → (kind : A → Type 0) (r : Result A BuildError) (x : BuildError) (f g : Option BuildError) → IsErrAnd r (λ e. e ≡ x) → (x ≢ OutOfMemory → f ≡ Some x) → (f ≡ Some x → g ≡ Some x) → Finds kind r g
found_fault kind r x f g is tells follows =
    let p = err_from_is_err_and r is in
    rw (p.1, p.2) (λ other. follows (tells other))

pub found_memory : {A : Type 0} → (kind : A → Type 0) (r : Result A BuildError) (g : Option BuildError) → IsErrAnd r (λ e. e ≡ OutOfMemory) → Finds kind r g
found_memory kind r g is =
    let p = err_from_is_err_and r is in
    rw (p.1, p.2) (λ other. absurd (other refl))

-- an exit by `?` with a fault of an item tells the fault of all
pub told_fault : (r : Result (Unit {0}) BuildError) (x : BuildError) (f g : Option BuildError) → IsErrAnd r (λ e. e ≡ x) → (x ≢ OutOfMemory → f ≡ Some x) → (f ≡ Some x → g ≡ Some x) → Tells r g
told_fault r x f g is tells follows =
    let p = err_from_is_err_and r is in
    rw (p.1, p.2) (λ other. follows (tells other))

-- an exit for want of memory tells nothing
pub told_memory : (r : Result (Unit {0}) BuildError) (g : Option BuildError) → IsErrAnd r (λ e. e ≡ OutOfMemory) → Tells r g
told_memory r g is =
    let p = err_from_is_err_and r is in
    rw (p.1, p.2) (λ other. absurd (other refl))

-- a test that is told of the same fault
pub told_same : (r : Result (Unit {0}) BuildError) (f g : Option BuildError) → f ≡ g → Tells r f → Tells r g
told_same r f g same h = subst (Tells r) same h

-- where no fault stands, none of the parts has one
pub option_or_none : {X : Type 0} → (a b : Option X) → option_or a b ≡ None → (a ≡ None) × (b ≡ None)
option_or_none None b h = (refl, h)
option_or_none (Some x) b h = cc

pub none_each : {X : Type 0} → (test : X → Option BuildError) (xs : List X) → first_by test xs ≡ None → All (λ x. test x ≡ None) xs
none_each test [] h = λ k d lt. absurd (omega arith)
none_each test (x ∷ xs) h =
    let p = option_or_none (test x) (first_by test xs) h in
    All-cons (λ x. test x ≡ None) x xs p.0 (none_each test xs p.1)

-- a count without a fault is at most its most
pub limit_none : (what : Limited) (count most : ℕ) → limit_fault what count most ≡ None → count ≤ most
limit_none what count most h =
    elim (cases_lt most count) [
      | inl above ↦ absurd (none-some (Limit what count most) (sym h ∙ (rw (lt-ltb most count above) refl)))
      | inr within ↦ within
    ]

-- the first of two faults
pub fault_here : {X : Type 0} → (a b : Option X) (x : X) → a ≡ Some x → option_or a b ≡ Some x
fault_here a b x h = ap (λ o. option_or o b) h

pub fault_later : {X : Type 0} → (a b c : Option X) → a ≡ None → b ≡ c → option_or a b ≡ c
fault_later a b c h k = ap (λ o. option_or o b) h ∙ k

-- a test after one that finds nothing finds what both do
pub found_later : {A : Type 0} → (kind : A → Type 0) (r : Result A BuildError) (a b : Option BuildError) → a ≡ None → Finds kind r b → Finds kind r (option_or a b)
found_later kind r a b none h = subst (Finds kind r) (sym (ap (λ o. option_or o b) none)) h

-- faults of which there are none
abbrev pub AllNone : List (Option BuildError) → Type 0
AllNone [] = Unit {0}
AllNone (f ∷ fs) = (f ≡ None) × AllNone fs

pub none_all : (fs : List (Option BuildError)) → first_of fs ≡ None → AllNone fs
none_all [] h = tt
none_all (f ∷ fs) h =
    let p = option_or_none f (first_of fs) h in
    (p.0, none_all fs p.1)

pub all_none : (fs : List (Option BuildError)) → AllNone fs → first_of fs ≡ None
all_none [] n = refl
all_none (f ∷ fs) n = fault_later f (first_of fs) None n.0 (all_none fs n.1)

-- what the fault of names rules out: too many levels
levels_within : (i : Input) → level_and_guide_fault i ≡ None → length (routing_layers i.lef.layers) ≤ 16
unfolding level_and_guide_fault
levels_within i h =
    let n = none_all (
    first_by (level_fault i.def.tracks) (routing_layers i.lef.layers)
    ∷ first_by (guide_fault (layer_names_of i.lef) (net_names i.def.nets)) (unwrap_or i.guides [])
    ∷ limit_fault RoutingLayers (length (routing_layers i.lef.layers)) 16
    ∷ []) h in
    limit_none RoutingLayers (length (routing_layers i.lef.layers)) 16 n.1.1.0

pub few_levels : (i : Input) → name_fault i ≡ None → length (routing_layers i.lef.layers) ≤ 16
unfolding name_fault
few_levels i h =
    let n = none_all (unit_fault i ∷ section_fault i ∷ level_and_guide_fault i ∷ []) h in
    levels_within i n.1.1.0

-- what the fault of counts rules out: too many lines of a level, too many shapes, and shapes too far off
pub record Counted (i : Input) : Type 0 where
  pub lines : All (λ (l : Layer). line_count l i.def.tracks ≤ 65536) (routing_layers i.lef.layers)
  pub shapes : length (fixed_of i) ≤ 4194304
  pub near : largest_coordinate (fixed_of i) ≤ 1073741824

few_lines : (n : ℕ) → min n (2 ^ 128 - 1) ≤ 65536 → n ≤ 65536
few_lines n h = omega arith

pub counted : (i : Input) (tech : Tech) → count_fault i tech ≡ None → Counted i
counted i tech h =
    let n = none_all (count_faults i tech) h in
    record {
      lines = All-weaker (λ (l : Layer). limit_fault Tracks (lines_said l i.def.tracks) 65536 ≡ None) (λ (l : Layer). line_count l i.def.tracks ≤ 65536) (λ l e. few_lines (line_count l i.def.tracks) (limit_none Tracks (lines_said l i.def.tracks) 65536 e)) (routing_layers i.lef.layers) (none_each (λ (l : Layer). limit_fault Tracks (lines_said l i.def.tracks) 65536) (routing_layers i.lef.layers) n.1.0);
      shapes = limit_none FixedShapes (length (fixed_of i)) 4194304 n.1.1.1.0;
      near = limit_none Coordinate (largest_coordinate (fixed_of i)) 1073741824 n.1.1.1.1.0;
    }

-- what the fault of sizes rules out: too many tiles
pub few_tiles : (grid : Grid) (fixed : List Shape) (nets : List Net) → size_fault grid fixed nets ≡ None → columns_of grid * rows_of grid ≤ 1048576
few_tiles grid fixed nets h =
    let n = none_all (limit_fault Entries (entry_count nets) 16777216 ∷ limit_fault Tiles (columns_of grid * rows_of grid) 1048576 ∷ limit_fault TileShapes (sum_by (λ (s : Shape). met_count grid s.rect) fixed) 16777216 ∷ []) h in
    limit_none Tiles (columns_of grid * rows_of grid) 1048576 n.1.0
