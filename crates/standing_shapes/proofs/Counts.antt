-- Shapes added to others: one, and one list after another.
use Rattle.std.proofs.Common.{◌≡◌, ◌+◌, ◌≤◌, List, [], ◌∷◌, ◌++◌, refl, arith}
use Rattle.std.specs.List.{sum_by}
use Rattle.std.specs.List.Sorted.{IsPermutation}
use Rattle.std.proofs.lemmas.List.Sorted.{sum_by-IsPermutation}
use Rattle.std.proofs.lemmas.List.Sums.{sum_by-append, sum_by-cons}
use Rattle.rt_base.specs.declared.tech.Shape.{Shape}
use Rattle.standing_shapes.specs.Standing.{AreAdded, AreAmong}

-- nothing is added
pub AreAdded-none : (old : List Shape) → AreAdded [] old old
AreAdded-none old measure = omega arith

-- one shape is added
pub AreAdded-one : (a : Shape) (old new : List Shape) → IsPermutation (a ∷ old) new → AreAdded (a ∷ []) old new
AreAdded-one a old new h measure =
    let moved : sum_by measure new ≡ sum_by measure (a ∷ old) = sum_by-IsPermutation measure (a ∷ old) new h in
    let first : sum_by measure (a ∷ old) ≡ measure a + sum_by measure old = sum_by-cons measure a old in
    let alone : sum_by measure (a ∷ []) ≡ measure a + sum_by measure [] = sum_by-cons measure a [] in
    let nothing : sum_by measure [] ≡ 0 = refl in
    omega arith

-- some are added and then others
pub AreAdded-append : (xs ys first then last : List Shape) → AreAdded xs first then → AreAdded ys then last → AreAdded (xs ++ ys) first last
AreAdded-append xs ys first then last h k measure =
    let parts : sum_by measure (xs ++ ys) ≡ sum_by measure xs + sum_by measure ys = sum_by-append measure xs ys in
    let early : sum_by measure then ≡ sum_by measure xs + sum_by measure first = h measure in
    let late : sum_by measure last ≡ sum_by measure ys + sum_by measure then = k measure in
    omega arith

-- some are taken and then others
pub AreAdded-prepend : (xs ys first then last : List Shape) → AreAdded xs then first → AreAdded ys last then → AreAdded (xs ++ ys) last first
AreAdded-prepend xs ys first then last h k measure =
    let parts : sum_by measure (xs ++ ys) ≡ sum_by measure xs + sum_by measure ys = sum_by-append measure xs ys in
    let early : sum_by measure first ≡ sum_by measure xs + sum_by measure then = h measure in
    let late : sum_by measure then ≡ sum_by measure ys + sum_by measure last = k measure in
    omega arith

-- those that are taken next are still there
pub AreAmong-next : (part next rest now first : List Shape) → AreAmong ((part ++ next) ++ rest) first → AreAdded part now first → AreAmong next now
AreAmong-next part next rest now first among added measure =
    let all : sum_by measure ((part ++ next) ++ rest) ≡ sum_by measure (part ++ next) + sum_by measure rest = sum_by-append measure (part ++ next) rest in
    let parts : sum_by measure (part ++ next) ≡ sum_by measure part + sum_by measure next = sum_by-append measure part next in
    let taken : sum_by measure first ≡ sum_by measure part + sum_by measure now = added measure in
    let had : sum_by measure ((part ++ next) ++ rest) ≤ sum_by measure first = among measure in
    omega arith
