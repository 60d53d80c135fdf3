-- Items that are read one by one: the values of their answers, and the first fault.
use Rattle.std.proofs.Common.{◌≡◌, ℕ, ◌+◌, ◌<◌, ◌≤◌, List, [], ◌∷◌, length, map, get_or, drop, Result, Ok, Err, Some, arith, refl, add-one, drop-cons}
use Rattle.def_wires.specs.declared.error.WireFault.{WireFault}
use Rattle.fixed_wires.specs.FixedWires.{first_fault, values}

drop_next : {B : Type 0} (items : List B) (i : ℕ) (d : B) → i < length items → drop i items ≡ get_or items i d ∷ drop (i + 1) items
drop_next items i d within = rw add-one (drop-cons items i d within)

-- the next item has a value
pub value_next : {A B : Type 0} (said : B → Result A WireFault) (items : List B) (i : ℕ) (d : B) (a : A) → i < length items → said (get_or items i d) ≡ Ok a → values (map said (drop i items)) ≡ a ∷ values (map said (drop (i + 1) items))
value_next said items i d a within h = rw (drop_next items i d within, h) refl

pub no_fault_next : {A B : Type 0} (said : B → Result A WireFault) (items : List B) (i : ℕ) (d : B) (a : A) → i < length items → said (get_or items i d) ≡ Ok a → first_fault (map said (drop i items)) ≡ first_fault (map said (drop (i + 1) items))
no_fault_next said items i d a within h = rw (drop_next items i d within, h) refl

-- no more values than answers
pub values_few : {A B : Type 0} (said : B → Result A WireFault) (items : List B) → length (values (map said items)) ≤ length items
values_few said [] = omega arith
values_few {A} {B} said (b ∷ items) = by_answer (said b) (values_few said items)
  where
    by_answer : (r : Result A WireFault) → length (values (map said items)) ≤ length items → length (values (r ∷ map said items)) ≤ length (b ∷ items)
    by_answer (Ok a) h = omega (arith, h)
    by_answer (Err e) h = omega (arith, h)
