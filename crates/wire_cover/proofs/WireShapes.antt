-- The wire of an even width between two points of a line is the hull of the squares round both.
use Rattle.std.proofs.Common.{Bool, true, false, cond, not, ◌∙◌, ◌≡◌, ◌≢◌, ◌⊎◌, ⊎_elim, ◌%◌, ℤ, pos, negsuc, ◌+ℤ◌, ◌-ℤ◌, unsigned_abs, Some, None, refl, sym, arith}
use Rattle.std.specs.Int.{int_min, int_max}
use Rattle.std.specs.Int.Signed.{lt_z, le_z}
use Rattle.std.specs.Ordering.{int_eq}
use Rattle.std.proofs.lemmas.Bool.{false≢true}
use Rattle.std.proofs.lemmas.Bool.Decides.{Decides-int_eq, nat_tests}
use Rattle.std.proofs.lemmas.Int.{ints, clamps}
use Rattle.rt_base.specs.Geometry.{hull_of, distance, grown}
use Rattle.rt_base.specs.Ranges.{IsWidth}
use Rattle.rt_base.specs.declared.geometry.Point.{Point}
use Rattle.rt_base.specs.declared.geometry.Span.{Span}
use Rattle.def_wires.specs.Meaning.{half, box_of, across, along, wire_between}

-- an even width less its half is its half
rest_is_half : (w : ℤ) → IsWidth w → (w -ℤ half w) ≡ half w
rest_is_half (pos n) h = let even : n % 2 ≡ 0 = h.2 in omega (arith, ints)
rest_is_half (negsuc n) h = absurd (omega (arith, ints, h.0))

not_under : (a b : ℤ) → le_z a b ≡ not (lt_z b a)
not_under (pos a) (pos b) = grind (arith, nat_tests)
not_under (pos a) (negsuc b) = refl
not_under (negsuc a) (pos b) = refl
not_under (negsuc a) (negsuc b) = grind (arith, nat_tests)

-- both ways along a line
along_is : (a b e : ℤ) → along a e b e ≡ record { lo = int_min a b -ℤ e; hi = int_max a b +ℤ e }
along_is a b e = rw (not_under a b) (by_test (lt_z b a))
  where
    by_test : (t : Bool) → cond (not t) (let s : Span = record { lo = a -ℤ e; hi = b +ℤ e } in s) (record { lo = b -ℤ e; hi = a +ℤ e }) ≡ record { lo = cond t b a -ℤ e; hi = cond t a b +ℤ e }
    by_test true = refl
    by_test false = refl

-- the hull of two equal numbers
min_same : (a b : ℤ) → a ≡ b → int_min a b ≡ a
min_same a b same = omega (arith, ints, clamps)

max_same : (a b : ℤ) → a ≡ b → int_max a b ≡ a
max_same a b same = omega (arith, ints, clamps)

no_way : (a b : Point) → a.x ≡ b.x → a.y ≡ b.y → distance a b ≡ 0
no_way a b x y = omega (arith, ints, nothing a.x b.x x, nothing a.y b.y y)
  where
    nothing : (u v : ℤ) → u ≡ v → unsigned_abs (u -ℤ v) ≡ 0
    nothing u v same = let zero : (u -ℤ v) ≡ pos 0 = omega (arith, ints) in rw zero refl

pub wire_is : (w : ℤ) (a b : Point) → IsWidth w → (a.x ≡ b.x) ⊎ (a.y ≡ b.y) → distance a b ≢ 0 → wire_between w a (half w) b (half w) ≡ Some (grown (hull_of a b) (half w))
wire_is w a b width straight apart = by_y (int_eq a.y b.y) refl
  where
    flat : a.y ≡ b.y → Some (box_of (along a.x (half w) b.x (half w)) (across a.y w)) ≡ Some (grown (hull_of a b) (half w))
    flat y = rw (along_is a.x b.x (half w), rest_is_half w width, min_same a.y b.y y, max_same a.y b.y y) refl

    upright : a.x ≡ b.x → Some (box_of (across a.x w) (along a.y (half w) b.y (half w))) ≡ Some (grown (hull_of a b) (half w))
    upright x = rw (along_is a.y b.y (half w), rest_is_half w width, min_same a.x b.x x, max_same a.x b.x x) refl

    by_x : (t : Bool) → int_eq a.x b.x ≡ t → a.y ≡ b.y → cond t None (Some (box_of (along a.x (half w) b.x (half w)) (across a.y w))) ≡ Some (grown (hull_of a b) (half w))
    by_x true x y = absurd (apart (no_way a b ((Decides-int_eq a.x b.x).0 x) y))
    by_x false x y = flat y

    by_y : (t : Bool) → int_eq a.y b.y ≡ t → cond t (cond (int_eq a.x b.x) None (Some (box_of (along a.x (half w) b.x (half w)) (across a.y w)))) (Some (box_of (across a.x w) (along a.y (half w) b.y (half w)))) ≡ Some (grown (hull_of a b) (half w))
    by_y true y = by_x (int_eq a.x b.x) refl ((Decides-int_eq a.y b.y).0 y)
    by_y false y = ⊎_elim
        (λ (x : a.x ≡ b.x). upright x)
        (λ (same : a.y ≡ b.y). absurd (false≢true (sym y ∙ (Decides-int_eq a.y b.y).1 same)))
        straight
