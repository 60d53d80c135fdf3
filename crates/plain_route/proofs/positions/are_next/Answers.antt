use Rattle.std.proofs.Common.{◌≡◌, ◌↔◌, ℤ, ◌<ℤ◌, ◌++◌, Option, Some, IfSome, Contains, IsTrue, to_z, of_z, w64, subst, rules, arith}
use Rattle.std.proofs.lemmas.Int.{to_z-of_z}
use Rattle.std.specs.Int.Signed.{lt_z_yes}
use Rattle.track_graph.specs.Levels.{NoneBetween}
use Rattle.plain_route.proofs.PositionLemmas.{neighbours-up, up-neighbours, neighbours-down, down-neighbours}
use Rattle.plain_route.proofs.positions.are_next.Goals as goal

pub returns-then-from-to : goal.returns-then-from-to
returns-then-from-to c =
    let ps = c.args.under.now ++ c.args.over.now in
    let from : to_z w64 (of_z w64 c.args.from) ≡ c.args.from = to_z-of_z w64 _ c.ranges.from in
    let to : to_z w64 (of_z w64 c.args.to) ≡ c.args.to = to_z-of_z w64 _ c.ranges.to in
    let tested : to_z w64 (of_z w64 c.args.from) <ℤ to_z w64 (of_z w64 c.args.to) = let h = c.if-from-to.true in lt_z_yes (first_of (search rules, grind arith)) in
    let lt : c.args.from <ℤ c.args.to = rw (from, to) at tested in
    let at : IsTrue c.is_at.result ↔ (c.next_up.result ≡ Some c.args.to) = rw to at c.is_at.ensures in
    let past : IfSome c.next_up.result (λ z. Contains ps z × (c.args.from <ℤ z) × NoneBetween ps c.args.from z) = rw from at c.next_up.ensures.past in
    let next : (z : ℤ) → Contains ps z → c.args.from <ℤ z → NoneBetween ps c.args.from z → c.next_up.result ≡ Some z = rw from at c.next_up.ensures.next in (
      λ t.
          let h : Contains ps c.args.to × (c.args.from <ℤ c.args.to) × NoneBetween ps c.args.from c.args.to = subst (λ (o : Option ℤ). IfSome o (λ z. Contains ps z × (c.args.from <ℤ z) × NoneBetween ps c.args.from z)) (at.0 t) past in
          (h.0, neighbours-up ps c.args.from c.args.to lt h.2),
      λ h. at.1 (next c.args.to h.0 lt (up-neighbours ps c.args.from c.args.to lt h.1)),
    )

pub returns-then-to-from : goal.returns-then-to-from
returns-then-to-from c =
    let ps = c.args.under.now ++ c.args.over.now in
    let from : to_z w64 (of_z w64 c.args.from) ≡ c.args.from = to_z-of_z w64 _ c.ranges.from in
    let to : to_z w64 (of_z w64 c.args.to) ≡ c.args.to = to_z-of_z w64 _ c.ranges.to in
    let tested : to_z w64 (of_z w64 c.args.to) <ℤ to_z w64 (of_z w64 c.args.from) = let h = c.if-to-from.true in lt_z_yes (first_of (search rules, grind arith)) in
    let lt : c.args.to <ℤ c.args.from = rw (from, to) at tested in
    let at : IsTrue c.is_at-then-to-from.result ↔ (c.next_down.result ≡ Some c.args.to) = rw to at c.is_at-then-to-from.ensures in
    let past : IfSome c.next_down.result (λ z. Contains ps z × (z <ℤ c.args.from) × NoneBetween ps z c.args.from) = rw from at c.next_down.ensures.past in
    let next : (z : ℤ) → Contains ps z → z <ℤ c.args.from → NoneBetween ps z c.args.from → c.next_down.result ≡ Some z = rw from at c.next_down.ensures.next in (
      λ t.
          let h : Contains ps c.args.to × (c.args.to <ℤ c.args.from) × NoneBetween ps c.args.to c.args.from = subst (λ (o : Option ℤ). IfSome o (λ z. Contains ps z × (z <ℤ c.args.from) × NoneBetween ps z c.args.from)) (at.0 t) past in
          (h.0, neighbours-down ps c.args.from c.args.to lt h.2),
      λ h. at.1 (next c.args.to h.0 lt (down-neighbours ps c.args.from c.args.to lt h.1)),
    )
