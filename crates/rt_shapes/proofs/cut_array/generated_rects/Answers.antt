use Rattle.std.proofs.Common.{◌≡◌, ◌+◌, ◌-◌, ◌^◌, ◌<◌, [], ◌∷◌, ◌++◌, unsigned_abs, to_z, of_z, w64, rules, arith}
use Rattle.std.proofs.lemmas.Int.{ints, to_z-of_z}
use Rattle.std.proofs.lemmas.List.{append-nil}
use Rattle.std.proofs.lemmas.List.Elements.{All-nil, All-push, All-same}
use Rattle.rt_base.specs.Ranges.{AreSidesWithin}
use Rattle.rt_base.specs.Sides.{Sides}
use Rattle.rt_base.specs.declared.tech.LayerNo.{LayerNo}
use Rattle.rt_shapes.specs.GeneratedVias.{enclosing, row_of}
use Rattle.rt_shapes.proofs.Counting.{pieces_counted}
use Rattle.rt_shapes.proofs.cut_array.generated_rects.Goals as goal

pub loop-row-init : goal.loop-row-init
loop-row-init c =
    let f = c.args.form.now in
    let b0 : to_z w64 (of_z w64 f.enclosure.0) ≡ f.enclosure.0 = to_z-of_z w64 _ (search rules) in
    let b1 : to_z w64 (of_z w64 f.enclosure.1) ≡ f.enclosure.1 = to_z-of_z w64 _ (search rules) in
    let t0 : to_z w64 (of_z w64 f.enclosure.2) ≡ f.enclosure.2 = to_z-of_z w64 _ (search rules) in
    let t1 : to_z w64 (of_z w64 f.enclosure.3) ≡ f.enclosure.3 = to_z-of_z w64 _ (search rules) in
    let bottom : c.enclosing.result ≡ enclosing f f.enclosure.0 f.enclosure.1 = rw (b0, b1) at c.enclosing.ensures.exact in
    let top : c.enclosing-2.result ≡ enclosing f f.enclosure.2 f.enclosure.3 = rw (t0, t1) at c.enclosing-2.ensures.exact in
    let first : c.push.new.self.items ≡ (f.layers.0, enclosing f f.enclosure.0 f.enclosure.1) ∷ [] = rw (c.in_ok-out.ensures.items, bottom) at c.in_ok-push.ensures.items in
    let both : c.push-2.new.self.items ≡ (f.layers.0, enclosing f f.enclosure.0 f.enclosure.1) ∷ (f.layers.2, enclosing f f.enclosure.2 f.enclosure.3) ∷ [] = rw (first, top) at c.in_ok-push-2.ensures.items in
    let all : unsigned_abs f.rows - 0 ≡ unsigned_abs f.rows = omega arith in
    let P : LayerNo × Sides → Type 0 = λ r. AreSidesWithin (2 ^ 60 + 2 ^ 30) r.1 in
    let one = All-same P c.push.new.self.items (c.in_ok-out.out.items ++ (f.layers.0, c.enclosing.result) ∷ []) c.in_ok-push.ensures.items (All-push P c.in_ok-out.out.items (f.layers.0, c.enclosing.result) (All-same P c.in_ok-out.out.items [] c.in_ok-out.ensures.items (All-nil P)) c.enclosing.ensures.within) in
    record {
      same = rw (both, all);
      within = All-same P c.push-2.new.self.items (c.push.new.self.items ++ (f.layers.2, c.enclosing-2.result) ∷ []) c.in_ok-push-2.ensures.items (All-push P c.push.new.self.items (f.layers.2, c.enclosing-2.result) one c.enclosing-2.ensures.within);
    }

pub loop-row-preserved : goal.loop-row-preserved
loop-row-preserved c =
    let f = c.args.form.now in
    let lt : c.loop-row.row < unsigned_abs f.rows = omega (arith, ints) in
    record {
      same = pieces_counted (row_of f) c.loop-row.row (unsigned_abs f.rows) _ c.loop-row.out.items _ lt c.loop-row.invariant.same c.in_ok-add_row.ensures.exact;
      within = c.in_ok-add_row.ensures.within c.loop-row.invariant.within;
    }

pub returns-clause-value : goal.returns-clause-value
returns-clause-value c =
    let none : unsigned_abs c.args.form.now.rows - c.loop-row.row ≡ 0 = omega (arith, ints) in
    rw (none, append-nil) at c.loop-row.invariant.same
