use Rattle.std.proofs.Common.{◌≡◌, ◌<◌, ℕ, List, length, All, subst, sym, arith}
use Rattle.track_graph.specs.Entries.{IsEntry}
use Rattle.track_graph.specs.Metal.{Metal}
use Rattle.pin_access.specs.declared.die_tracks.DieLevel.{DieLevel}
use Rattle.pin_access.specs.Counts.{Counts}
use Rattle.pin_access.specs.DieTracks.{IsNearSome, IsNearOne}
use Rattle.pin_access.specs.Nearby.{IsRect}
use Rattle.pin_access.proofs.CountLemmas.{count_inside, count_outside, some_rects}
use Rattle.pin_access.proofs.counting.count_entries.Goals as goal

pub returns-then-inside-gt0-clause-count : goal.returns-then-inside-gt0-clause-count
returns-then-inside-gt0-clause-count c g pin are =
    let t = c.args.tracks.now in
    let rects = c.args.rects.now in
    subst (λ (n : ℕ). Counts (IsEntry g pin c.args.rects.now) n) (sym c.from.ensures)
    (count_inside g t pin rects c.in_ok-inside.inside are c.if-inside-gt0.true
    (subst (λ (ls : List DieLevel). 0 < length ls → All (λ (m : Metal). IsRect m.1) c.args.rects.now) c.as_slice-levels.ensures c.in_ok-inside.ensures.rects)
    (subst (λ (ls : List DieLevel). Counts (IsNearSome ls 0 c.args.rects.now) c.in_ok-inside.inside) c.as_slice-levels.ensures c.in_ok-inside.ensures.count))

pub returns-then-inside-gt0-clause-most : goal.returns-then-inside-gt0-clause-most
returns-then-inside-gt0-clause-most c =
    let some = some_rects c.as_slice-levels.result.now 0 c.args.rects.now c.in_ok-inside.inside c.if-inside-gt0.true c.in_ok-inside.ensures.count in
    omega (arith, some, c.from.ensures, c.in_ok-inside.ensures.most)

pub returns-clause-count : goal.returns-clause-count
returns-clause-count c g pin are =
    let t = c.args.tracks.now in
    let rects = c.args.rects.now in
    let none : c.in_ok-inside.inside ≡ 0 = omega (arith, c.if-inside-gt0.false) in
    count_outside g t pin rects c.in_ok-stubs.stubs are
    (subst (λ (n : ℕ). Counts (IsNearSome c.args.tracks.now.levels 0 c.args.rects.now) n) none (subst (λ (ls : List DieLevel). Counts (IsNearSome ls 0 c.args.rects.now) c.in_ok-inside.inside) c.as_slice-levels.ensures c.in_ok-inside.ensures.count))
    (subst (λ (ls : List DieLevel). Counts (IsNearOne ls c.args.rects.now) c.in_ok-stubs.stubs) c.as_slice-levels.ensures c.in_ok-stubs.ensures.count)
