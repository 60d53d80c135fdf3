use Rattle.std.proofs.Common.{◌+◌, ℕ, List, [], ◌∷◌, take, get_or, sym, subst, arith}
use Rattle.std.proofs.lemmas.List.{get_or_default}
use Rattle.track_graph.specs.Entries.{no_metal}
use Rattle.track_graph.specs.Metal.{Metal}
use Rattle.pin_access.specs.Counts.{Counts}
use Rattle.pin_access.specs.DieTracks.{IsNearSome, IsNearOne}
use Rattle.pin_access.proofs.CountLemmas.{of_more}
use Rattle.pin_access.proofs.EntryLemmas.{single_part}
use Rattle.pin_access.proofs.counting.count_stubs.Goals as goal

pub loop-k-preserved : goal.loop-k-preserved
loop-k-preserved c =
    let rects = c.args.rects.now in
    let k = c.loop-k.k in
    let m = get_or rects k no_metal in
    let one : Counts (IsNearSome c.args.levels.now 2 (get_or c.args.rects.now c.loop-k.k no_metal ∷ [])) c.in_ok-count_near.field-0 = subst (λ (ms : List Metal). Counts (IsNearSome c.args.levels.now 2 ms) c.in_ok-count_near.field-0) (single_part rects k no_metal c.loop-k-test.true) c.in_ok-count_near.ensures.count in
    let more = of_more (λ (n : Metal). IsNearSome c.args.levels.now 2 (n ∷ [])) rects k m c.loop-k.count c.in_ok-count_near.field-0 c.loop-k-test.true (get_or_default rects k no_metal m c.loop-k-test.true) c.loop-k.invariant.0 one in (
      subst (λ (n : ℕ). Counts (IsNearOne c.args.levels.now (take (c.loop-k.k + 1) c.args.rects.now)) (c.loop-k.count + n)) (sym c.from.ensures) more,
      omega (arith, c.loop-k.invariant.1, c.in_ok-count_near.ensures.most, c.from.ensures),
    )
