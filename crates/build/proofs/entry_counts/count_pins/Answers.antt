use Rattle.std.proofs.Common.{◌≡◌, ◌∙◌, ℕ, List, subst, arith}
use Rattle.std.proofs.lemmas.List.{take_all}
use Rattle.track_graph.specs.Entries.{IsEntry}
use Rattle.track_graph.specs.Metal.{Metal}
use Rattle.pin_access.specs.Counts.{Counts}
use Rattle.build.specs.EntryCounts.{PinsHave}
use Rattle.build.specs.Ground.{input_on, system_on}
use Rattle.build.specs.LookUps.{connected_rects}
use Rattle.build.proofs.EntryTotals.{pins_none, pins_more}
use Rattle.build.proofs.PinRects.{are_metal, are_few, are_at_most, are_within}
use Rattle.build.proofs.entry_counts.count_pins.Goals as goal

pub loop-connection-init : goal.loop-connection-init
loop-connection-init c = (pins_none (input_on c.args.on.now).lef (input_on c.args.on.now).def (system_on c.args.on.now), omega arith)

pub count_entries-requires : goal.count_entries-requires
count_entries-requires c =
    let on = c.args.on.now in
    let is : c.deref.result.now ≡ connected_rects (input_on c.args.on.now).lef (input_on c.args.on.now).def c.connection-item.result = c.deref.ensures.value ∙ c.in_ok-rects.ensures in
    record {
      tracks = c.requires.tracks;
      rects = are_within on.tech.now c.deref.result.now (are_metal on c.connection-item.result c.deref.result.now c.requires.ground is);
      count = are_few on c.connection-item.result c.deref.result.now c.requires.ground is;
    }

pub overflow_add-count : goal.overflow_add-count
overflow_add-count c =
    let is : c.deref.result.now ≡ connected_rects (input_on c.args.on.now).lef (input_on c.args.on.now).def c.connection-item.result = c.deref.ensures.value ∙ c.in_ok-rects.ensures in
    let few = are_at_most c.args.on.now c.connection-item.result c.deref.result.now c.requires.ground is in
    omega (arith, few, c.in_ok-count.ensures.most, c.loop-connection.invariant.1, c.loop-connection-test.true, c.requires.few)

pub loop-connection-preserved : goal.loop-connection-preserved
loop-connection-preserved c =
    let lef = (input_on c.args.on.now).lef in
    let def = (input_on c.args.on.now).def in
    let g = system_on c.args.on.now in
    let k = c.loop-connection.connection-index in
    let is : c.deref.result.now ≡ connected_rects (input_on c.args.on.now).lef (input_on c.args.on.now).def c.connection-item.result = c.deref.ensures.value ∙ c.in_ok-rects.ensures in
    let few = are_at_most c.args.on.now c.connection-item.result c.deref.result.now c.requires.ground is in
    let n = c.in_ok-count.field-0 in
    let here : Counts (IsEntry (system_on c.args.on.now) c.loop-connection.connection-index (connected_rects (input_on c.args.on.now).lef (input_on c.args.on.now).def c.connection-item.result)) c.in_ok-count.field-0 = subst (λ (ms : List Metal). Counts (IsEntry g k ms) n) is (c.in_ok-count.ensures.count g k c.requires.of) in (
      pins_more lef def g c.args.connections.now k c.connection-item.result c.loop-connection.count n c.loop-connection-test.true c.connection-item.is c.loop-connection.invariant.0 here,
      omega (arith, few, c.in_ok-count.ensures.most, c.loop-connection.invariant.1),
    )

pub returns-clause-count : goal.returns-clause-count
returns-clause-count c = subst (λ (cs : List (List ℕ × List ℕ)). PinsHave (input_on c.args.on.now).lef (input_on c.args.on.now).def (system_on c.args.on.now) cs c.loop-connection.count) (take_all c.loop-connection.connection-index c.args.connections.now c.loop-connection-test.false) c.loop-connection.invariant.0

pub returns-clause-most : goal.returns-clause-most
returns-clause-most c = omega (arith, c.loop-connection.invariant.1, c.loop-connection.auto.connection-index-end, c.requires.few)
