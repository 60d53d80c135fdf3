use Rattle.std.proofs.Common.{ℕ, List, length, sym, ap, subst, arith}
use Rattle.std.proofs.lemmas.List.{take_all}
use Rattle.def_text.specs.declared.def.DefNet.{DefNet}
use Rattle.def_text.specs.Defs.{IsDefNet}
use Rattle.build.specs.EntryCounts.{PinsHave, NetsHave}
use Rattle.build.specs.Ground.{input_on, system_on}
use Rattle.build.proofs.EntryTotals.{nets_none, nets_more}
use Rattle.build.proofs.entry_counts.count_nets.Goals as goal

pub loop-net-init : goal.loop-net-init
loop-net-init c = (nets_none (input_on c.args.on.now) (system_on c.args.on.now), omega arith)

pub count_pins-requires-clause-few : goal.count_pins-requires-clause-few
count_pins-requires-clause-few c =
    let is : IsDefNet c.net-item.result = subst IsDefNet (sym c.net-item.is) (c.requires.nets c.loop-net.net-index c.net-item.result c.loop-net-test.true) in
    omega (arith, ap length c.as_slice.ensures, is.pin_count)

pub overflow_add-count : goal.overflow_add-count
overflow_add-count c = omega (arith, c.in_ok-count.ensures.most, c.loop-net.invariant.1, c.loop-net-test.true, c.requires.few)

pub loop-net-preserved : goal.loop-net-preserved
loop-net-preserved c =
    let i = input_on c.args.on.now in
    let g = system_on c.args.on.now in
    let k = c.loop-net.net-index in
    let n = c.in_ok-count.field-0 in
    let here : PinsHave (input_on c.args.on.now).lef (input_on c.args.on.now).def (system_on c.args.on.now) c.net-item.result.pins c.in_ok-count.field-0 = subst (λ (cs : List (List ℕ × List ℕ)). PinsHave i.lef i.def g cs n) c.as_slice.ensures c.in_ok-count.ensures.count in (
      nets_more i g c.args.nets.now k c.net-item.result c.loop-net.count n c.loop-net-test.true c.net-item.is c.loop-net.invariant.0 here,
      omega (arith, c.in_ok-count.ensures.most, c.loop-net.invariant.1),
    )

pub returns : goal.returns
returns c = subst (λ (ns : List DefNet). NetsHave (input_on c.args.on.now) (system_on c.args.on.now) ns c.loop-net.count) (take_all c.loop-net.net-index c.args.nets.now c.loop-net-test.false) c.loop-net.invariant.0
