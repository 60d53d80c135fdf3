use Rattle.std.proofs.Common.{◌≡◌, ◌++◌, ◌+◌, ◌<◌, ◌≤◌, Bool, false, List, drop, get_or, length, sym, subst, ap, ◌∙◌, arith}
use Rattle.std.proofs.lemmas.List.{append-nil, get_or_default}
use Rattle.rt_base.specs.declared.walk.Entry.{Entry}
use Rattle.plain_route.specs.Stops.{pin_entries}
use Rattle.plain_route.proofs.EntryLists.{pin_entries-more}
use Rattle.plain_route.proofs.EntryLists.{drop_past}
use Rattle.plain_route.proofs.entries.pin_entries.Goals as goal

pub loop-i-init : goal.loop-i-init
loop-i-init c = ap (λ (xs : List Entry). xs ++ pin_entries c.args.wanted c.args.joined.now c.args.pins.now) c.new-entries.ensures

pub loop-i-preserved : goal.loop-i-preserved
loop-i-preserved c =
    let i = c.loop-i.i in
    let joined = c.args.joined.now in
    let pins = c.args.pins.now in
    let within : i < length joined = omega (arith, c.loop-i-test.true, c.requires) in
    subst (λ (xs : List Entry). xs ++ pin_entries c.args.wanted (drop (i + 1) joined) (drop (i + 1) pins) ≡ pin_entries c.args.wanted joined pins) (sym c.in_ok-add_pin.ensures)
    (pin_entries-more c.args.wanted joined pins i (get_or joined i false) c.index-pins-i.result c.loop-i.entries (pin_entries c.args.wanted joined pins) within c.loop-i-test.true (get_or_default joined i _ false within) (sym c.index-pins-i.is) c.loop-i.invariant)

pub returns : goal.returns
returns c =
    let past : length c.args.joined.now ≤ c.loop-i.i = omega (arith, c.loop-i-test.false, c.requires) in
    sym (append-nil c.loop-i.entries) ∙ subst (λ (bs : List Bool). c.loop-i.entries ++ pin_entries c.args.wanted bs (drop c.loop-i.i c.args.pins.now) ≡ pin_entries c.args.wanted c.args.joined.now c.args.pins.now) (drop_past c.loop-i.i c.args.joined.now past) c.loop-i.invariant
