use Rattle.std.proofs.Common.{◌≤◌, ◌-◌, subst, sym, arith}
use Rattle.rt_forms.specs.Reading.{rest}
use Rattle.rt_forms.proofs.Skips.{lawful_up_to, takes_up_to}
use Rattle.def_text.specs.Faults.{def_faults}
use Rattle.def_text.specs.declared.def.DefVia.{DefVia}
use Rattle.def_text.specs.Defs.{IsNameWord}
use Rattle.def_text.specs.Vias.{IsDefVia}
use Rattle.def_text.proofs.Ranges.{left_taken}
use Rattle.def_text.proofs.Listing.{listed_more}
use Rattle.def_text.proofs.vias.via_item.Goals as goal

pub returns-clause-sound : goal.returns-clause-sound
returns-clause-sound c =
    let named = subst (λ n. IsNameWord n) (sym c.in_ok-new.ensures) c.in_ok-word.ensures.name in
    let taken = left_taken def_faults rest (lawful_up_to _) (takes_up_to _) c.name.new.words c.rest.new.self tt c.in_ok-rest.ensures.0 in
    let ordered : c.here-first.result ≤ c.here-past.result - 1 = omega (arith, c.here-first.ensures, c.here-past.ensures, taken) in
    let within : c.here-past.result - 1 ≤ c.args.total = omega (arith, c.here-past.ensures) in
    rw (c.in_ok-new_name.ensures.added, c.in_ok-push.ensures.ok, c.saturating_sub.ensures)
    (listed_more (IsDefVia c.args.total) (λ (v : DefVia). v.name) c.args.listed.now c.in_ok-word.word.bytes.now
    (record { name = c.in_ok-new.field-0; tokens = (c.here-first.result, c.here-past.result - 1) })
    c.args.listed.now.skipped c.requires c.in_ok-new_name.ensures.fresh
    (record { name = named; tokens = (ordered, within) }) c.in_ok-new.ensures)
