use Rattle.std.proofs.Common.{◌∙◌, sym, refl, subst, length}
use Rattle.label_arena.specs.Lists.{Graph}
use Rattle.label_arena.specs.Plain.{IsInside}
use Rattle.interval_label.specs.Task.{IsPriced, AreStops}
use Rattle.interval_label.specs.Known.{HoldStops, IsWide}
use Rattle.interval_label.proofs.Stepping.{puts_from, field_at, spread_at}
use Rattle.interval_label.proofs.answer.put.Goals as goal

pub improved-best-requires-clause-priced : goal.improved-best-requires-clause-priced
improved-best-requires-clause-priced g c = subst (λ (k : Graph). IsPriced k) (sym c.in_ok-number.ensures.graph) c.requires.field.priced

pub improved-best-requires-clause-targets : goal.improved-best-requires-clause-targets
improved-best-requires-clause-targets g c = subst (λ (k : Graph). AreStops k c.args.targets.now) (sym c.in_ok-number.ensures.graph) c.requires.targets

pub improved-best-requires-clause-stops : goal.improved-best-requires-clause-stops
improved-best-requires-clause-stops g c = subst (λ (k : Graph). HoldStops k c.args.targets.now c.args.stops.now) (sym c.in_ok-number.ensures.graph) c.requires.stops

pub improved-best-requires-clause-inside : goal.improved-best-requires-clause-inside
improved-best-requires-clause-inside g c = subst (λ (k : Graph). IsInside k c.args.candidate.place) (sym c.in_ok-number.ensures.graph) c.requires.can.label_in

pub spread-requires-clause-field : goal.spread-requires-clause-field
spread-requires-clause-field g c = field_at c.args.arena.now.graph c.put.new.self.graph c.args.bound.now c.in_ok-number.ensures.graph c.requires.field

pub spread-requires-clause-can : goal.spread-requires-clause-can
spread-requires-clause-can g c = spread_at c.args.arena.now.graph c.put.new.self.graph c.args.bound.now c.args.search.now _ c.args.candidate c.in_ok-number.ensures.graph refl c.requires.can

pub spread-requires-clause-wide : goal.spread-requires-clause-wide
spread-requires-clause-wide g c = subst (λ (k : Graph). IsWide k c.args.known.now) (sym c.in_ok-number.ensures.graph) c.requires.wide

pub spread-requires-clause-indexed : goal.spread-requires-clause-indexed
spread-requires-clause-indexed g c = c.in_ok-number.ensures.indexed ∙ c.requires.indexed

pub returns-clause-ok : goal.returns-clause-ok
returns-clause-ok g c = puts_from c.args.arena.now.graph c.put.new.self.graph c.args.targets.now c.args.bound.now c.args.known.now (length c.args.arena.now.labels) c.in_ok-number.number c.args.search.now _ c.spread.new.self c.args.candidate c.in_ok-number.ensures.graph c.in_ok-number.ensures.number refl c.improved-best.ensures c.in_ok-spread.ensures.ok c.in_ok-spread.ensures.covers
