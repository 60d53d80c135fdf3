use Rattle.std.proofs.Common.{◌≡◌, ◌+◌, ◌∙◌, sym, ap, arith, get_or, Some, None, pos}
use Rattle.std.proofs.lemmas.Option.{slice_get-get_or, same_Some}
use Rattle.rt_base.specs.declared.walk.EntryKind.TheVariants.{Pin}
use Rattle.least_walk.specs.declared.graph.Stop.{Stop}
use Rattle.least_walk.specs.declared.label.Label.{Label}
use Rattle.least_walk.specs.declared.label.Best.{Best}
use Rattle.least_walk.specs.Known.{number_of}
use Rattle.least_walk.specs.Labels.{label_at}
use Rattle.least_walk.proofs.Lists.{label_read}
use Rattle.least_walk.proofs.Ending.{noted, improved_new}
use Rattle.least_walk.proofs.label.Search.improve.Goals as goal

pub returns-else-so_far-cost : goal.returns-else-so_far-cost
returns-else-so_far-cost c =
    let none : Stop = record { entry = record { vertex = record { level = 0; point = record { x = pos 0; y = pos 0 } }; kind = Pin 0 }; cost = 0 } in
    let got : label_at c.args.self.now.labels.items c.args.number ≡ c.index-label.result.now = label_read _ _ c.index-label.result.now c.requires.number c.index-label.ensures in
    let number = sym c.in-Some.is ∙ c.get.ensures ∙ ap (λ (x : Label). number_of c.args.ends.now x.vertex) (sym got) in
    let u : Stop = get_or c.args.targets.now c.in-Some.place none in
    improved_new _ _ _ _ _ c.requires.ends c.in-Some.place u number
    (slice_get-get_or c.args.targets.now c.in-Some.place none (noted _ _ _ _ _ c.requires.ends (sym number)))
    _ (ap (λ (x : Label). x.dist + u.cost) (sym got)) c.requires.number
    (λ b e. let i = ap (λ (x : Best). x.cost) (same_Some c.in-Some-best.so_far b (sym c.in-Some-best.is ∙ e)) in omega (arith, i, c.if-so_far-cost.false))

pub returns-in_default-best : goal.returns-in_default-best
returns-in_default-best c =
    let none : Stop = record { entry = record { vertex = record { level = 0; point = record { x = pos 0; y = pos 0 } }; kind = Pin 0 }; cost = 0 } in
    let got : label_at c.args.self.now.labels.items c.args.number ≡ c.index-label.result.now = label_read _ _ c.index-label.result.now c.requires.number c.index-label.ensures in
    let number = sym c.in-Some.is ∙ c.get.ensures ∙ ap (λ (x : Label). number_of c.args.ends.now x.vertex) (sym got) in
    let u : Stop = get_or c.args.targets.now c.in-Some.place none in
    improved_new _ _ _ _ _ c.requires.ends c.in-Some.place u number
    (slice_get-get_or c.args.targets.now c.in-Some.place none (noted _ _ _ _ _ c.requires.ends (sym number)))
    _ (ap (λ (x : Label). x.dist + u.cost) (sym got)) c.requires.number
    (λ b e. absurd (clash (sym c.in_default-best.is ∙ e)))
  where
    clash : {b : Best} → None ≡ Some b → ⊥
    clash e = cc
