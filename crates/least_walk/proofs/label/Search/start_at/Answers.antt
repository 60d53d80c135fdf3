use Rattle.std.proofs.Common.{ℕ, ◌≡◌, ◌+◌, ◌∙◌, sym, ap, refl, arith, get_or, slice_get, Some, pos}
use Rattle.std.proofs.lemmas.Option.{slice_get-get_or}
use Rattle.rt_base.specs.declared.walk.EntryKind.TheVariants.{Pin}
use Rattle.least_walk.specs.declared.graph.Stop.{Stop}
use Rattle.least_walk.proofs.Lists.{contains_at}
use Rattle.least_walk.proofs.Following.{met_in, nearer_met}
use Rattle.least_walk.proofs.Starting.{started_near, started_more}
use Rattle.least_walk.proofs.label.Search.start_at.Goals as goal

pub is_nearer-requires : goal.is_nearer-requires
is_nearer-requires g c = met_in _ _ _ _ c.requires.started.filed _ _ c.get.ensures

pub returns-then-not-is_nearer : goal.returns-then-not-is_nearer
returns-then-not-is_nearer g c =
    let n = c.if-not-is_nearer.ensures.not_nearer in
    started_near _ _ _ _ _ _ _ _ _ c.requires.started _ (slice_get-get_or c.args.sources.now c.args.place (record { entry = record { vertex = record { level = 0; point = record { x = pos 0; y = pos 0 } }; kind = Pin 0 }; cost = 0 }) c.requires.place) n.0 (sym c.get.ensures ∙ n.1) n.2

pub returns : goal.returns
returns g c =
    let none : Stop = record { entry = record { vertex = record { level = 0; point = record { x = pos 0; y = pos 0 } }; kind = Pin 0 }; cost = 0 } in
    let is : slice_get c.args.sources.now c.args.place ≡ Some (get_or c.args.sources.now c.args.place none) = slice_get-get_or c.args.sources.now c.args.place none c.requires.place in
    rw (c.in_ok-add.ensures.labels, c.in_ok-add.ensures.settled)
    (started_more _ _ _ _ _ _ _ _ _ c.requires.started _ is _ refl refl
    (ap (λ (n : ℕ). (get_or c.args.sources.now c.args.place none).cost + n) c.bound.ensures) refl
    (c.requires.sources _ (contains_at _ _ _ is)) (omega arith) _ _ c.in_ok-add.ensures.known c.in_ok-add.ensures.queue
    (nearer_met _ _ _ _ c.get.ensures c.if-not-is_nearer.ensures.nearer))
