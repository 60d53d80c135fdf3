use Rattle.std.proofs.Common.{◌≡◌, ◌<◌, ◌≤◌, ◌∙◌, ap, length, true, arith}
use Rattle.label_arena.specs.Lists.{Lists}
use Rattle.label_arena.specs.Groups.{numbers_in}
use Rattle.label_arena.specs.Keeping.{bridge_ends}
use Rattle.label_arena.proofs.Ending.{bridges_exactly, bridges_few}
use Rattle.label_arena.proofs.arena.Arena.bridges_of.Goals as goal

pub row-requires : goal.row-requires
row-requires c =
    let made : c.self.inside.indexed ≡ true = ap (λ (v : Lists). v.indexed) c.self.view_is ∙ c.requires.indexed in
    let here : c.args.no.0 < length c.self.inside.intervals.items = omega (arith, ap (λ (v : Lists). length v.graph.intervals) c.self.view_is, c.requires.within) in
    ((c.self.invariant.index made).bridges_are c.args.no.0 here).0

pub returns-clause-exactly : goal.returns-clause-exactly
returns-clause-exactly c =
    let made : c.self.inside.indexed ≡ true = ap (λ (v : Lists). v.indexed) c.self.view_is ∙ c.requires.indexed in
    let here : c.args.no.0 < length c.self.inside.intervals.items = omega (arith, ap (λ (v : Lists). length v.graph.intervals) c.self.view_is, c.requires.within) in
    let is : c.row.result.now ≡ numbers_in c.args.no.0 (bridge_ends 0 c.self.inside.bridges.items) = c.row.ensures ∙ ((c.self.invariant.index made).bridges_are c.args.no.0 here).1 in
    let same = ap (λ (v : Lists). v.graph.bridges) c.self.view_is in
    bridges_exactly c.args.self.now.graph c.args.no.0 c.row.result.now (rw same at is)

pub returns-clause-few : goal.returns-clause-few
returns-clause-few c =
    let made : c.self.inside.indexed ≡ true = ap (λ (v : Lists). v.indexed) c.self.view_is ∙ c.requires.indexed in
    let here : c.args.no.0 < length c.self.inside.intervals.items = omega (arith, ap (λ (v : Lists). length v.graph.intervals) c.self.view_is, c.requires.within) in
    let is : c.row.result.now ≡ numbers_in c.args.no.0 (bridge_ends 0 c.self.inside.bridges.items) = c.row.ensures ∙ ((c.self.invariant.index made).bridges_are c.args.no.0 here).1 in
    let few : length (numbers_in c.args.no.0 (bridge_ends 0 c.self.inside.bridges.items)) ≤ length c.self.inside.bridges.items = bridges_few c.args.no.0 0 c.self.inside.bridges.items in
    omega (arith, ap length is, few, ap (λ (v : Lists). length v.graph.bridges) c.self.view_is)
