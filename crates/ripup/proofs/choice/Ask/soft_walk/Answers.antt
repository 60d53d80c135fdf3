use Rattle.std.proofs.Common.{rules, ◌≡◌}
use Rattle.ripup.proofs.SearchLemmas.{NoneLegal-soft}
use Rattle.ripup.proofs.choice.Ask.soft_walk.Goals as goal

pub returns-then-self-eq0-clause-none : goal.returns-then-self-eq0-clause-none
returns-then-self-eq0-clause-none g c =
    let d = c.args.self.now.design.now in
    let none_to_rip : d.options.rips ≡ 0 = search rules in
    NoneLegal-soft d (g.K.Stock.rips_of c.args.self.now.stock.now) c.args.self.now.net c.args.self.now.own.now (g.K.Stock.shapes c.args.self.now.stock.now) none_to_rip c.requires.none
