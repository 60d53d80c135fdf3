use Rattle.std.proofs.Common.{◌≡◌, ◌*◌, ap, ◌∙◌, arith}
use Rattle.label_arena.specs.Plain.{slide}
use Rattle.interval_label.proofs.Costs.{slide_read, slide_small}
use Rattle.interval_label.proofs.slide.along.Goals as goal

pub overflow_mul-result : goal.overflow_mul-result
overflow_mul-result c =
    let v : c.interval.result.factor * c.apart.result ≡ slide c.args.arena.now.graph c.args.from c.args.to.coord = ap (λ n. c.interval.result.factor * n) c.apart.ensures ∙ slide_read c.args.arena.now.graph c.args.from c.args.to.coord c.interval.result c.interval.ensures in
    omega (arith, v, slide_small c.args.arena.now.graph c.args.from c.args.to c.requires.priced c.requires.from c.requires.to c.requires.one_interval)

pub returns-clause-small : goal.returns-clause-small
returns-clause-small c =
    let v : c.interval.result.factor * c.apart.result ≡ slide c.args.arena.now.graph c.args.from c.args.to.coord = ap (λ n. c.interval.result.factor * n) c.apart.ensures ∙ slide_read c.args.arena.now.graph c.args.from c.args.to.coord c.interval.result c.interval.ensures in
    omega (arith, v, slide_small c.args.arena.now.graph c.args.from c.args.to c.requires.priced c.requires.from c.requires.to c.requires.one_interval)
