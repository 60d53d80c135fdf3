use Rattle.std.proofs.Common.{◌≡◌, ◌&&◌, Bool, true, ap, sym, arith}
use Rattle.legality.specs.Forbidden.{is_near_at}
use Rattle.legality.proofs.FoundLemmas.{adds_one}
use Rattle.legality.proofs.RuleLemmas.{span_same}
use Rattle.legality.proofs.found.push_one.Goals as goal

pub returns-in_ok-push-in-Some : goal.returns-in_ok-push-in-Some
returns-in_ok-push-in-Some g c =
    let near = is_near_at c.args.mover.now c.args.shape.now.rect in
    let verdict : Bool = g.T.ShapeTest.verdict c.args.test.now c.args.shape.now in
    let passes : verdict ≡ true = first_of (cc (c.passes.ensures), grind (arith, c.passes.ensures, c.if-not-passes.false)) in
    adds_one (λ z. verdict && near z) c.args.found.now.items c.push.new.self.items c.in-Some.span c.in_ok-push-in-Some.ensures.items c.in-Some.ensures.small
    (span_same near (λ z. verdict && near z) c.in-Some.span (λ z. sym (ap (λ (b : Bool). b && near z) passes)) c.in-Some.ensures.some)
