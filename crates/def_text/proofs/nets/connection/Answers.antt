use Rattle.std.proofs.Common.{subst, sym, All}
use Rattle.def_text.specs.Defs.{IsNameWord, IsConnection}
use Rattle.def_text.proofs.Listing.{All-one}
use Rattle.def_text.proofs.nets.connection.Goals as goal

pub returns-clause-sound : goal.returns-clause-sound
returns-clause-sound c =
    let first = subst (λ n. IsNameWord n) (sym c.in_ok-new.ensures) c.in_ok-of.ensures.name in
    let second = subst (λ n. IsNameWord n) (sym c.in_ok-new-2.ensures) c.in_ok-pin.ensures.name in
    subst (λ ps. All IsConnection ps) (sym c.in_ok-push.ensures.ok) (All-one IsConnection c.args.pins.now (c.in_ok-new.field-0, c.in_ok-new-2.field-0) c.requires (first, second))
