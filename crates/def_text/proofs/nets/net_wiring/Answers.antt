use Rattle.std.proofs.Common.{subst, sym, All}
use Rattle.def_text.specs.Defs.{IsRange}
use Rattle.def_text.proofs.Listing.{All-one}
use Rattle.def_text.proofs.nets.net_wiring.Goals as goal

pub returns-clause-wiring : goal.returns-clause-wiring
returns-clause-wiring c = subst (λ rs. All (IsRange c.args.total) rs) (sym c.in_ok-push.ensures.ok) (All-one (IsRange c.args.total) c.args.net.now.wiring c.in_ok-range.range c.requires.wiring c.in_ok-range.ensures.range)
