use Rattle.std.proofs.Common.{◌≡◌, ◌∙◌, sym, subst, Some, slice_get, rules, arith}
use Rattle.std.proofs.lemmas.Option.{gets, same_Some}
use Rattle.std.proofs.lemmas.Grind.{common_steps}
use Rattle.rt_base.specs.declared.tech.Via.{Via}
use Rattle.track_graph.specs.Edges.{Joins}
use Rattle.track_graph.specs.Metal.{JoinsLevels}
use Rattle.track_graph.proofs.edges.joins.Goals as goal

pub returns : goal.returns
returns c =
    let at : slice_get c.args.tech.now.vias c.args.via ≡ Some c.in-Some.via.now = let lk = c.in-Some.ensures.lookup in first_of (search (rules, gets), grind (arith, common_steps, gets)) in (
      λ t. record {
        via = c.in-Some.via.now;
        is_via = at;
        usable = first_of (search rules, grind (arith, common_steps));
        levels = rw c.as_slice-2.ensures at (c.joins_levels.ensures.0 t);
      },
      λ (h : Joins c.args.tech.now c.args.via c.args.lower).
          let same : h.via ≡ c.in-Some.via.now = same_Some h.via c.in-Some.via.now (sym h.is_via ∙ at) in
          c.joins_levels.ensures.1 (rw c.as_slice-2.ensures (subst (λ (via : Via). JoinsLevels c.args.tech.now via.rects c.args.lower) same h.levels)),
    )
