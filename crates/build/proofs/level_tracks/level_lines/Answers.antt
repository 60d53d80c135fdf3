use Rattle.std.proofs.Common.{◌↔◌, ℤ, ◌<ℤ◌, List, AllPairs, Contains, length, sym, ap, subst, arith}
use Rattle.build.specs.Lines.{HasSomeLine}
use Rattle.build.proofs.level_tracks.level_lines.Goals as goal

pub returns : goal.returns
returns c = record {
  lines = record {
    ascending = subst (λ (zs : List ℤ). AllPairs (λ a b. a <ℤ b) zs) (sym c.from_vec.ensures) c.ascend.ensures.ascending;
    lines = λ z.
        let said = c.in_ok-lines.ensures.lines z in
        let kept = c.ascend.ensures.numbers z in
        subst (λ (zs : List ℤ). Contains zs z ↔ HasSomeLine c.args.rows.now c.args.layer.now z) (sym c.from_vec.ensures) (λ m. said.0 (kept.0 m), λ h. kept.1 (said.1 h));
  };
  count = omega (arith, ap length c.from_vec.ensures, c.ascend.ensures.count, c.in_ok-lines.ensures.count);
}
