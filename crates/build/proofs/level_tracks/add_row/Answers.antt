use Rattle.std.proofs.Common.{◌∙◌, ◌+◌, ◌^◌, ℤ, to_z, of_z, w64, List, length, sym, ap, subst, arith}
use Rattle.std.proofs.lemmas.Int.{to_z-of_z}
use Rattle.std.proofs.lemmas.List.{length_push}
use Rattle.rt_base.specs.Ranges.{IsWithin}
use Rattle.rt_base.proofs.Ranges.{fits_from_within}
use Rattle.build.proofs.TrackLemmas.{line_within, HasUpTo, upto_more, upto_all}
use Rattle.build.proofs.level_tracks.add_row.Goals as goal

pub loop-k-preserved : goal.loop-k-preserved
loop-k-preserved c =
    let row = c.args.row.now in
    let k = c.loop-k.k in
    let v : ℤ = to_z w64 (of_z w64 c.line.result) in
    let within : IsWithin (2 ^ 61) c.line.result = subst (IsWithin (2 ^ 61)) (sym c.line.ensures) (line_within row k c.requires c.loop-k-test.true) in
    let is = to_z-of_z w64 c.line.result (fits_from_within c.line.result within) ∙ c.line.ensures in (
      subst (λ (zs : List ℤ). HasUpTo c.args.lines.now.items c.args.row.now (c.loop-k.k + 1) zs) (sym c.in_ok-push.ensures.items)
          (upto_more c.args.lines.now.items row k c.loop-k.lines.items v is c.loop-k.invariant.0),
      omega (arith, ap length c.in_ok-push.ensures.items, length_push c.loop-k.lines.items v, c.loop-k.invariant.1),
    )

pub returns-clause-lines : goal.returns-clause-lines
returns-clause-lines c = upto_all c.args.lines.now.items c.args.row.now c.loop-k.k c.loop-k.lines.items (omega (arith, c.loop-k-test.false, c.loop-k.auto.k-end)) c.loop-k.invariant.0
