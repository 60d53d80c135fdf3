use Rattle.std.proofs.Common.{◌≡◌, ◌∙◌, ℕ, List, Option, Some, sym, ap}
use Rattle.rt_base.specs.declared.tech.Layer.{Layer}
use Rattle.def_text.specs.declared.def.TrackRow.{TrackRow}
use Rattle.build.specs.declared.error.BuildError.{BuildError}
use Rattle.build.specs.declared.error.Limited.TheVariants.{UsableVias, Tracks}
use Rattle.build.specs.Faults.{first_by, lines_said, limit_fault, usable_count}
use Rattle.build.specs.TrackLines.{routing_layers}
use Rattle.build.proofs.FirstFaults.{told_fault, fault_here, fault_later}
use Rattle.build.proofs.limits.check_counts.Goals as goal

abbrev lines_part : List Layer → List TrackRow → Option BuildError
lines_part layers rows = first_by (λ (l : Layer). limit_fault Tracks (lines_said l rows) 65536) (routing_layers layers)

lines_same : (layers more : List Layer) (rows others : List TrackRow) → layers ≡ more → rows ≡ others → lines_part layers rows ≡ lines_part more others
lines_same layers more rows others l r = ap (λ (ls : List Layer). lines_part ls rows) l ∙ ap (lines_part more) r

pub returns-in_err-check_lines : goal.returns-in_err-check_lines
returns-in_err-check_lines c =
    let layers = c.args.given.now.lef.now.layers in
    let rows = c.args.given.now.def.now.tracks in
    let e = c.in_err-check_lines.field-0.0 in
    told_fault c.from_residual-in_err-check_lines.result c.in_err-check_lines.field-0.0 _ _ c.from_residual-in_err-check_lines.ensures.1 c.in_err-check_lines.ensures
    (λ h. fault_later (limit_fault UsableVias (usable_count c.args.tech.now) 64) _ (Some e)
    (sym (ap (λ (n : ℕ). limit_fault UsableVias n 64) c.usable.ensures) ∙ c.in_ok-check_limit.ensures)
    (fault_here (lines_part layers rows) _ e (sym (lines_same c.as_slice.result.now layers c.as_slice-2.result.now rows c.as_slice.ensures c.as_slice-2.ensures) ∙ h)))
