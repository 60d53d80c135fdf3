use Rattle.std.proofs.Common.{sym}
use Rattle.std.specs.List.{find}
use Rattle.std.proofs.lemmas.Option.{option_and_then_some}
use Rattle.rt_base.specs.declared.tech.Layer.{Layer}
use Rattle.def_text.specs.Defs.{IsTrackRow}
use Rattle.build.specs.TrackLines.{is_used}
use Rattle.cells.proofs.Lists.{All-found}
use Rattle.build.proofs.track_lines.default_tile.Goals as goal

pub steps-requires : goal.steps-requires
steps-requires c =
    option_and_then_some (λ (l : Layer). find (is_used l) c.args.def.now.tracks) (find (λ (l : Layer). l.routing) c.args.lef.now.layers) c.in-Some.row.now (sym c.in-Some.ensures)
    (λ l _ h. All-found IsTrackRow (is_used l) c.args.def.now.tracks c.in-Some.row.now c.requires.tracks h)
