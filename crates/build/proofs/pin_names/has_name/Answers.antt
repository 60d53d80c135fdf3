use Rattle.std.proofs.Common.{◌∙◌, is_some, ap, bytes_eq}
use Rattle.cells.proofs.Lists.{is_some-position}
use Rattle.build.proofs.pin_names.has_name.Goals as goal

pub returns : goal.returns
returns c = c.is_some.ensures ∙ ap is_some c.find.ensures ∙ is_some-position (bytes_eq c.args.name.now) c.args.names.now
