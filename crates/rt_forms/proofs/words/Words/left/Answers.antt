use Rattle.std.proofs.Common.{sym, ap, ◌∙◌}
use Rattle.rt_forms.specs.Reading.{left_of}
use Rattle.rt_forms.proofs.Ends.{left_ended}
use Rattle.rt_forms.proofs.words.Words.left.Goals as goal

pub returns : goal.returns
returns g c = sym (ap left_of (sym c.self.view_is) ∙ left_ended c.self.inside.text.now c.self.inside.tokens.now c.self.inside.last)
