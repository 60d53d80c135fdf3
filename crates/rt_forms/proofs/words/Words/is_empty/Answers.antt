use Rattle.std.proofs.Common.{sym, ap, ◌∙◌, arith}
use Rattle.rt_forms.specs.Lexeme.{is_end}
use Rattle.rt_forms.proofs.Ends.{not_end}
use Rattle.rt_forms.proofs.words.Words.is_empty.Goals as goal

pub returns-in-len1-up : goal.returns-in-len1-up
returns-in-len1-up g c = sym (ap is_end (sym c.self.view_is) ∙ not_end c.self.inside.text.now c.self.inside.tokens.now c.self.inside.last (omega (arith, c.in-len1-up.len_at_least)))
