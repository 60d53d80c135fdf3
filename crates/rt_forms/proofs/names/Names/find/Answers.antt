use Rattle.std.proofs.Common.{List, ℕ, ap, ◌∙◌, bytes_eq, position}
use Rattle.rt_forms.proofs.Texts.{position_texts}
use Rattle.rt_forms.proofs.names.Names.find.Goals as goal

pub returns : goal.returns
returns c = c.get_index_of.ensures.index ∙ position_texts c.args.name.now c.self.inside.set.keys ∙ ap (λ (ns : List (List ℕ)). position (bytes_eq c.args.name.now) ns) c.self.view_is
