use Rattle.std.proofs.Common.{List, ℕ, ap, not, ◌∙◌, bytes_eq}
use Rattle.std.specs.List.{list_any}
use Rattle.rt_forms.proofs.Texts.{any_texts}
use Rattle.rt_forms.proofs.names.Names.add.Goals as goal

pub returns-clause-added : goal.returns-clause-added
returns-clause-added c =
    c.in_ok-added.ensures.added
    ∙ ap (λ (q : List ℕ). not (list_any (λ k. bytes_eq q k.items) c.self.inside.set.keys)) c.in_ok-from_slice.ensures.items
    ∙ ap not (any_texts c.args.name.now c.self.inside.set.keys)
    ∙ ap (λ (ns : List (List ℕ)). not (list_any (bytes_eq c.args.name.now) ns)) c.self.view_is
