use Rattle.std.proofs.Common.{◌∙◌, ℕ, List, Bool, ◌||◌, sym, ap, bytes_eq}
use Rattle.std.specs.List.{list_any}
use Rattle.build.proofs.Steps.{any_more, once_more}
use Rattle.build.proofs.layer_names.names_once.Goals as goal

pub loop-name-preserved : goal.loop-name-preserved
loop-name-preserved c q =
    once_more c.loop-name.names c.add.new.self c.bytes.result.now q c.in_ok-_added._added c.in_ok-_added.ensures.added c.in_ok-_added.ensures.names
    ∙ ap (λ (n : List ℕ). list_any (bytes_eq q) c.loop-name.names || bytes_eq q n) c.bytes.ensures
    ∙ ap (λ (b : Bool). b || bytes_eq q c.name-item.result) (c.loop-name.invariant q)
    ∙ sym (any_more (bytes_eq q) c.args.all.now c.loop-name.name-index c.name-item.result c.loop-name-test.true c.name-item.is)
