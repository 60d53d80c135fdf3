use Rattle.std.proofs.Common.{subst, sym}
use Rattle.def_text.specs.declared.def.Component.{Component}
use Rattle.def_text.specs.Defs.{IsNameWord, IsComponent}
use Rattle.def_text.proofs.Listing.{listed_more}
use Rattle.def_text.proofs.components.component_item.Goals as goal

pub returns-clause-sound : goal.returns-clause-sound
returns-clause-sound c =
    let named = subst (λ n. IsNameWord n) (sym c.in_ok-new.ensures) c.in_ok-word.ensures.name in
    let of_macro = subst (λ n. IsNameWord n) (sym c.in_ok-new-2.ensures) c.in_ok-of.ensures.name in
    rw (c.in_ok-new_name.ensures.added, c.in_ok-push.ensures.ok)
    (listed_more IsComponent (λ (p : Component). p.name) c.args.listed.now c.in_ok-word.word.bytes.now
    (record { name = c.in_ok-new.field-0; of = c.in_ok-new-2.field-0; placed = c.options.new.placed })
    c.args.listed.now.skipped c.requires c.in_ok-new_name.ensures.fresh
    (record { name = named; of_macro = of_macro; placed = c.in_ok-options.ensures.sound }) c.in_ok-new.ensures)
