use Rattle.std.proofs.Common.{◌∙◌, slice_get, option_and_then, sym, ap, bytes_eq}
use Rattle.lef_text.specs.declared.lef.Macro.{Macro}
use Rattle.cells.proofs.Lists.{found_place}
use Rattle.cells.proofs.index.CellIndex.macro_of.Goals as goal

pub returns : goal.returns
returns c =
    let items = c.args.macros.now in
    c.item_at.ensures
    ∙ ap (option_and_then (slice_get items)) (c.find.ensures ∙ c.requires.places c.args.name.now)
    ∙ sym (found_place (λ (x : Macro). bytes_eq c.args.name.now x.name) items)
