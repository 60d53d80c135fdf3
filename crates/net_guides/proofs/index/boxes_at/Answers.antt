use Rattle.std.proofs.Common.{◌∙◌, List, [], Option, option_map, unwrap_or, length, refl, sym, ap}
use Rattle.std.specs.List.{slice_get}
use Rattle.std.proofs.lemmas.Option.{slice_get_read, slice_get_past}
use Rattle.guide_text.specs.IsGuides.{Box, Guide}
use Rattle.net_guides.proofs.index.boxes_at.Goals as goal

abbrev boxes_in : Option Guide → List Box
boxes_in found = unwrap_or (option_map (λ (g : Guide). g.1) found) []

pub returns-in-Some : goal.returns-in-Some
returns-in-Some c =
    let guides = c.as_slice.result.now in
    let found = c.in-Some.ensures.lookup in
    c.as_slice-in-Some.ensures
    ∙ sym (ap boxes_in (ap (λ (gs : List Guide). slice_get gs c.args.number) (sym c.as_slice.ensures) ∙ slice_get_read guides (length guides) c.args.number c.in-Some.net.now refl found.3.0 found.1))

pub returns-in-None : goal.returns-in-None
returns-in-None c =
    let guides = c.as_slice.result.now in
    sym (ap boxes_in (ap (λ (gs : List Guide). slice_get gs c.args.number) (sym c.as_slice.ensures) ∙ slice_get_past guides c.args.number c.in-None.ensures.lookup.3))
