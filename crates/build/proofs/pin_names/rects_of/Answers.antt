use Rattle.std.proofs.Common.{◌∙◌, sym, ap, bytes_eq, position}
use Rattle.def_text.specs.declared.def.IoPin.{IoPin}
use Rattle.build.proofs.Steps.{rects_found, rects_nowhere, place_within}
use Rattle.build.proofs.pin_names.rects_of.Goals as goal

pub bounds-pins-k : goal.bounds-pins-k
bounds-pins-k c = place_within c.args.pins.now c.args.name.now c.in-Some.k (ap (position (bytes_eq c.args.name.now)) (sym c.requires) ∙ sym c.in-Some.ensures)

pub returns-in-Some : goal.returns-in-Some
returns-in-Some c =
    let at = ap (position (bytes_eq c.args.name.now)) (sym c.requires) ∙ sym c.in-Some.ensures in
    c.as_slice.ensures ∙ ap (λ (p : IoPin). p.rects) (sym c.index-pins-k.is) ∙ sym (rects_found c.args.pins.now c.args.name.now c.in-Some.k c.index-pins-k.result at (place_within c.args.pins.now c.args.name.now c.in-Some.k at) c.index-pins-k.is)

pub returns-in-None : goal.returns-in-None
returns-in-None c = sym (rects_nowhere c.args.pins.now c.args.name.now (ap (position (bytes_eq c.args.name.now)) (sym c.requires) ∙ sym c.in-None.ensures))
