use Rattle.std.proofs.Common.{◌∙◌, ℕ, List, [], ◌∷◌, ◌++◌, Bool, not, cond, take, sym, ap, bytes_eq}
use Rattle.std.specs.List.{list_any}
use Rattle.def_text.specs.declared.def.IoPin.{IoPin}
use Rattle.build.specs.LookUps.{pin_names}
use Rattle.cells.proofs.Lists.{apart_name}
use Rattle.build.proofs.Steps.{map_next}
use Rattle.build.proofs.pin_names.names_of_pins.Goals as goal

pub loop-pin-preserved : goal.loop-pin-preserved
loop-pin-preserved c =
    let pins = c.args.pins.now in
    let i = c.loop-pin.pin-index in
    let pin = c.pin-item.result in
    let none = ap (λ (b : List ℕ). list_any (bytes_eq b) c.loop-pin.names) c.bytes.ensures ∙ ap (list_any (bytes_eq pin.name)) c.loop-pin.invariant ∙ apart_name (λ (p : IoPin). p.name) pins i pin c.requires c.loop-pin-test.true c.pin-item.is in
    let added = c.in_ok-_added.ensures.added ∙ ap not none in
    c.in_ok-_added.ensures.names
    ∙ ap (λ (b : Bool). cond b (c.loop-pin.names ++ c.bytes.result.now ∷ []) c.loop-pin.names) added
    ∙ ap (λ (ns : List (List ℕ)). ns ++ c.bytes.result.now ∷ []) c.loop-pin.invariant
    ∙ ap (λ (b : List ℕ). pin_names (take i pins) ++ b ∷ []) c.bytes.ensures
    ∙ sym (map_next (λ (p : IoPin). p.name) pins i pin c.loop-pin-test.true c.pin-item.is)
