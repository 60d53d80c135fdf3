use Rattle.std.proofs.Common.{◌≡◌, ◌∙◌, ℕ, ◌<◌, List, length, position, get_or, Some, slice_get, option_and_then, refl, sym, ap, bytes_eq, arith}
use Rattle.std.proofs.lemmas.List.Quantifiers.{position-Some}
use Rattle.std.proofs.lemmas.Option.{slice_get_read}
use Rattle.rt_base.specs.Sides.{Sides}
use Rattle.rt_base.specs.declared.tech.LayerNo.{LayerNo}
use Rattle.lef_text.specs.declared.lef.Macro.{Macro}
use Rattle.cells.specs.declared.firsts.Firsts.{Firsts}
use Rattle.cells.specs.Cells.{pin_in, macro_of}
use Rattle.cells.specs.Indexes.{ArePinsOf}
use Rattle.cells.proofs.Lists.{found_place, AllZip-at, AllZip-length}
use Rattle.cells.proofs.index.CellIndex.pin_in.Goals as goal

abbrev Pin : Type 0
Pin = List ℕ × List (LayerNo × Sides)

-- the macro at the place of a name
at_place : (macros : List Macro) (name : List ℕ) (k : ℕ) (m : Macro) → position (λ (x : Macro). bytes_eq name x.name) macros ≡ Some k → k < length macros → m ≡ get_or macros k m → (slice_get macros k ≡ Some m) × (macro_of macros name ≡ Some m)
at_place macros name k m at within is =
    let here = slice_get_read macros (length macros) k m refl within is in
    (here, found_place (λ (x : Macro). bytes_eq name x.name) macros ∙ ap (option_and_then (slice_get macros)) at ∙ here)

pub bounds-as_slice-k : goal.bounds-as_slice-k
bounds-as_slice-k c =
    let at = sym (c.requires.macros.places c.args.of.now) ∙ sym c.in-Some.ensures in
    omega (arith, (position-Some (λ (x : Macro). bytes_eq c.args.of.now x.name) c.args.macros.now c.in-Some.k c.index-macros-k.result at).0, AllZip-length ArePinsOf c.args.macros.now c.args.self.now.pins c.requires.pins, ap length c.as_slice-in-Some.ensures)

pub returns-in-Some : goal.returns-in-Some
returns-in-Some c =
    let macros = c.args.macros.now in
    let k = c.in-Some.k in
    let m = c.index-macros-k.result in
    let pins = c.index-as_slice-k.result in
    let at = sym (c.requires.macros.places c.args.of.now) ∙ sym c.in-Some.ensures in
    let within = (position-Some (λ (x : Macro). bytes_eq c.args.of.now x.name) macros k m at).0 in
    let there = at_place macros c.args.of.now k m at within c.index-macros-k.is in
    let same = c.as_slice-in-Some.ensures in
    let index : slice_get c.args.self.now.pins k ≡ Some pins =
    slice_get_read c.args.self.now.pins (length c.args.self.now.pins) k pins refl (omega (arith, within, AllZip-length ArePinsOf macros c.args.self.now.pins c.requires.pins)) (c.index-as_slice-k.is ∙ ap (λ (fs : List (Firsts ℕ)). get_or fs k pins) same) in
    let places = AllZip-at ArePinsOf macros c.args.self.now.pins k m pins c.requires.pins there.0 index in
    c.item_at.ensures
    ∙ ap (λ (ps : List Pin). option_and_then (slice_get ps) c.find-in-Some.result) c.as_slice.ensures
    ∙ ap (λ (x : Macro). option_and_then (slice_get x.pins) c.find-in-Some.result) (sym c.index-macros-k.is)
    ∙ ap (option_and_then (slice_get m.pins)) (c.find-in-Some.ensures ∙ places.places c.args.pin.now)
    ∙ sym (found_place (λ (p : Pin). bytes_eq c.args.pin.now p.0) m.pins)
    ∙ sym (ap (option_and_then (pin_in c.args.pin.now)) there.1)

pub returns-in-None : goal.returns-in-None
returns-in-None c =
    let macros = c.args.macros.now in
    let at = sym (c.requires.macros.places c.args.of.now) ∙ sym c.in-None.ensures in
    sym (ap (option_and_then (pin_in c.args.pin.now)) (found_place (λ (x : Macro). bytes_eq c.args.of.now x.name) macros ∙ ap (option_and_then (slice_get macros)) at))
