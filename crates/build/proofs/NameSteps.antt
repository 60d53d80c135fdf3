-- The first fault of names, by the look-ups.
use Rattle.std.proofs.Common.{◌≡◌, ◌≢◌, ℕ, zero, suc, List, [], ◌∷◌, ◌++◌, bytes_eq, not, Option, Some, None, Result, IsErrAnd, refl, sym, ap, ◌∙◌, unwrap_or}
use Rattle.std.specs.Option.{option_or}
use Rattle.std.specs.List.{list_any}
use Rattle.rt_base.specs.Sides.{Sides}
use Rattle.rt_base.specs.declared.tech.Layer.{Layer}
use Rattle.lef_text.specs.declared.lef.Macro.{Macro}
use Rattle.def_text.specs.declared.def.Component.{Component}
use Rattle.def_text.specs.declared.def.IoPin.{IoPin}
use Rattle.def_text.specs.declared.def.TrackRow.{TrackRow}
use Rattle.guide_text.specs.IsGuides.{Guide}
use Rattle.build.specs.declared.error.BuildError.{BuildError}
use Rattle.build.specs.declared.error.BuildError.TheVariants.{NoNet, Memory as OutOfMemory}
use Rattle.build.specs.declared.lookup.Lookup.{Lookup}
use Rattle.build.specs.Faults.{first_of, first_by, fault_if, row_fault, rects_fault, pin_fault, component_fault, guide_fault, level_fault}
use Rattle.build.specs.Findings.{Finds}
use Rattle.build.specs.Indexes.{Tells}
use Rattle.build.specs.Indexing.{IsLookup}
use Rattle.build.specs.Inputs.{Input}
use Rattle.build.specs.LookUps.{layer_names_of, net_names}
use Rattle.build.specs.TrackLines.{routing_layers}
use Rattle.build.proofs.FirstFaults.{fault_here, fault_later, AllNone, told_fault, told_same, found_fault}
use Rattle.build.proofs.KnownLemmas.{row_fault_same, pin_fault_same, rects_fault_same}

-- what the tests look at is what the input says
pub rows_same : (i : Input) (known : Lookup) (rows : List TrackRow) → IsLookup i.lef i.def known → rows ≡ i.def.tracks → first_by (row_fault known.layers) rows ≡ first_by (row_fault (layer_names_of i.lef)) i.def.tracks
rows_same i known rows k same =
    ap (first_by (row_fault known.layers)) same
    ∙ ap (λ (f : TrackRow → Option BuildError). first_by f i.def.tracks) (row_fault_same i.lef known.layers k.are_layer_names)

pub components_same : (i : Input) (macros : List Macro) (components : List Component) → macros ≡ i.lef.macros → components ≡ i.def.components → first_by (component_fault macros) components ≡ first_by (component_fault i.lef.macros) i.def.components
components_same i macros components m c =
    ap (λ (ms : List Macro). first_by (component_fault ms) components) m
    ∙ ap (first_by (component_fault i.lef.macros)) c

pub pins_same : (i : Input) (known : Lookup) (pins : List IoPin) → IsLookup i.lef i.def known → pins ≡ i.def.pins → first_by (pin_fault known.layers) pins ≡ first_by (pin_fault (layer_names_of i.lef)) i.def.pins
pins_same i known pins k same =
    ap (first_by (pin_fault known.layers)) same
    ∙ ap (λ (f : IoPin → Option BuildError). first_by f i.def.pins) (pin_fault_same i.lef known.layers k.are_layer_names)

pub blockages_same : (i : Input) (known : Lookup) (rects : List (List ℕ × Sides)) → IsLookup i.lef i.def known → rects ≡ i.def.blockages → rects_fault known.layers rects ≡ rects_fault (layer_names_of i.lef) i.def.blockages
blockages_same i known rects k same =
    ap (rects_fault known.layers) same
    ∙ ap (λ (f : List (List ℕ × Sides) → Option BuildError). f i.def.blockages) (rects_fault_same i.lef known.layers k.are_layer_names)

pub levels_same : (i : Input) (layers : List Layer) (rows : List TrackRow) → layers ≡ i.lef.layers → rows ≡ i.def.tracks → first_by (level_fault rows) (routing_layers layers) ≡ first_by (level_fault i.def.tracks) (routing_layers i.lef.layers)
levels_same i layers rows l r =
    ap (λ (ls : List Layer). first_by (level_fault rows) (routing_layers ls)) l
    ∙ ap (λ (rs : List TrackRow). first_by (level_fault rs) (routing_layers i.lef.layers)) r

pub guides_same : (i : Input) (known : Lookup) → IsLookup i.lef i.def known → first_by (guide_fault known.layers known.nets) (unwrap_or i.guides []) ≡ first_by (guide_fault (layer_names_of i.lef) (net_names i.def.nets)) (unwrap_or i.guides [])
guides_same i known k =
    ap (λ (f : List (List ℕ × Sides) → Option BuildError). first_by (λ (g : Guide). option_or (fault_if (not (list_any (bytes_eq g.0) known.nets)) (NoNet g.0)) (f g.1)) (unwrap_or i.guides [])) (rects_fault_same i.lef known.layers k.are_layer_names)
    ∙ ap (λ (ns : List (List ℕ)). first_by (guide_fault (layer_names_of i.lef) ns) (unwrap_or i.guides [])) k.are_net_names

-- none of the first so many faults stands
abbrev pub AreBefore : ℕ → List (Option BuildError) → Type 0
AreBefore zero fs = Unit {0}
AreBefore (suc k) [] = Unit {0}
AreBefore (suc k) (f ∷ fs) = (f ≡ None) × AreBefore k fs

-- the fault at a place
abbrev pub part : ℕ → List (Option BuildError) → Option BuildError
part k [] = None
part zero (f ∷ fs) = f
part (suc k) (f ∷ fs) = part k fs

-- the first fault stands after those that there aren't
found_here : (k : ℕ) (fs : List (Option BuildError)) (e : BuildError) → AreBefore k fs → part k fs ≡ Some e → first_of fs ≡ Some e
found_here k [] e n h = h
found_here zero (f ∷ fs) e n h = fault_here f (first_of fs) e h
found_here (suc k) (f ∷ fs) e n h = fault_later f (first_of fs) (Some e) n.0 (found_here k fs e n.1 h)

-- an exit by `?` with the fault at a place
pub told_at : (k : ℕ) (fs : List (Option BuildError)) (r : Result (Unit {0}) BuildError) (x : BuildError) (f : Option BuildError) → IsErrAnd r (λ e. e ≡ x) → (x ≢ OutOfMemory → f ≡ Some x) → AreBefore k fs → f ≡ part k fs → Tells r (first_of fs)
told_at k fs r x f is tells before same = told_fault r x f (first_of fs) is tells (λ h. found_here k fs x before (sym same ∙ h))

-- and where values are answered
pub found_at : {A : Type 0} → (kind : A → Type 0) (k : ℕ) (fs : List (Option BuildError)) (r : Result A BuildError) (x : BuildError) (f : Option BuildError) → IsErrAnd r (λ e. e ≡ x) → (x ≢ OutOfMemory → f ≡ Some x) → AreBefore k fs → f ≡ part k fs → Finds kind r (first_of fs)
found_at kind k fs r x f is tells before same = found_fault kind r x f (first_of fs) is tells (λ h. found_here k fs x before (sym same ∙ h))

-- the last of these faults, where none stands before it
last_of : (fs : List (Option BuildError)) (g : Option BuildError) → AllNone fs → first_of (fs ++ g ∷ []) ≡ g
last_of [] None n = refl
last_of [] (Some e) n = refl
last_of (f ∷ fs) g n = fault_later f (first_of (fs ++ g ∷ [])) g n.0 (last_of fs g n.1)

-- the last test tells all
pub told_last : (fs : List (Option BuildError)) (r : Result (Unit {0}) BuildError) (f g : Option BuildError) → Tells r f → AllNone fs → f ≡ g → Tells r (first_of (fs ++ g ∷ []))
told_last fs r f g tells before same = told_same r f (first_of (fs ++ g ∷ [])) (same ∙ sym (last_of fs g before)) tells
