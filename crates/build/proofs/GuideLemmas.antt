-- Guides of nets.
use Rattle.std.proofs.Common.{Result, Ok, Err, IfOk, ◌∙◌, ◌≡◌, ◌^◌, ℕ, List, [], ◌∷◌, Option, Some, None, option_map, unwrap_or, IfSome, All, sym, ap, subst, arith, refl, bytes_eq, position}
use Rattle.std.specs.List.{filter_map, cons_option, find, enumerate_from}
use Rattle.std.proofs.lemmas.List.Elements.{All-cons, All-head, All-tail, All-map}
use Rattle.rt_base.specs.Sides.{Sides}
use Rattle.rt_base.proofs.Ranges.{sides-weaker}
use Rattle.rt_base.specs.Ranges.{AreSidesWithin}
use Rattle.rt_base.specs.declared.tech.Layer.{Layer}
use Rattle.guide_text.specs.IsGuides.{Box, Guide, IsBox, IsGuide, AreGuides}
use Rattle.guide_text.specs.declared.guides.Guides.{Guides}
use Rattle.net_guides.specs.declared.index.NetGuides.{NetGuides}
use Rattle.net_guides.specs.Indexes.{IsIndexOf}
use Rattle.net_guides.specs.NetGuides.{boxes_of, boxes_on, box_among, level_names}
use Rattle.cells.proofs.Lists.{All-found}
use Rattle.build.specs.Inputs.{Input, IsInput}
use Rattle.build.specs.TrackLines.{routing_layers}
use Rattle.build.specs.Built.{guide_of}

-- the boxes of guides, by their look-ups
pub boxes_ok : {E : Type 0} → (r : Result (List (ℕ × Sides)) E) (die : Sides) (layers others : List Layer) (said : Option (List Guide)) (guides : List Guide) (index : NetGuides) (name : List ℕ) → IfOk r (λ bs. (ls : List Layer) → IsIndexOf ls guides index → bs ≡ boxes_of ls guides name) → IsIndexOf others (unwrap_or said []) index → said ≡ Some guides → layers ≡ others → IfOk r (λ s. s ≡ guide_of die layers said name)
boxes_ok (Ok bs) die layers others said guides index name h is at same =
    h others (subst (λ (o : Option (List Guide)). IsIndexOf others (unwrap_or o []) index) at is)
    ∙ ap (λ (ls : List Layer). boxes_of ls guides name) (sym same)
    ∙ ap (λ (o : Option (List Guide)). guide_of die layers o name) (sym at)
boxes_ok (Err e) die layers others said guides index name h is at same = tt

-- boxes of guides are near
boxes_near : (levels : List (List ℕ)) (boxes : List Box) → All IsBox boxes → All (λ (b : ℕ × Sides). AreSidesWithin (2 ^ 32) b.1) (filter_map (box_among levels) boxes)
boxes_near levels [] all = λ k d lt. absurd (omega arith)
boxes_near levels (b ∷ bs) all = one (position (bytes_eq b.0) levels) (boxes_near levels bs (All-tail IsBox b bs all))
  where
    one : (o : Option ℕ) → All (λ (x : ℕ × Sides). AreSidesWithin (2 ^ 32) x.1) (filter_map (box_among levels) bs) → All (λ (x : ℕ × Sides). AreSidesWithin (2 ^ 32) x.1) (cons_option (option_map (λ (level : ℕ). (level, b.1)) o) (filter_map (box_among levels) bs))
    one None more = more
    one (Some level) more = All-cons (λ (x : ℕ × Sides). AreSidesWithin (2 ^ 32) x.1) (level, b.1) (filter_map (box_among levels) bs) (sides-weaker (2 ^ 30) (2 ^ 32) b.1 (omega arith) (All-head IsBox b bs all).1) more

entry_near : (layers : List Layer) (guides : List Guide) (name : List ℕ) → All IsGuide guides → All (λ (b : ℕ × Sides). AreSidesWithin (2 ^ 32) b.1) (boxes_of layers guides name)
entry_near layers guides name all = by_guide (find (λ (g : Guide). bytes_eq name g.0) guides) (λ g h. All-found IsGuide (λ (x : Guide). bytes_eq name x.0) guides g all h)
  where
    by_guide : (o : Option Guide) → ((g : Guide) → o ≡ Some g → IsGuide g) → All (λ (b : ℕ × Sides). AreSidesWithin (2 ^ 32) b.1) (boxes_on layers (unwrap_or (option_map (λ (g : Guide). g.1) o) []))
    by_guide None h = λ k d lt. absurd (omega arith)
    by_guide (Some g) h = boxes_near (level_names layers) g.1 (h g refl).1

-- the guide of a net is near
pub guide_near : (i : Input) (layers : List Layer) (name : List ℕ) → IsInput i → All (λ (b : ℕ × Sides). AreSidesWithin (2 ^ 32) b.1) (guide_of i.def.die layers i.guides name)
guide_near i layers name ok = by_guides i.guides ok.are_guides
  where
    by_guides : (gs : Option (List Guide)) → IfSome gs AreGuides → All (λ (b : ℕ × Sides). AreSidesWithin (2 ^ 32) b.1) (guide_of i.def.die layers gs name)
    by_guides None h = All-map (λ (b : ℕ × Sides). AreSidesWithin (2 ^ 32) b.1) (λ (l : ℕ × Layer). (l.0, i.def.die)) (enumerate_from 0 (routing_layers layers)) (λ k d lt. sides-weaker (2 ^ 30) (2 ^ 32) i.def.die (omega arith) ok.is_def.die)
    by_guides (Some gs) h = entry_near layers gs name h.all

-- the guides of a file are those of the input
pub guides_are : (o : Option Guides) → IfSome o (λ (g : Guides). AreGuides g.nets) → IfSome (option_map (λ (g : Guides). g.nets) o) AreGuides
guides_are None h = h
guides_are (Some g) h = h
