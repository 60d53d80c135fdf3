-- The strokes of a net's standing walks: they can be written in plain words, and these be read.
use Rattle.std.proofs.Common.{◌≡◌, ◌≢◌, ℕ, ◌^◌, ◌<◌, ◌==◌, List, [], ◌∷◌, ◌++◌, true, false, get_or, Option, Some, IsTrue, All, Any, sym, ap, subst, ◌∙◌, flat_map, length, arith, lit≤}
use Rattle.std.specs.Prelude.{slice_get, unwrap_or, option_map}
use Rattle.std.specs.List.{list_any}
use Rattle.std.proofs.lemmas.List.Elements.{All-nil, All-cons, All-head, All-tail, All-weaker}
use Rattle.std.proofs.lemmas.List.Folds.{list_any-from_Any}
use Rattle.std.proofs.lemmas.Option.{slice_get-get_or, slice_get_within, same_Some}
use Rattle.rt_base.specs.declared.tech.Layer.{Layer}
use Rattle.rt_base.specs.declared.tech.Tech.{Tech}
use Rattle.rt_base.specs.declared.tech.Via.{Via}
use Rattle.rt_forms.specs.Reading.{is_name_word}
use Rattle.track_graph.specs.declared.design.Design.{Design}
use Rattle.track_graph.specs.declared.history.State.{State}
use Rattle.track_graph.specs.declared.history.Stroke.{Stroke}
use Rattle.track_graph.specs.declared.history.Stroke.TheVariants.{Run, Via as ViaAt}
use Rattle.track_graph.specs.Designs.{IsDesign, IsTech, HasNames}
use Rattle.track_graph.specs.Edges.{Joins}
use Rattle.track_graph.specs.Levels.{levels, layer_no}
use Rattle.track_graph.specs.Metal.{Metal, via_rects, via_name_of}
use Rattle.track_graph.specs.Conditions.{IsStateOf}
use Rattle.track_graph.specs.States.{net_state}
use Rattle.lef_text.specs.IsLef.{IsLef, IsLayer, IsVia}
use Rattle.lef_text.proofs.Named.{name_word}
use Rattle.def_out.specs.Wiring.{net_strokes}
use Rattle.build.specs.Built.{IsTechOf}
use Rattle.rt_base.specs.Names.{IsName, IsPlainWord}
use Rattle.rt_base.proofs.Lists.{All-at}
use Rattle.rt_base.specs.declared.walk.Walk.{Walk}
use Rattle.build.specs.Inputs.{Input}
use Rattle.track_graph.specs.NetWalks.{IsNetWalk, IsWalkOf}
use Rattle.written.specs.Words.{stroke_words}
use Rattle.out_words.specs.Strokes.{HasPlainNames, IsStrokeWithin}
use Rattle.out_words.proofs.Plain.{plain_strokes, plain_words, plain_layer_name, plain_level_name}
use Rattle.wire_cover.specs.GoodStrokes.{IsGoodStroke, IsNear}
use Rattle.wire_cover.proofs.GoodWalks.{net_strokes_good}
use Rattle.wire_words.specs.Readable.{IsReadable, IsReadBy, is_path_word}
use Rattle.wire_words.proofs.Readable.{readable_run, readable_via}
use Rattle.wire_words.proofs.Levels.{level_layer}
use Rattle.build.proofs.UsableVias.{usable_said}

pub net_walks : (d : Design) (n : ℕ) (walks : List Walk) → All (IsWalkOf d n) walks → All (IsNetWalk d n) walks
net_walks d n walks h = All-weaker (IsWalkOf d n) (IsNetWalk d n) (λ w of_net. of_net.net_walk) walks h

pub net_good : (d : Design) (s : State) (n : ℕ) → IsDesign d → IsNear d → IsStateOf d s → All (IsGoodStroke d.tech) (net_strokes d s n)
net_good d s n ok near of_design = net_strokes_good d n (net_state s n).walks ok near (net_walks d n (net_state s n).walks (of_design.walks n))

-- a via that joins two levels has a rectangle on one
some_level : (tech : Tech) (k low : ℕ) → low < length (levels tech) → Joins tech k low → list_any (λ (l : ℕ × Layer). list_any (λ (r : Metal). r.0.0 == l.0) (via_rects tech k)) (levels tech) ≡ true
some_level tech k low within joins =
    let layer = level_layer tech low within in
    let rects : via_rects tech k ≡ joins.via.rects = ap (λ (o : Option Via). unwrap_or (option_map (λ (v : Via). v.rects) o) []) joins.is_via in
    let here : list_any (λ (r : Metal). r.0.0 == layer_no tech low) joins.via.rects ≡ true = list_any-from_Any (λ (r : Metal). r.0.0 == layer_no tech low) joins.via.rects (at_level joins.via.rects joins.levels.lower) in
    list_any-from_Any (λ (l : ℕ × Layer). list_any (λ (r : Metal). r.0.0 == l.0) (via_rects tech k)) (levels tech)
    (any_here (levels tech) low (layer_no tech low, layer.0) layer.1.at (rw rects here))
  where
    at_level : (rects : List Metal) → Any (λ (r : Metal). r.0.0 ≡ layer_no tech low) rects → Any (λ (r : Metal). (r.0.0 == layer_no tech low) ≡ true) rects
    at_level rects (i, r, lt, is, e) = (i, r, lt, is, rw e (same (layer_no tech low)))
      where
        same : (n : ℕ) → (n == n) ≡ true
        same n = grind arith

    any_here : {X : Type 0} {P : X → Type 0} (xs : List X) (i : ℕ) (x : X) → slice_get xs i ≡ Some x → P x → Any P xs
    any_here xs i x e p =
        let within = slice_get_within xs i x e in
        (i, x, within, same_Some (get_or xs i x) x (sym (slice_get-get_or xs i x within) ∙ e), p)

plain_names_of : (d : Design) (s : Stroke) → HasNames d → IsGoodStroke d.tech s → HasPlainNames d.tech s
plain_names_of d s names good = by_stroke s good
  where
    layers : All (λ (l : Layer). IsPlainWord l.name) d.tech.layers
    layers = All-weaker (λ (l : Layer). IsName l.name) (λ (l : Layer). IsPlainWord l.name) (λ l h. h.plain) d.tech.layers names.layers

    via_plain : (k low : ℕ) → Joins d.tech k low → IsPlainWord (via_name_of d.tech k)
    via_plain k low joins =
        let is : via_name_of d.tech k ≡ joins.via.name = ap (λ (o : Option Via). unwrap_or (option_map (λ (v : Via). v.name) o) []) joins.is_via in
        subst IsPlainWord (sym is) (All-at (λ (v : Via). IsTrue v.usable → IsName v.name) d.tech.vias k joins.via names.vias joins.is_via joins.usable).plain

    by_stroke : (s : Stroke) → IsGoodStroke d.tech s → HasPlainNames d.tech s
    by_stroke (Run level a b) good = plain_layer_name d.tech level layers good.on_level
    by_stroke (ViaAt k p) good =
        let upper = good.upper_level in
        (plain_level_name d.tech k layers (some_level d.tech k good.low (omega arith) good.joins), via_plain k good.low good.joins)

near_of : (tech : Tech) (s : Stroke) → IsGoodStroke tech s → IsStrokeWithin (2 ^ 30) s
near_of tech (Run level a b) good = (good.start, good.end)
near_of tech (ViaAt k p) good = good.point

-- all words of a net's wiring are plain
pub net_plain : (d : Design) (s : State) (n : ℕ) → HasNames d → All (IsGoodStroke d.tech) (net_strokes d s n) → All IsPlainWord (flat_map (stroke_words d.tech) (net_strokes d s n))
net_plain d s n names good =
    plain_words d.tech (net_strokes d s n)
    (All-weaker (IsGoodStroke d.tech) (λ (x : Stroke). All IsPlainWord (stroke_words d.tech x))
    (λ x h. plain_strokes (2 ^ 30) d.tech x (lit≤ tt) (plain_names_of d x names h) (near_of d.tech x h)) (net_strokes d s n) good)

-- ---- readable

-- a technology with LEF's layers and vias, and further vias after them, is one that the design's strokes are read by
pub is_read_by : (i : Input) (tech reader : Tech) (further : List Via) → IsLef i.lef → IsTechOf i tech → reader.layers ≡ i.lef.layers → reader.vias ≡ i.lef.vias ++ further → IsReadBy reader tech i.lef.vias further
is_read_by i tech reader further ok of layers vias =
    record {
      layers = layers ∙ sym of.layers;
      layer_names = rw of.layers (All-weaker IsLayer (λ (l : Layer). is_name_word l.name ≡ true) (λ l h. name_word l.name h.name) i.lef.layers ok.layers);
      layers_apart = rw of.layers ok.layer_names;
      vias = vias;
      usable = λ k via at usable.
          let said = usable_said i tech of k via at usable in
          let is : IsVia (length i.lef.layers) said.0 = All-at (IsVia (length i.lef.layers)) i.lef.vias k said.0 ok.vias said.1 in
          record {
            said = said.0;
            at = said.1;
            same_name = said.2;
            same_rects = said.3;
            name = subst (λ (name : List ℕ). is_name_word name ≡ true) said.2 (name_word said.0.name is.name);
            no_path_word = subst (λ (name : List ℕ). is_path_word name ≡ false) said.2 is.no_path_word;
          };
      own_apart = ok.via_names;
    }

-- none of these vias has the name of a via that a stroke places
abbrev pub NoneNamed : Tech → List Via → Stroke → Type 0
NoneNamed tech further (Run level a b) = Unit {0}
NoneNamed tech further (ViaAt k p) = All (λ (u : Via). u.name ≢ via_name_of tech k) further

one_readable : (tech reader : Tech) (own further : List Via) (x : Stroke) → IsTech tech → IsReadBy reader tech own further → IsGoodStroke tech x → NoneNamed tech further x → IsReadable reader tech x
one_readable tech reader own further (Run level a b) ok by good none = readable_run reader tech own further level a b by good.on_level good.straight good.start good.end
one_readable tech reader own further (ViaAt k p) ok by good none = readable_via reader tech own further k good.low p ok by good.joins none good.point

pub readable : (tech reader : Tech) (own further : List Via) (ss : List Stroke) → IsTech tech → IsReadBy reader tech own further → All (IsGoodStroke tech) ss → All (NoneNamed tech further) ss → All (IsReadable reader tech) ss
readable tech reader own further [] ok by good none = All-nil (IsReadable reader tech)
readable tech reader own further (x ∷ ss) ok by good none =
    All-cons (IsReadable reader tech) x ss (one_readable tech reader own further x ok by (All-head (IsGoodStroke tech) x ss good) (All-head (NoneNamed tech further) x ss none))
    (readable tech reader own further ss ok by (All-tail (IsGoodStroke tech) x ss good) (All-tail (NoneNamed tech further) x ss none))

-- where there are no further vias, none has a name
pub none_further : (tech : Tech) (ss : List Stroke) → All (NoneNamed tech []) ss
none_further tech [] = All-nil (NoneNamed tech [])
none_further tech (Run level a b ∷ ss) = All-cons (NoneNamed tech []) (Run level a b) ss tt (none_further tech ss)
none_further tech (ViaAt k p ∷ ss) = All-cons (NoneNamed tech []) (ViaAt k p) ss (All-nil (λ (u : Via). u.name ≢ via_name_of tech k)) (none_further tech ss)
