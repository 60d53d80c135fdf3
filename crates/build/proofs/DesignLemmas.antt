-- What is built is a design, and the design of LEF and DEF.
use Rattle.std.proofs.Common.{◌≡◌, ◌≢◌, ℕ, ◌*◌, ◌^◌, ◌<◌, ◌≤◌, ℤ, pos, ◌≤ℤ◌, List, [], ◌∷◌, map, length, get_or, All, AllPairs, refl, sym, ap, subst, ◌∙◌, arith}
use Rattle.std.specs.List.{AllZip}
use Rattle.std.proofs.lemmas.List.{length-map, get_or-map}
use Rattle.std.proofs.lemmas.List.Elements.{All-weaker}
use Rattle.std.proofs.lemmas.Option.{slice_get-get_or, slice_get_within, get_or_from_slice_get}
use Rattle.rt_base.proofs.Lists.{All-at}
use Rattle.rt_base.proofs.Ranges.{sides-weaker}
use Rattle.rt_base.specs.Names.{IsName}
use Rattle.rt_base.specs.Tiles.{columns_of, rows_of}
use Rattle.rt_base.specs.declared.tech.Layer.{Layer}
use Rattle.rt_base.specs.declared.tech.Tech.{Tech}
use Rattle.rt_base.specs.declared.tech.Via.{Via}
use Rattle.track_graph.specs.declared.design.Design.{Design}
use Rattle.track_graph.specs.declared.design.Net.{Net}
use Rattle.track_graph.specs.declared.design.Options.{Options}
use Rattle.track_graph.specs.declared.design.Tracks.{Tracks}
use Rattle.track_graph.specs.Designs.{IsDesign, HasNames, IsNet, IsFixed, IsTech, AreTracks, IsGrid, AreOptions}
use Rattle.track_graph.specs.Levels.{TrackSystem, track_system_of}
use Rattle.lef_text.specs.declared.lef.Lef.{Lef}
use Rattle.lef_text.specs.IsLef.{IsLef, IsLayer, IsVia}
use Rattle.def_text.specs.declared.def.Def.{Def}
use Rattle.def_text.specs.declared.def.DefNet.{DefNet}
use Rattle.def_text.specs.Defs.{IsDef, IsDefNet}
use Rattle.build.specs.Built.{IsTechOf, IsNetOf, fixed_of, grid_of}
use Rattle.build.specs.Ground.{IsBuiltNet}
use Rattle.build.specs.Inputs.{Input}
use Rattle.build.specs.Lines.{IsLevel}
use Rattle.build.specs.TrackLines.{AreTracksOf, AreLinesOf, largest_step, routing_layers}
use Rattle.cells.proofs.Lists.{AllZip-weaker}
use Rattle.build.proofs.TechLemmas.{AllZip-length, AllZip-all, alternate_is}
use Rattle.build.proofs.UsableVias.{usable_said}

-- the tracks of LEF and DEF
pub tracks_of : (lef : Lef) (def : Def) (tech : Tech) (tracks : Tracks) → tech.layers ≡ lef.layers → AllZip (IsLevel def.tracks) (routing_layers tech.layers) tracks.lines → tracks.largest_step ≡ map (largest_step def.tracks) (routing_layers tech.layers) → AreTracksOf lef def tracks
tracks_of lef def tech tracks same lines steps = record {
  lines = subst (λ ls. AllZip (AreLinesOf def.tracks) (routing_layers ls) tracks.lines) same (AllZip-weaker (IsLevel def.tracks) (AreLinesOf def.tracks) (λ l zs h. h.lines) (routing_layers tech.layers) tracks.lines lines);
  steps = steps ∙ ap (λ ls. map (largest_step def.tracks) (routing_layers ls)) same;
}

-- names that differ, in a list and in the list of names
unmapped-differ : {X : Type 0} (f : X → List ℕ) (xs : List X) → AllPairs (λ a b. a ≢ b) (map f xs) → AllPairs (λ a b. f a ≢ f b) xs
unmapped-differ f xs h i j d lt within =
    subst (λ (a : List ℕ). a ≢ f (get_or xs j d)) (get_or-map f xs i d (f d) (omega arith))
    (subst (λ (b : List ℕ). get_or (map f xs) i (f d) ≢ b) (get_or-map f xs j d (f d) within) (h i j (f d) lt (omega (arith, within, length-map xs f))))

mapped-differ : {X : Type 0} (f : X → List ℕ) (xs : List X) → AllPairs (λ a b. f a ≢ f b) xs → AllPairs (λ a b. a ≢ b) (map f xs)
mapped-differ f [] h i j d lt within = absurd (omega arith)
mapped-differ {X} f (x ∷ xs) h i j d lt within =
    let inside : j < length (x ∷ xs) = omega (arith, within, length-map xs f) in
    let first : get_or (map f (x ∷ xs)) i d ≡ f (get_or (x ∷ xs) i x) = get_or-map f (x ∷ xs) i x d (omega arith) in
    let second : get_or (map f (x ∷ xs)) j d ≡ f (get_or (x ∷ xs) j x) = get_or-map f (x ∷ xs) j x d inside in
    λ e. h i j x lt inside (sym first ∙ e ∙ second)

same_names : {X Y : Type 0} (R : X → Y → Type 0) (f : X → List ℕ) (g : Y → List ℕ) → ((x : X) (y : Y) → R x y → g y ≡ f x) → (xs : List X) (ys : List Y) → AllZip R xs ys → map g ys ≡ map f xs
same_names R f g same [] [] h = refl
same_names R f g same [] (y ∷ ys) h = absurd h
same_names R f g same (x ∷ xs) [] h = absurd h
same_names R f g same (x ∷ xs) (y ∷ ys) h = rw (same x y h.0, same_names R f g same xs ys h.1) refl

abbrev name_of_layer : Layer → List ℕ
name_of_layer l = l.name

abbrev name_of_via : Via → List ℕ
name_of_via v = v.name

abbrev name_of_net : Net → List ℕ
name_of_net n = n.name

abbrev name_of_said : DefNet → List ℕ
name_of_said n = n.name

-- the names of the design
pub names_are : (i : Input) (g : TrackSystem) (d : Design) → IsLef i.lef → IsDef i.def → IsTechOf i d.tech → AllZip (IsNetOf i g) i.def.nets d.nets → HasNames d
names_are i g d is_lef is_def of nets = record {
  layers = subst (λ (ls : List Layer). All (λ (l : Layer). IsName l.name) ls) (sym of.layers) (All-weaker IsLayer (λ (l : Layer). IsName l.name) (λ l h. h.name) i.lef.layers is_lef.layers);
  layers_differ = subst (λ (ls : List Layer). AllPairs (λ (a b : Layer). a.name ≢ b.name) ls) (sym of.layers) (unmapped-differ name_of_layer i.lef.layers is_lef.layer_names);
  nets = AllZip-all (IsNetOf i g) IsDefNet (λ (n : Net). IsName n.name) (λ s n h o. subst IsName (sym h.name) o.name) i.def.nets d.nets nets is_def.nets;
  nets_differ = unmapped-differ name_of_net d.nets
      (subst (AllPairs (λ a b. a ≢ b)) (sym (same_names (IsNetOf i g) name_of_said name_of_net (λ s n h. h.name) i.def.nets d.nets nets)) (mapped-differ name_of_said i.def.nets is_def.net_names));
  vias = λ k x within usable.
      let v : Via = get_or d.tech.vias k x in
      let said = usable_said i d.tech of k v (slice_get-get_or d.tech.vias k x within) usable in
      subst IsName said.2 (All-at (IsVia (length i.lef.layers)) i.lef.vias k said.0 is_lef.vias said.1).name;
  vias_differ = λ m n x lt within usable_m usable_n.
      let a = usable_said i d.tech of m (get_or d.tech.vias m x) (slice_get-get_or d.tech.vias m x (omega arith)) usable_m in
      let b = usable_said i d.tech of n (get_or d.tech.vias n x) (slice_get-get_or d.tech.vias n x within) usable_n in
      let inside : n < length i.lef.vias = slice_get_within i.lef.vias n b.0 b.1 in
      let first : get_or i.lef.vias m x ≡ a.0 = get_or_from_slice_get i.lef.vias m a.0 x a.1 in
      let second : get_or i.lef.vias n x ≡ b.0 = get_or_from_slice_get i.lef.vias n b.0 x b.1 in
      let differ : (get_or i.lef.vias m x).name ≢ (get_or i.lef.vias n x).name = unmapped-differ name_of_via i.lef.vias is_lef.via_names m n x lt inside in
      λ e. differ (ap name_of_via first ∙ a.2 ∙ e ∙ sym b.2 ∙ sym (ap name_of_via second));
}

-- the design
pub design_is : (i : Input) (options : Options) (d : Design) → IsLef i.lef → IsDef i.def → IsTechOf i d.tech → IsTech d.tech → AreTracks d.tech d.tracks → All (λ (zs : List ℤ). length zs ≤ 65536) d.tracks.lines → d.grid ≡ grid_of i.def options → columns_of (grid_of i.def options) * rows_of (grid_of i.def options) ≤ 1048576 → options.via ≤ 2 ^ 20 → pos 1 ≤ℤ options.tile → options.tile ≤ℤ pos (2 ^ 35) → d.options ≡ options → AllZip (IsBuiltNet i (track_system_of d)) i.def.nets d.nets → d.fixed ≡ fixed_of i → All (IsFixed d.tech) (fixed_of i) → IsDesign d
design_is i options d good ok t tech tracks few_lines grid tiles via least most same nets fixed all = record {
  tech = tech;
  alternate = alternate_is i.lef d.tech good t.layers;
  tracks = tracks;
  line_counts = few_lines;
  grid = subst (λ g. IsGrid g) (sym grid) (record { die = sides-weaker (2 ^ 30) (2 ^ 32) i.def.die (omega arith) ok.die; tile = (least, most); tile_count = omega arith });
  options = subst (λ o. AreOptions o) (sym same) (record { via = via });
  net_count = omega (arith, ok.net_count, AllZip-length (IsBuiltNet i (track_system_of d)) i.def.nets d.nets nets);
  nets = AllZip-all (IsBuiltNet i (track_system_of d)) IsDefNet (IsNet (track_system_of d)) (λ s n h o. h.is_net) i.def.nets d.nets nets ok.nets;
  fixed = subst (λ ss. All (IsFixed d.tech) ss) (sym fixed) all;
  names = names_are i (track_system_of d) d good ok t (AllZip-weaker (IsBuiltNet i (track_system_of d)) (IsNetOf i (track_system_of d)) (λ s n h. h.is_net_of) i.def.nets d.nets nets);
}
