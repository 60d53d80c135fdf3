-- The routed DEF is read again, and states the final wires.
use Rattle.std.proofs.Common.{◌≡◌, ℕ, zero, suc, ◌+◌, ◌++◌, List, [], ◌∷◌, true, Option, Some, All, refl, sym, ap, subst, ◌∙◌, map, flat_map, length, append-nil, arith}
use Rattle.std.specs.Prelude.{slice_get, option_map, nat_lt}
use Rattle.std.specs.List.{AllZip, zip}
use Rattle.std.proofs.lemmas.List.Elements.{All-nil, All-cons, All-head, All-tail}
use Rattle.std.proofs.lemmas.Option.{same_Some}
use Rattle.std.proofs.lemmas.Slice.Zip.{AllZip-long}
use Rattle.rt_base.specs.declared.tech.Tech.{Tech}
use Rattle.rt_base.specs.declared.tech.Via.{Via}
use Rattle.rt_base.specs.declared.token.Token.{Token}
use Rattle.rt_base.specs.Scan.{IsCutInto}
use Rattle.rt_forms.specs.Clauses.{IsText}
use Rattle.rt_forms.specs.Lexeme.{places, last_line}
use Rattle.track_graph.specs.declared.design.Design.{Design}
use Rattle.track_graph.specs.declared.design.Net.{Net}
use Rattle.track_graph.specs.declared.design.NetKind.TheVariants.{Routable, Prewired}
use Rattle.track_graph.specs.declared.design.Options.{Options}
use Rattle.track_graph.specs.declared.history.Block.{Block}
use Rattle.track_graph.specs.declared.history.State.{State}
use Rattle.track_graph.specs.declared.history.Stroke.{Stroke}
use Rattle.track_graph.specs.declared.history.Stroke.TheVariants.{Run, Via as ViaAt}
use Rattle.track_graph.specs.Metal.{via_name_of}
use Rattle.track_graph.specs.Designs.{IsDesign}
use Rattle.track_graph.specs.Histories.{IsRoutable, IsHistory}
use Rattle.track_graph.specs.Levels.{TrackSystem}
use Rattle.track_graph.specs.Conditions.{IsStateOf}
use Rattle.track_graph.specs.States.{net_state, state_of}
use Rattle.track_graph.specs.Strokes.{walk_strokes}
use Rattle.pin_access.specs.EntryOrder.{system_of}
use Rattle.track_graph.proofs.BlockLemmas.{history-kept}
use Rattle.lef_text.specs.IsLef.{IsLef}
use Rattle.def_text.specs.declared.def.Def.{Def}
use Rattle.def_text.specs.declared.def.DefNet.{DefNet}
use Rattle.def_text.specs.declared.def.DefVia.{DefVia}
use Rattle.def_text.specs.Defs.{IsDef}
use Rattle.def_text.specs.Texts.{def_form}
use Rattle.guide_text.specs.IsGuides.{Guide}
use Rattle.fixed_wires.specs.FixedWires.{values, via_said}
use Rattle.def_out.specs.Conditions.{AreCloses}
use Rattle.def_out.specs.Wiring.{net_strokes, routed_def}
use Rattle.build.specs.Built.{IsNetOf, IsTechOf, kind_of}
use Rattle.build.specs.Inputs.{Input}
use Rattle.build.specs.Refusals.{Gives}
use Rattle.build.specs.Wires.{tech_said, wiring_tech}
use Rattle.build.proofs.Zips.{AllZip-second}
use Rattle.written.specs.Cuts.{Cut}
use Rattle.written.specs.Words.{option_words}
use Rattle.def_again.specs.Again.{IsClose, IsOption, IsAgain, IsNetAgain, range_words, range_behind}
use Rattle.def_again.specs.Reread.{IsReread}
use Rattle.def_again.proofs.Reading.{reread}
use Rattle.out_words.specs.Added.{added_from, IsNetCut}
use Rattle.out_words.proofs.Splices.{routed_words}
use Rattle.wire_cover.specs.GoodStrokes.{IsGoodStroke, AreViasOrdered}
use Rattle.wire_cover.proofs.Covering.{cover_same, cover_trans}
use Rattle.wire_cover.proofs.NetWiring.{net_wiring_covers}
use Rattle.wire_words.specs.Readable.{IsReadable}
use Rattle.read_back.specs.ReadBack.{IsReadBack, IsShown, StatesWires, with_def, standing_metal}
use Rattle.read_back.proofs.Lists.{zip_first, zip_left}
use Rattle.read_back.proofs.Near.{design_near}
use Rattle.read_back.proofs.Standing.{none_stand}
use Rattle.read_back.proofs.Stating.{option_ok, stated, wired}
use Rattle.read_back.proofs.Strokes.{net_walks, net_good, net_plain, readable, none_further, is_read_by, NoneNamed}
use Rattle.read_back.proofs.Technology.{none_named, via_stands}

-- the nets of DEF and of the design close at the same places
net_cuts : (i : Input) (g : TrackSystem) (said : List DefNet) (nets : List Net) (cuts : List Cut) → AllZip (IsNetOf i g) said nets → AllZip IsClose said cuts → AllZip IsNetCut nets cuts
net_cuts i g [] [] [] h k = tt
net_cuts i g [] [] (c ∷ cuts) h k = absurd k
net_cuts i g [] (n ∷ nets) cuts h k = absurd h
net_cuts i g (m ∷ said) [] cuts h k = absurd h
net_cuts i g (m ∷ said) (n ∷ nets) [] h k = absurd k
net_cuts i g (m ∷ said) (n ∷ nets) (c ∷ cuts) h k = ((k.0.place ∙ sym h.0.close, k.0.semicolon), net_cuts i g said nets cuts h.1 k.1)

-- words are put in for each net
added_count : (d : Design) (s : State) (n : ℕ) (nets : List Net) (cuts : List Cut) → AllZip IsNetCut nets cuts → length (added_from d s n nets) ≡ length cuts
added_count d s n [] [] h = refl
added_count d s n [] (c ∷ cuts) h = absurd h
added_count d s n (net ∷ nets) [] h = absurd h
added_count d s n (net ∷ nets) (c ∷ cuts) h = ap suc (added_count d s (n + 1) nets cuts h.1)

added_ok : (d : Design) (s : State) (n : ℕ) (nets : List Net) → ((k : ℕ) → IsOption (option_words d.tech (net_strokes d s k))) → All IsOption (added_from d s n nets)
added_ok d s n [] each = All-nil IsOption
added_ok d s n (net ∷ nets) each = All-cons IsOption (option_words d.tech (net_strokes d s n)) (added_from d s (n + 1) nets) (each n) (added_ok d s (n + 1) nets each)

-- those for one net
added_at : (d : Design) (s : State) (n k : ℕ) (said : List DefNet) (nets : List Net) (m : DefNet) → length said ≡ length nets → slice_get said k ≡ Some m → slice_get (zip said (added_from d s n nets)) k ≡ Some (m, option_words d.tech (net_strokes d s (n + k)))
added_at d s n k [] nets m e h = absurd cc
added_at d s n k (x ∷ said) [] m e h = absurd (omega (arith, e))
added_at d s n zero (x ∷ said) (net ∷ nets) m e h =
    let same : x ≡ m = same_Some x m h in
    let here : n ≡ n + 0 = omega arith in
    ap (λ (y : DefNet). Some (y, option_words d.tech (net_strokes d s n))) same ∙ ap (λ (j : ℕ). Some (m, option_words d.tech (net_strokes d s j))) here
added_at d s n (suc k) (x ∷ said) (net ∷ nets) m e h =
    let there : (n + 1) + k ≡ n + suc k = omega arith in
    added_at d s (n + 1) k said nets m (omega (arith, e)) h ∙ ap (λ (j : ℕ). Some (m, option_words d.tech (net_strokes d s j))) there

-- a routable net has no wiring of its own
prewired : (guides : Option (List Guide)) (net : DefNet) (r : ℕ × ℕ) (ranges : List (ℕ × ℕ)) → net.wiring ≡ r ∷ ranges → kind_of guides net ≡ Prewired
prewired guides net r ranges e = rw (some) refl
  where
    some : nat_lt 0 (length net.wiring) ≡ true
    some = rw e (grind arith)

no_wiring : (guides : Option (List Guide)) (net : DefNet) → kind_of guides net ≡ Routable → net.wiring ≡ []
no_wiring guides net h = by_wiring net.wiring refl
  where
    by_wiring : (ranges : List (ℕ × ℕ)) → net.wiring ≡ ranges → ranges ≡ []
    by_wiring [] e = refl
    by_wiring (r ∷ ranges) e = absurd (let p = sym (prewired guides net r ranges e) ∙ h in cc)

-- what DEF shows no other via hides
shown_none : (i : Input) (tech : Tech) (text : List ℕ) (tokens : List Token) (vias : List DefVia) (ss : List Stroke) → All (IsShown vias tech) ss → All (NoneNamed tech (values (map (via_said (tech_said i.lef) text tokens) vias))) ss
shown_none i tech text tokens vias [] h = All-nil (NoneNamed tech (values (map (via_said (tech_said i.lef) text tokens) vias)))
shown_none i tech text tokens vias (Run level a b ∷ ss) h = All-cons (NoneNamed tech (values (map (via_said (tech_said i.lef) text tokens) vias))) (Run level a b) ss tt (shown_none i tech text tokens vias ss (All-tail (IsShown vias tech) (Run level a b) ss h))
shown_none i tech text tokens vias (ViaAt k p ∷ ss) h =
    All-cons (NoneNamed tech (values (map (via_said (tech_said i.lef) text tokens) vias))) (ViaAt k p) ss (none_named (tech_said i.lef) text tokens (via_name_of tech k) vias (All-head (IsShown vias tech) (ViaAt k p) ss h))
    (shown_none i tech text tokens vias ss (All-tail (IsShown vias tech) (ViaAt k p) ss h))

-- the kind of a routable net
kind_at : (d : Design) (n : ℕ) (net : Net) → slice_get d.nets n ≡ Some net → IsRoutable d n → net.kind ≡ Routable
kind_at d n net is h = same_Some net.kind Routable (sym (ap (option_map (λ (x : Net). x.kind)) is) ∙ h)

-- ---- the whole

-- what is known of a design that was read and routed
pub record IsGiven (i : Input) (options : Options) (d : Design) (blocks : List Block) : Type 0 where
  pub is_lef : IsLef i.lef
  pub is_def : IsDef i.def
  pub gives : Gives i options d
  pub design : IsDesign d
  pub ordered : AreViasOrdered d.tech
  pub closes : AreCloses i.text d.nets
  pub history : IsHistory d blocks

-- the wiring of a net that was read again covers the net's standing walks
net_stated : (i : Input) (options : Options) (d : Design) (blocks : List Block) (text : List ℕ) (tokens : List Token) (e : Def) → IsGiven i options d blocks
    → IsAgain (places i.text i.tokens) (places text tokens) (added_from d (state_of d blocks) 0 d.nets) i.def e → StatesWires (with_def i text tokens e) d (state_of d blocks)
net_stated i options d blocks text tokens e given same n net is routable shown =
    let s : State = state_of d blocks in
    let g : TrackSystem = system_of d.tech d.tracks i.def.die in
    let again : Input = with_def i text tokens e in
    let reader : Tech = wiring_tech again in
    let further : List Via = values (map (via_said (tech_said i.lef) text tokens) e.vias) in
    let routed : IsStateOf d s = history-kept d blocks given.design given.history in
    let near = design_near i options d given.is_def given.gives in
    let of : IsTechOf i d.tech = given.gives.design.tech in
    let strokes : List Stroke = net_strokes d s n in
    let read : All (IsReadable reader d.tech) strokes = readable d.tech reader i.lef.vias further strokes given.design.tech
    (is_read_by i d.tech reader further given.is_lef of refl refl) (net_good d s n given.design near routed) (shown_none i d.tech text tokens e.vias strokes shown) in
    let pair = AllZip-second _ (zip i.def.nets (added_from d s 0 d.nets)) e.nets n net same.nets is in
    let counts : length i.def.nets ≡ length d.nets = sym (AllZip-long (IsNetOf i g) i.def.nets d.nets given.gives.design.nets) in
    let said = zip_left i.def.nets (added_from d s 0 d.nets) n pair.0 pair.1 in
    let built = zip_first (IsNetOf i g) i.def.nets d.nets n said.0 given.gives.design.nets said.1 in
    let here : 0 + n ≡ n = omega arith in
    let words = added_at d s 0 n i.def.nets d.nets said.0 counts said.1 ∙ ap (λ (j : ℕ). Some (said.0, option_words d.tech (net_strokes d s j))) here in
    let is_pair : pair.0 ≡ (said.0, option_words d.tech strokes) = same_Some pair.0 (said.0, option_words d.tech strokes) (sym pair.1 ∙ words) in
    let one : IsNetAgain (places i.text i.tokens) (places text tokens) (option_words d.tech strokes) said.0 net = subst (λ (p : DefNet × List (List ℕ)). IsNetAgain (places i.text i.tokens) (places text tokens) p.1 p.0 net) is_pair pair.2 in
    let none : said.0.wiring ≡ [] = no_wiring i.guides said.0 (sym built.2.kind ∙ kind_at d n built.0 built.1 routable) in
    let ranges : map (range_words (places text tokens)) net.wiring ≡ range_behind (option_words d.tech strokes) = one.wiring ∙ ap (λ rs. map (range_words (places i.text i.tokens)) rs ++ range_behind (option_words d.tech strokes)) none in
    record {
      wired = wired reader d.tech text tokens net.wiring strokes read ranges;
      covers = cover_trans _ _ (standing_metal d s n) (cover_same _ _ (stated reader d.tech text tokens net.wiring strokes read ranges))
          (net_wiring_covers reader d n (net_state s n).walks given.design near given.ordered (sym of.layers) (via_stands i again d.tech of refl) (net_walks d n (net_state s n).walks (routed.walks n)));
    }

pub read_back : (i : Input) (options : Options) (d : Design) (blocks : List Block)
    → IsCutInto i.text i.tokens → IsText def_form i.text i.tokens i.def → IsGiven i options d blocks → IsReadBack i d (state_of d blocks)
read_back i options d blocks cut says given =
    let s : State = state_of d blocks in
    let out : List ℕ = routed_def i.text d s in
    let of : IsTechOf i d.tech = given.gives.design.tech in
    let routed : IsStateOf d s = history-kept d blocks given.design given.history in
    let good : (n : ℕ) → All (IsGoodStroke d.tech) (net_strokes d s n) = λ n. net_good d s n given.design (design_near i options d given.is_def given.gives) routed in
    let own : Tech = tech_said i.lef in
    let read_by = is_read_by i d.tech own [] given.is_lef of refl (sym (append-nil i.lef.vias)) in
    let option : (n : ℕ) → IsOption (option_words d.tech (net_strokes d s n)) = λ n. option_ok own d.tech (net_strokes d s n) (readable d.tech own i.lef.vias [] (net_strokes d s n) given.design.tech read_by (good n) (none_further d.tech (net_strokes d s n))) in
    let r : IsReread (places i.text i.tokens) i.def = reread (places i.text i.tokens) (last_line i.tokens) i.def says in
    let cuts = net_cuts i (system_of d.tech d.tracks i.def.die) i.def.nets d.nets r.cuts given.gives.design.nets r.closes in
    let w = routed_words i.text i.tokens d s r.cuts r.last cut r.whole cuts (λ n. net_plain d s n given.design.names (good n)) in
    let again = r.again (added_from d s 0 d.nets) (added_count d s 0 d.nets r.cuts cuts) (added_ok d s 0 d.nets option) (places out w.0) (last_line w.0) w.2 in
    record {
      closes = given.closes;
      tokens = w.0;
      cut = w.1;
      cuts = r.cuts;
      last = r.last;
      whole = r.whole;
      at_closes = cuts;
      words = w.2;
      others = λ n not_routed. ap (flat_map (walk_strokes d n)) (none_stand d blocks given.design given.history n not_routed);
      def = again.0;
      says = again.1;
      same = again.2;
      wires = net_stated i options d blocks out w.0 again.0 given again.2;
    }
