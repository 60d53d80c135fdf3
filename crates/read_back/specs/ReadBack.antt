-- The routed DEF, read again by the grammar of DEF and by that of wiring: it says what DEF said, and of each routable net exactly the final wires.
use Rattle.std.specs.Prelude.{◌≡◌, ℕ, List, [], Some, false, All, Contains, map, slice_get}
use Rattle.std.specs.List.{AllZip}
use Rattle.rt_base.specs.declared.tech.Shape.{Shape}
use Rattle.rt_base.specs.declared.tech.Tech.{Tech}
use Rattle.rt_base.specs.declared.token.Token.{Token}
use Rattle.rt_base.specs.Scan.{IsCutInto}
use Rattle.rt_forms.specs.Clauses.{IsText}
use Rattle.rt_forms.specs.Lexeme.{Place, places}
use Rattle.track_graph.specs.declared.design.Design.{Design}
use Rattle.track_graph.specs.declared.history.State.{State}
use Rattle.track_graph.specs.declared.history.Stroke.{Stroke}
use Rattle.track_graph.specs.declared.history.Stroke.TheVariants.{Run, Via as ViaAt}
use Rattle.track_graph.specs.Histories.{IsRoutable}
use Rattle.track_graph.specs.Metal.{Metal, via_name_of}
use Rattle.track_graph.specs.States.{net_shapes, net_state}
use Rattle.def_text.specs.declared.def.Def.{Def}
use Rattle.def_text.specs.declared.def.DefNet.{DefNet}
use Rattle.def_text.specs.declared.def.DefVia.{DefVia}
use Rattle.def_text.specs.Texts.{def_form}
use Rattle.def_wires.specs.declared.wiring.Wiring.{Wiring}
use Rattle.def_wires.specs.Options.{wiring_form}
use Rattle.fixed_wires.specs.FixedWires.{range_of}
use Rattle.def_out.specs.Conditions.{AreCloses}
use Rattle.def_out.specs.Wiring.{net_strokes, routed_def}
use Rattle.build.specs.Inputs.{Input}
use Rattle.build.specs.Wires.{metal_of_net, wiring_tech}
use Rattle.written.specs.Cover.{CoverSame}
use Rattle.written.specs.Cuts.{Cut, bytes_of, cut_words, with_words}
use Rattle.def_again.specs.Again.{IsAgain}
use Rattle.out_words.specs.Added.{IsNetCut, added_from}

-- a shape's rectangle on its layer
abbrev pub metal_of_shape : Shape → Metal
metal_of_shape s = (s.layer, s.rect)

-- the rectangles of a net's standing walks
abbrev pub standing_metal : Design → State → ℕ → List Metal
standing_metal d s n = map metal_of_shape (net_shapes d n (net_state s n))

-- the stroke places no via whose name one of these vias of DEF has too
abbrev pub IsShown : List DefVia → Tech → Stroke → Type 0
IsShown vias tech (Run level a b) = Unit {0}
IsShown vias tech (ViaAt k p) = Contains (map (λ (v : DefVia). v.name) vias) (via_name_of tech k) → ⊥

-- an input whose text of DEF is another one, with its tokens and what it says
abbrev pub with_def : Input → List ℕ → List Token → Def → Input
with_def i text tokens def = record i { text = text; tokens = tokens; def = def }

-- the tokens of a range are wiring of a net
abbrev pub IsWired : Input → ℕ × ℕ → Type 0
IsWired i r = (w : Wiring) × IsText (wiring_form (wiring_tech i) false) i.text (range_of i.tokens r) w

-- the wiring of a net is in its grammar, and means rectangles that cover exactly the points of the shapes of the net's standing walks
pub record StatesNet (again : Input) (d : Design) (s : State) (n : ℕ) (net : DefNet) : Type 0 where
  pub wired : All (IsWired again) net.wiring
  pub covers : CoverSame (metal_of_net again false net) (standing_metal d s n)

-- this holds of each routable net, but for one that places a via under whose name DEF has its own
abbrev pub StatesWires : Input → Design → State → Type 0
StatesWires again d s = (n : ℕ) (net : DefNet) → slice_get again.def.nets n ≡ Some net → IsRoutable d n → All (IsShown again.def.vias d.tech) (net_strokes d s n) → StatesNet again d s n net

pub record IsReadBack (i : Input) (d : Design) (s : State) : Type 0 where
  -- the closing `;` of the nets stand in DEF's text, each behind that of the net before
  pub closes : AreCloses i.text d.nets
  -- the tokens of the routed DEF are those of DEF, with the words of wiring before each closing `;`
  pub tokens : List Token
  pub cut : IsCutInto (routed_def i.text d s) tokens
  pub cuts : List Cut
  pub last : List Place
  pub whole : cut_words cuts last ≡ places i.text i.tokens
  pub at_closes : AllZip IsNetCut d.nets cuts
  pub words : bytes_of (places (routed_def i.text d s) tokens) ≡ with_words cuts last (added_from d s 0 d.nets)
  -- only routable nets have wiring put in
  pub others : (n : ℕ) → (IsRoutable d n → ⊥) → net_strokes d s n ≡ []
  -- it is a DEF, and says what DEF said but for this wiring
  pub def : Def
  pub says : IsText def_form (routed_def i.text d s) tokens def
  pub same : IsAgain (places i.text i.tokens) (places (routed_def i.text d s) tokens) (added_from d s 0 d.nets) i.def def
  -- and its wiring states the final wires of each routable net
  pub wires : StatesWires (with_def i (routed_def i.text d s) tokens def) d s
