-- What is put together is the design of LEF and DEF, and what keeps it from being one is the first refusal.
use Rattle.std.proofs.Common.{ℕ, ◌≡◌, ◌≢◌, ◌^◌, ◌<◌, ◌≤◌, ℤ, pos, negsuc, ◌≤ℤ◌, unsigned_abs, FitsSigned, to_z, of_z, w64, List, Option, Some, None, Result, Ok, Err, IfOk, IfErr, IsErrAnd, MatchResult, length, All, refl, sym, ap, subst, ◌∙◌, arith}
use Rattle.std.specs.List.{AllZip}
use Rattle.std.proofs.lemmas.Result.{err_from_is_err_and}
use Rattle.rt_base.specs.Sides.{Sides}
use Rattle.std.proofs.lemmas.Int.{ints, to_z-of_z, fits_signed_from_abs}
use Rattle.rt_base.specs.declared.grid.Grid.{Grid}
use Rattle.rt_base.specs.declared.tech.Shape.{Shape}
use Rattle.rt_base.specs.declared.tech.Layer.{Layer}
use Rattle.rt_base.specs.declared.tech.Tech.{Tech}
use Rattle.track_graph.specs.declared.design.Design.{Design}
use Rattle.track_graph.specs.declared.design.Net.{Net}
use Rattle.track_graph.specs.declared.design.Options.{Options}
use Rattle.track_graph.specs.declared.design.Tracks.{Tracks}
use Rattle.track_graph.specs.Designs.{IsDesign}
use Rattle.track_graph.specs.Levels.{TrackSystem}
use Rattle.pin_access.specs.EntryOrder.{system_of}
use Rattle.def_text.specs.declared.def.Def.{Def}
use Rattle.def_text.specs.declared.def.DefNet.{DefNet}
use Rattle.build.specs.declared.design.Rest.{Rest}
use Rattle.build.specs.declared.error.BuildError.{BuildError}
use Rattle.build.specs.declared.error.BuildError.TheVariants.{Memory as OutOfMemory}
use Rattle.net_guides.specs.declared.index.NetGuides.{NetGuides}
use Rattle.build.specs.declared.lookup.Lookup.{Lookup}
use Rattle.build.specs.Built.{IsNetOf, fixed_of, grid_of}
use Rattle.build.specs.Faults.{size_fault, size_by, entry_count}
use Rattle.build.specs.Ground.{AreGrounds, IsBuiltNet}
use Rattle.build.proofs.EntryTotals.{nets_unique, nets_counted}
use Rattle.build.specs.Inputs.{Input}
use Rattle.build.specs.Lines.{AreLevels}
use Rattle.build.specs.Refusals.{Parts, Gives, Refuses}
use Rattle.build.specs.Refusals.Refuses.{by_size}
use Rattle.build.specs.Rests.{AreSized, IsRest}
use Rattle.build.specs.Standing.{Stands}
use Rattle.build.specs.TrackLines.{line_count, routing_layers}
use Rattle.build.proofs.DesignLemmas.{tracks_of, design_is}
use Rattle.build.proofs.FirstFaults.{few_levels, counted, few_tiles}
use Rattle.cells.proofs.Lists.{AllZip-weaker}
use Rattle.build.proofs.WireLemmas.{fixed_are}
use Rattle.build.proofs.TrackLemmas.{tracks_are, lines_few}
use Rattle.build.proofs.Uniqueness.{no_refusal, one_refusal, is_memory}

pub ground_is : (i : Input) (options : Options) (known : Lookup) (index : NetGuides) (tech : Tech) (tracks : Tracks) → Stands i options known index tech → AreLevels i.def tech tracks → AreGrounds i known index tech tracks
ground_is i options known index tech tracks s b =
    let few = few_levels i s.names in
    let count = counted i tech s.counts in
    let same = s.tech_of.layers in
    record {
      is_input = s.asked.is_input;
      is_lookup = s.asked.known_is;
      is_index = s.asked.index_is;
      is_tech = s.is_tech;
      same_layers = same;
      are_tracks = tracks_are tech i.def.tracks tracks s.asked.is_input.is_def.tracks b.lines b.steps (subst (λ (ls : List Layer). All (λ (l : Layer). line_count l i.def.tracks ≤ 65536) (routing_layers ls)) (sym same) count.lines);
      few_lines = lines_few tech i.def.tracks tracks b.lines (subst (λ (ls : List Layer). All (λ (l : Layer). line_count l i.def.tracks ≤ 65536) (routing_layers ls)) (sym same) count.lines);
      few_shapes = count.shapes;
      few_levels = subst (λ (ls : List Layer). length (routing_layers ls) ≤ 16) (sym same) few;
    }

pub nets_of : (i : Input) (g : TrackSystem) (said : List DefNet) (nets : List Net) → AllZip (IsBuiltNet i g) said nets → AllZip (IsNetOf i g) said nets
nets_of i g said nets h = AllZip-weaker (IsBuiltNet i g) (IsNetOf i g) (λ s n b. b.is_net_of) said nets h

-- the parts of the design
abbrev parts_are : (i : Input) (options : Options) (known : Lookup) (index : NetGuides) (tech : Tech) (tracks : Tracks) (fault : Option BuildError) → Stands i options known index tech → AreLevels i.def tech tracks → AreSized i options (system_of tech tracks i.def.die) fault → Parts i
parts_are i options known index tech tracks fault s b n = record {
  tech = tech;
  tech_of = s.tech_of;
  tracks = tracks;
  tracks_of = tracks_of i.lef i.def tech tracks s.tech_of.layers b.lines b.steps;
  entries = n.entries;
  entries_of = n.entries_of;
}

-- the sizes of the design, by the entries that are listed
sizes_pass : (i : Input) (options : Options) (tech : Tech) (rest : Rest) → IsRest i options tech rest → size_fault (grid_of i.def options) (fixed_of i) rest.nets ≡ None
sizes_pass i options tech rest r =
    let g = system_of tech rest.tracks i.def.die in
    let one : entry_count rest.nets ≡ r.sized.entries = nets_unique i g i.def.nets (entry_count rest.nets) r.sized.entries (nets_counted i g i.def.nets rest.nets (nets_of i g i.def.nets rest.nets r.nets)) r.sized.entries_of in
    ap (size_by (grid_of i.def options) (fixed_of i)) one ∙ r.sized.sizes

-- the design of a technology, a grid, shapes and the rest
abbrev pub design_of : Options → Tech → Grid → List Shape → Rest → Design
design_of options tech grid shapes rest = record { tech = tech; tracks = rest.tracks; grid = grid; nets = rest.nets; fixed = shapes; options = options; skipped = rest.skipped }

pub assembled_gives : (i : Input) (options : Options) (known : Lookup) (index : NetGuides) (tech : Tech) (grid : Grid) (shapes : List Shape) (rest : Rest) → Stands i options known index tech → grid ≡ grid_of i.def options → shapes ≡ fixed_of i → IsRest i options tech rest → Gives i options (design_of options tech grid shapes rest)
assembled_gives i options known index tech grid shapes rest s tiles fixed r = record {
  design = record {
    tech = s.tech_of;
    tracks = tracks_of i.lef i.def tech rest.tracks s.tech_of.layers r.levels.lines r.levels.steps;
    grid = tiles;
    nets = nets_of i (system_of tech rest.tracks i.def.die) i.def.nets rest.nets r.nets;
    fixed = fixed;
    options = refl;
    skipped = r.skipped;
  };
  passes = record { names = s.names; counts = s.counts; sizes = sizes_pass i options tech rest r };
}

pub assembled_fits : (i : Input) (options : Options) (known : Lookup) (index : NetGuides) (tech : Tech) (grid : Grid) (shapes : List Shape) (rest : Rest) → Stands i options known index tech → grid ≡ grid_of i.def options → shapes ≡ fixed_of i → IsRest i options tech rest → IsDesign (design_of options tech grid shapes rest)
assembled_fits i options known index tech grid shapes rest s tiles fixed r =
    let d = design_of options tech grid shapes rest in
    let g = ground_is i options known index tech rest.tracks s r.levels in
    let count = counted i tech s.counts in
    design_is i options d s.asked.is_input.is_lef s.asked.is_input.is_def s.tech_of s.is_tech g.are_tracks g.few_lines
    tiles (few_tiles (grid_of i.def options) (fixed_of i) rest.nets (sizes_pass i options tech rest r)) s.asked.chosen.via s.asked.chosen.least s.asked.chosen.most refl
    (subst (λ (die : Sides). AllZip (IsBuiltNet i (system_of tech rest.tracks die)) i.def.nets rest.nets) (ap (λ (x : Grid). x.die) (sym tiles)) r.nets) fixed
    (fixed_are i tech s.tech_of.layers s.layers count.near)

-- exits by `?`
pub refused : {A : Type 0} → (i : Input) (options : Options) (r : Result A BuildError) (x : BuildError) → IsErrAnd r (λ e. e ≡ x) → (x ≢ OutOfMemory → Refuses i options x) → IfErr r (λ e. e ≢ OutOfMemory → Refuses i options e)
refused i options r x is h =
    let p = err_from_is_err_and r is in
    rw (p.1, p.2) h

pub out_of_memory : {A : Type 0} → (i : Input) (options : Options) (r : Result A BuildError) → IsErrAnd r (λ e. e ≡ OutOfMemory) → IfErr r (λ e. e ≢ OutOfMemory → Refuses i options e)
out_of_memory i options r is =
    let p = err_from_is_err_and r is in
    rw (p.1, p.2) (λ other. absurd (other refl))

pub sized_refused : (i : Input) (options : Options) (g : TrackSystem) (r : Result (List Net) BuildError) (x : BuildError) → IsErrAnd r (λ e. e ≡ x) → (x ≢ OutOfMemory → AreSized i options g (Some x)) → MatchResult r (λ nets. AreSized i options g None) (λ e. e ≢ OutOfMemory → AreSized i options g (Some e))
sized_refused i options g r x is h =
    let p = err_from_is_err_and r is in
    rw (p.1, p.2) h

-- each answer in both directions
pub only_design : (i : Input) (options : Options) (r : Result Design BuildError) → IfErr r (λ e. e ≢ OutOfMemory → Refuses i options e) → (d : Design) → Gives i options d → IfErr r (λ e. e ≡ OutOfMemory)
only_design i options (Ok x) h d g = tt
only_design i options (Err e) h d g = is_memory e (λ other. no_refusal i options d e g (h other))

pub only_refusal : (i : Input) (options : Options) (r : Result Design BuildError) → IfOk r (Gives i options) → IfErr r (λ e. e ≢ OutOfMemory → Refuses i options e) → (e : BuildError) → Refuses i options e → MatchResult r (λ d. ⊥) (λ f. f ≢ OutOfMemory → f ≡ e)
only_refusal i options (Ok d) g h e x = no_refusal i options d e g x
only_refusal i options (Err f) g h e x = λ other. one_refusal i options f e (h other) x

-- the grid as it is made
pub grid_is : (def : Def) (options : Options) → pos 1 ≤ℤ options.tile → options.tile ≤ℤ pos (2 ^ 35) → (let g : Grid = record { die = def.die; tile = to_z w64 (of_z w64 options.tile) } in g) ≡ grid_of def options
grid_is def options least most =
    let fits : FitsSigned w64 options.tile = fits_signed_from_abs w64 options.tile (within options.tile least most) in
    ap (λ (t : ℤ). let g : Grid = record { die = def.die; tile = t } in g) (to_z-of_z w64 options.tile fits)
  where
    within : (z : ℤ) → pos 1 ≤ℤ z → z ≤ℤ pos (2 ^ 35) → unsigned_abs z < 2 ^ 63
    within (pos n) a b = omega (arith, ints)
    within (negsuc n) a b = absurd (omega (arith, ints))

-- the refusal of a size
pub too_large : (i : Input) (options : Options) (known : Lookup) (index : NetGuides) (tech : Tech) (tracks : Tracks) (e : BuildError) → Stands i options known index tech → AreLevels i.def tech tracks → AreSized i options (system_of tech tracks i.def.die) (Some e) → Refuses i options e
too_large i options known index tech tracks e s b n = by_size s.names (parts_are i options known index tech tracks (Some e) s b n) s.counts n.sizes

-- the sizes, by the grid and the shapes that are tested
pub sizes_through : (i : Input) (options : Options) (g : Grid) (shapes : List Shape) (entries : ℕ) → g ≡ grid_of i.def options → shapes ≡ fixed_of i → size_by g shapes entries ≡ size_by (grid_of i.def options) (fixed_of i) entries
sizes_through i options g shapes entries a b = ap (λ (x : Grid). size_by x shapes entries) a ∙ ap (λ (x : List Shape). size_by (grid_of i.def options) x entries) b
