-- A chip that is made by hand: two levels, and nets without pins.
use Rattle.std.proofs.Common.{◌≡◌, ◌≢◌, ◌∙◌, ℕ, zero, suc, ◌≤◌, ◌^◌, ℤ, pos, ◌<ℤ◌, Bool, true, false, List, [], ◌∷◌, length, get_or, All, AllPairs, IsTrue, refl, sym, ap, subst, arith, lit<, lit≤}
use Rattle.std.specs.Prelude.{codes}
use Rattle.std.proofs.lemmas.Int.{ints}
use Rattle.std.proofs.lemmas.List.Elements.{All-nil, All-cons}
use Rattle.std.proofs.lemmas.Option.{slice_get_within}
use Rattle.rt_base.specs.Names.{IsName}
use Rattle.rt_base.specs.Ranges.{AreSidesWithin, IsWidth, IsWithin}
use Rattle.rt_base.specs.Sides.{Sides}
use Rattle.rt_base.specs.Tables.{IsTable, IsTableRow}
use Rattle.rt_base.specs.declared.grid.Grid.{Grid}
use Rattle.rt_base.specs.declared.tech.Layer.{Layer}
use Rattle.rt_base.specs.declared.tech.SpacingTable.{SpacingTable}
use Rattle.rt_base.specs.declared.tech.Tech.{Tech}
use Rattle.rt_base.specs.declared.tech.Via.{Via}
use Rattle.track_graph.specs.declared.design.Design.{Design}
use Rattle.track_graph.specs.declared.design.Net.{Net}
use Rattle.track_graph.specs.declared.design.Pin.{Pin}
use Rattle.track_graph.specs.declared.design.Tracks.{Tracks}
use Rattle.track_graph.specs.Designs.{IsTech, IsViaOf, AreTracks, IsGrid, IsFixed, IsNet, Alternate, HasNames, IsDesign}
use Rattle.track_graph.specs.Levels.{TrackSystem, track_system_of}

pairs_none : {X : Type 0} → (R : X → X → Type 0) → AllPairs R []
pairs_none R i j d lt within = absurd (omega (arith, within))

pairs_two : {X : Type 0} → (R : X → X → Type 0) (a b : X) → R a b → AllPairs R (a ∷ b ∷ [])
pairs_two R a b h zero (suc zero) d lt within = h
pairs_two R a b h zero zero d lt within = absurd (omega (arith, lt))
pairs_two R a b h (suc i) (suc zero) d lt within = absurd (omega (arith, lt))
pairs_two R a b h (suc i) zero d lt within = absurd (omega (arith, lt))
pairs_two R a b h i (suc (suc j)) d lt within = absurd (omega (arith, within))

all_two : {X : Type 0} → (P : X → Type 0) (a b : X) → P a → P b → All P (a ∷ b ∷ [])
all_two P a b p q = All-cons P a (b ∷ []) p (All-cons P b [] q (All-nil P))

-- ---- levels

abbrev no_table : SpacingTable
no_table = record { lengths = []; rows = [] }

abbrev pub made_layer : List ℕ → Bool → Layer
made_layer name horizontal = record { name = name; routing = true; horizontal = horizontal; width = pos 100; spacing = pos 100; table = no_table }

abbrev pub lower : Layer
lower = made_layer (codes "M1") true

abbrev pub upper : Layer
upper = made_layer (codes "M2") false

abbrev pub made_tech : Tech
made_tech = record { layers = lower ∷ upper ∷ []; vias = [] }

is_table : IsTable no_table
is_table = record { lengths = pairs_none (λ a b. a <ℤ b); widths = pairs_none (λ (a b : ℤ × List ℤ). a.0 <ℤ b.0); rows = All-nil (IsTableRow 0) }

is_width : IsWidth (pos 100)
is_width = (omega (arith, ints), omega (arith, ints), refl)

pub is_tech : IsTech made_tech
is_tech = record {
  layer_count = lit< tt;
  via_count = lit< tt;
  level_count = lit≤ tt;
  widths = all_two (λ (l : ℕ × Layer). IsWidth l.1.width) (0, lower) (1, upper) is_width is_width;
  spacings = all_two (λ (l : Layer). IsWithin (2 ^ 32) l.spacing) lower upper (lit≤ tt) (lit≤ tt);
  tables = all_two (λ (l : Layer). IsTable l.table) lower upper is_table is_table;
  vias = All-nil (IsViaOf made_tech);
}

pub alternate : Alternate made_tech
alternate zero within = refl
alternate (suc level) within = absurd (omega (arith, within))

pub layer_names : All (λ (l : Layer). IsName l.name) made_tech.layers
layer_names = all_two (λ (l : Layer). IsName l.name) lower upper (record { plain = (refl, refl, refl, refl); no_sign = refl }) (record { plain = (refl, refl, refl, refl); no_sign = refl })

pub layers_differ : AllPairs (λ (a b : Layer). a.name ≢ b.name) made_tech.layers
layers_differ = pairs_two (λ (a b : Layer). a.name ≢ b.name) lower upper (λ same. let e : 49 ≡ 50 = ap (λ (word : List ℕ). get_or word 1 0) same in absurd (omega (arith, e)))

-- ---- tracks

abbrev pub made_tracks : Tracks
made_tracks = record { lines = [] ∷ [] ∷ []; largest_step = pos 200 ∷ pos 200 ∷ [] }

pub are_tracks : AreTracks made_tech made_tracks
are_tracks = record {
  line_levels = refl;
  step_levels = refl;
  ascending = all_two (λ (lines : List ℤ). AllPairs (λ a b. a <ℤ b) lines) [] [] (pairs_none (λ a b. a <ℤ b)) (pairs_none (λ a b. a <ℤ b));
  lines = all_two (λ (lines : List ℤ). All (IsWithin (2 ^ 61)) lines) [] [] (All-nil (IsWithin (2 ^ 61))) (All-nil (IsWithin (2 ^ 61)));
  steps = all_two (IsWithin (2 ^ 32)) (pos 200) (pos 200) (lit≤ tt) (lit≤ tt);
}

-- ---- a net without pins

pub is_net : (g : TrackSystem) (net : Net) → net.pins ≡ [] → All (λ (box : ℕ × Sides). AreSidesWithin (2 ^ 32) box.1) net.guide → IsNet g net
is_net g net none guide = record {
  pin_count = rw none (lit< tt);
  pins = λ k pin at. absurd (omega (arith, slice_get_within net.pins k pin at, ap (λ (pins : List Pin). length pins) none));
  guide = guide;
}

-- ---- the chip

abbrev pub made_grid : Grid
made_grid = record { die = record { xl = pos 0; yl = pos 0; xh = pos 20000; yh = pos 20000 }; tile = pos 1000 }

is_grid : IsGrid made_grid
is_grid = record {
  die = (lit≤ tt, lit≤ tt, lit≤ tt, lit≤ tt);
  tile = (omega (arith, ints), omega (arith, ints));
  tile_count = lit< tt;
}

abbrev pub made_chip : Net → Net → List (List ℕ × ℕ) → Design
made_chip a b skipped = record { tech = made_tech; tracks = made_tracks; grid = made_grid; nets = a ∷ b ∷ []; fixed = []; options = record { via = 1000; tile = pos 1000; rips = 0 }; skipped = skipped }

pub has_names : (a b : Net) (skipped : List (List ℕ × ℕ)) → a.name ≡ codes "a" → b.name ≡ codes "b" → HasNames (made_chip a b skipped)
has_names a b skipped a_is b_is = record {
  layers = layer_names;
  layers_differ = layers_differ;
  nets = all_two (λ (n : Net). IsName n.name) a b (subst IsName (sym a_is) (record { plain = (refl, refl, refl, refl); no_sign = refl })) (subst IsName (sym b_is) (record { plain = (refl, refl, refl, refl); no_sign = refl }));
  nets_differ = pairs_two (λ (m n : Net). m.name ≢ n.name) a b (λ same. let e : 97 ≡ 98 = ap (λ (word : List ℕ). get_or word 0 0) (sym a_is ∙ same ∙ b_is) in absurd (omega (arith, e)));
  vias = All-nil (λ (v : Via). IsTrue v.usable → IsName v.name);
  vias_differ = pairs_none (λ (u v : Via). IsTrue u.usable → IsTrue v.usable → u.name ≢ v.name);
}

pub is_chip : (a b : Net) (skipped : List (List ℕ × ℕ)) → a.name ≡ codes "a" → b.name ≡ codes "b" → ((g : TrackSystem) → IsNet g a) → ((g : TrackSystem) → IsNet g b) → IsDesign (made_chip a b skipped)
is_chip a b skipped a_is b_is a_ok b_ok = record {
  tech = is_tech;
  alternate = alternate;
  tracks = are_tracks;
  line_counts = all_two (λ (lines : List ℤ). length lines ≤ 65536) [] [] (lit≤ tt) (lit≤ tt);
  grid = is_grid;
  options = record { via = lit≤ tt };
  net_count = lit< tt;
  nets = all_two (IsNet (track_system_of (made_chip a b skipped))) a b (a_ok (track_system_of (made_chip a b skipped))) (b_ok (track_system_of (made_chip a b skipped)));
  fixed = All-nil (IsFixed made_tech);
  names = has_names a b skipped a_is b_is;
}
