-- Strokes of a design are readable in a technology with the same layers and, first, the same vias.
use Rattle.std.proofs.Common.{◌≡◌, ◌≢◌, ◌∙◌, ℕ, ◌+◌, ◌<◌, ◌^◌, Bool, true, false, cond, List, [], ◌++◌, length, map, Some, bytes_eq, refl, sym, ap, subst, ◌⊎◌, arith, slice_get, All}
use Rattle.std.specs.Prelude.{codes, ◌||◌}
use Rattle.std.proofs.lemmas.List.{map-append}
use Rattle.std.proofs.lemmas.List.Elements.{All-map}
use Rattle.rt_base.specs.Ranges.{IsPointWithin}
use Rattle.rt_base.specs.declared.geometry.Point.{Point}
use Rattle.rt_base.specs.declared.tech.Layer.{Layer}
use Rattle.rt_base.specs.declared.tech.Tech.{Tech}
use Rattle.rt_base.specs.declared.tech.Via.{Via}
use Rattle.rt_forms.specs.Reading.{is_name_word}
use Rattle.track_graph.specs.Levels.{levels, layer_no, layer_name_of}
use Rattle.track_graph.specs.Metal.{Metal, via_rects, via_level_name, via_name_of, first_level_name}
use Rattle.track_graph.specs.Designs.{IsTech, IsViaOf, IsUsable}
use Rattle.track_graph.specs.Edges.{Joins}
use Rattle.def_wires.specs.declared.words.StepWord.{StepWord}
use Rattle.def_wires.specs.declared.words.StepWord.TheVariants.{Opening, Rectangle, RefusedStep, ViaName, Other}
use Rattle.def_wires.specs.Meaning.{is_routing, joined_by, rects_of_via, other_of}
use Rattle.def_wires.specs.Names.{layer_named, via_named, last_from}
use Rattle.def_wires.specs.Words.{step_word, is_refused}
use Rattle.written.specs.Wires.{first_level_no, via_level_no}
use Rattle.wire_words.specs.Readable.{IsReadableRun, IsReadableVia, IsOwn, IsReadBy, is_path_word}
use Rattle.wire_words.proofs.Levels.{level_layer}
use Rattle.wire_words.proofs.Meanings.{name_no_sign}
use Rattle.rt_base.proofs.Lists.{All-at}
use Rattle.wire_words.proofs.Naming.{mapped_at, mapped_from, in_front, last_named, last_before}
use Rattle.wire_words.proofs.Joining.{joined, joined_is, other_is}
use Rattle.wire_words.proofs.Usable.{lowest_level, level_routing, all_on_one, are_routing}

abbrev layer_name : Layer → List ℕ
layer_name l = l.name

abbrev via_name : Via → List ℕ
via_name v = v.name

abbrev rects_of : Via → List Metal
rects_of v = v.rects

-- ---- a level's layer

record IsReadableLevel (reader tech : Tech) (level : ℕ) : Type 0 where
  name : is_name_word (layer_name_of tech level) ≡ true
  layer : layer_named reader.layers (layer_name_of tech level) ≡ Some (layer_no tech level)
  routing : is_routing reader (layer_no tech level) ≡ true

readable_level : (reader tech : Tech) (own further : List Via) (level : ℕ) → IsReadBy reader tech own further → level < length (levels tech) → IsReadableLevel reader tech level
readable_level reader tech own further level h within =
    let l = level_layer tech level within in
    let named : slice_get (map layer_name tech.layers) (layer_no tech level) ≡ Some (layer_name_of tech level) = mapped_at layer_name tech.layers (layer_no tech level) l.0 l.1.layer ∙ ap (λ (n : List ℕ). Some n) (sym l.1.name) in
    record {
      name = ap is_name_word l.1.name ∙ All-at (λ (x : Layer). is_name_word x.name ≡ true) tech.layers (layer_no tech level) l.0 h.layer_names l.1.layer;
      layer = ap (λ (ls : List Layer). layer_named ls (layer_name_of tech level)) h.layers ∙ last_named (layer_name_of tech level) 0 (layer_no tech level) (layer_no tech level) (map layer_name tech.layers) (omega arith) h.layers_apart named;
      routing = level_routing reader tech level h.layers within;
    }

pub readable_run : (reader tech : Tech) (own further : List Via) (level : ℕ) (a b : Point) → IsReadBy reader tech own further → level < length (levels tech) → (a.x ≡ b.x) ⊎ (a.y ≡ b.y) → IsPointWithin (2 ^ 30) a → IsPointWithin (2 ^ 30) b → IsReadableRun reader tech level a b
readable_run reader tech own further level a b h within straight start finish =
    let l = readable_level reader tech own further level h within in
    record { name = l.name; layer = l.layer; routing = l.routing; straight = straight; start = start; finish = finish }

-- ---- a via's name

record IsPlainName (name : List ℕ) : Type 0 where
  step : step_word name ≡ ViaName
  not_new : bytes_eq name (codes "NEW") ≡ false

-- tests of a via's name that are all false
none_of : (a b c d e f : Bool) → (a || b || c || d || e || f) ≡ false → (a ≡ false) × (b ≡ false) × (c ≡ false) × (d ≡ false) × (e ≡ false) × (f ≡ false)
none_of true b c d e f h = absurd cc
none_of false true c d e f h = absurd cc
none_of false false true d e f h = absurd cc
none_of false false false true e f h = absurd cc
none_of false false false false true f h = absurd cc
none_of false false false false false true h = absurd cc
none_of false false false false false false h = (refl, refl, refl, refl, refl, refl)

plain_name : (name : List ℕ) → is_name_word name ≡ true → is_path_word name ≡ false → IsPlainName name
plain_name name word none =
    let n = none_of (bytes_eq name (codes "NEW")) (bytes_eq name (codes "RECT")) (bytes_eq name (codes "MASK")) (bytes_eq name (codes "STYLE")) (bytes_eq name (codes "TAPERRULE")) (bytes_eq name (codes "VIRTUAL")) none in
    let refused : is_refused name ≡ false = rw (n.2, n.4, n.3, n.5) refl in
    record { step = by_tests (bytes_eq name (codes "(")) (bytes_eq name (codes "RECT")) (is_refused name) (is_name_word name) (name_no_sign name word).2 n.1 refused word; not_new = n.0 }
  where
    by_tests : (a b c d : Bool) → a ≡ false → b ≡ false → c ≡ false → d ≡ true → (let kind : StepWord = cond a Opening (cond b Rectangle (cond c RefusedStep (cond d ViaName Other))) in kind) ≡ ViaName
    by_tests a b c d ea eb ec ed = rw (ea, eb, ec, ed) refl

via_named_so : (reader tech : Tech) (own further : List Via) (k : ℕ) (via : Via) → IsReadBy reader tech own further → IsOwn own k via → All (λ (v : Via). v.name ≢ via.name) further → via_named reader.vias via.name ≡ Some k
via_named_so reader tech own further k via h one none =
    let names : map via_name reader.vias ≡ map via_name own ++ map via_name further = ap (map via_name) h.vias ∙ map-append via_name own further in
    let here : slice_get (map via_name own) k ≡ Some via.name = mapped_at via_name own k one.said one.at ∙ ap (λ (n : List ℕ). Some n) one.same_name in
    ap (last_from via.name 0) names
    ∙ last_before via.name 0 (map via_name own) (map via_name further) (All-map (λ n. n ≢ via.name) via_name further none)
    ∙ last_named via.name 0 k k (map via_name own) (omega arith) h.own_apart here

-- ---- a via

rects_again : (reader tech : Tech) (own further : List Via) (k : ℕ) (via : Via) → IsReadBy reader tech own further → IsOwn own k via → rects_of_via reader k ≡ via.rects
rects_again reader tech own further k via h one =
    let all : map rects_of reader.vias ≡ map rects_of own ++ map rects_of further = ap (map rects_of) h.vias ∙ map-append rects_of own further in
    let there : slice_get (map rects_of reader.vias) k ≡ Some one.said.rects = ap (λ (rs : List (List Metal)). slice_get rs k) all ∙ in_front (map rects_of own) (map rects_of further) k one.said.rects (mapped_at rects_of own k one.said one.at) in
    mapped_from rects_of reader.vias k one.said.rects [] there ∙ one.same_rects

by_via : (reader tech : Tech) (own further : List Via) (k : ℕ) (via : Via) (p : Point) → IsReadBy reader tech own further → slice_get tech.vias k ≡ Some via → IsOwn own k via → IsUsable tech via.rects → All (λ (v : Via). v.name ≢ via_name_of tech k) further → IsPointWithin (2 ^ 30) p → IsReadableVia reader tech k p
by_via reader tech own further k via p h at one usable none near =
    let name : via_name_of tech k ≡ via.name = rw at refl in
    let rects : via_rects tech k ≡ via.rects = rw at refl in
    let level = usable.0 in
    let lowest = lowest_level tech via.rects usable in
    let number : via_level_no tech k ≡ layer_no tech level = ap (first_level_no (levels tech)) rects ∙ lowest.0 in
    let level_name : via_level_name tech k ≡ layer_name_of tech level = ap (first_level_name (levels tech)) rects ∙ lowest.1 in
    let l = readable_level reader tech own further level h (omega (arith, usable.1.joins.upper_level)) in
    let plain = plain_name via.name one.name one.no_path_word in
    let two : joined_by reader (rects_of_via reader k) ≡ Some (joined (layer_no tech level) (layer_no tech (level + 1))) = ap (joined_by reader) (rects_again reader tech own further k via h one)
    ∙ joined_is reader (layer_no tech level) (layer_no tech (level + 1)) via.rects (are_routing reader tech via.rects usable h.layers) (all_on_one reader tech via.rects usable h.layers) usable.1.joins.lower usable.1.joins.upper in
    record {
      name = ap is_name_word level_name ∙ l.name;
      layer = ap (layer_named reader.layers) level_name ∙ l.layer ∙ ap (λ (i : ℕ). Some i) (sym number);
      routing = ap (is_routing reader) number ∙ l.routing;
      step = ap step_word name ∙ plain.step;
      not_new = ap (λ (n : List ℕ). bytes_eq n (codes "NEW")) name ∙ plain.not_new;
      via = ap (via_named reader.vias) name ∙ via_named_so reader tech own further k via h one (subst (λ (n : List ℕ). All (λ (v : Via). v.name ≢ n) further) name none);
      beyond = (joined (layer_no tech level) (layer_no tech (level + 1)), two, (record { 0 = layer_no tech (level + 1) }, ap (λ (i : ℕ). other_of (joined (layer_no tech level) (layer_no tech (level + 1))) (record { 0 = i })) number ∙ other_is (layer_no tech level) (layer_no tech (level + 1))));
      point = near;
    }

pub readable_via : (reader tech : Tech) (own further : List Via) (k low : ℕ) (p : Point) → IsTech tech → IsReadBy reader tech own further → Joins tech k low → All (λ (v : Via). v.name ≢ via_name_of tech k) further → IsPointWithin (2 ^ 30) p → IsReadableVia reader tech k p
readable_via reader tech own further k low p ok h joins none near =
    let via = joins.via in
    let usable : IsUsable tech via.rects = (All-at (IsViaOf tech) tech.vias k via ok.vias joins.is_via).usable joins.usable in
    by_via reader tech own further k via p h joins.is_via (h.usable k via joins.is_via joins.usable) usable none near
