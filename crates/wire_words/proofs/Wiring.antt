-- The words of written wiring are read as the wiring that they were written of.
use Rattle.std.proofs.Common.{◌≡◌, ℕ, suc, true, false, List, [], ◌∷◌, ◌++◌, Ok, None, refl, sym, ap, subst, map, append_assoc, append-nil, All}
use Rattle.std.specs.Prelude.{codes, flat_map}
use Rattle.std.proofs.lemmas.List.Elements.{All-head, All-tail}
use Rattle.rt_base.specs.declared.geometry.Point.{Point}
use Rattle.rt_base.specs.declared.orient.Orient.TheVariants.{N}
use Rattle.rt_base.specs.declared.tech.LayerNo.{LayerNo}
use Rattle.rt_base.specs.declared.tech.Tech.{Tech}
use Rattle.rt_forms.specs.Lexeme.{Lexeme, End, Place, put, first_of}
use Rattle.rt_forms.specs.Form.{More, loop, unless, no_word}
use Rattle.rt_forms.specs.Reading.{is_name_word, is_next}
use Rattle.track_graph.specs.declared.history.Stroke.{Stroke}
use Rattle.track_graph.specs.declared.history.Stroke.TheVariants.{Run, Via as ViaAt}
use Rattle.track_graph.specs.Levels.{layer_no, layer_name_of}
use Rattle.track_graph.specs.Metal.{via_level_name, via_name_of}
use Rattle.def_wires.specs.declared.wiring.WirePath.{WirePath}
use Rattle.def_wires.specs.declared.words.StepWord.TheVariants.{ViaName}
use Rattle.def_wires.specs.Words.{orient_next, routing_layer, any_via, layer_beyond, step_word}
use Rattle.def_wires.specs.Paths.{more_steps, ends_path, path, more_paths, all_paths, with_go, with_via}
use Rattle.def_wires.specs.Options.{plus_paths, wiring, wiring_form}
use Rattle.written.specs.Cuts.{bytes_of}
use Rattle.written.specs.Words.{point_words, stroke_words, further_words, wiring_words}
use Rattle.written.specs.Wires.{via_level_no, stroke_path, strokes_wiring}
use Rattle.wire_words.specs.Readable.{IsReadable, IsReadableRun, IsReadableVia}
use Rattle.wire_words.proofs.Forms.{word_first, word_none, words_behind, one_turn, turn_on, turn_off, not_chosen}
use Rattle.wire_words.proofs.Meanings.{layer_is, via_is, beyond_is, name_no_sign}
use Rattle.wire_words.proofs.Steps.{ArePoint, plain, from_point, start_takes, more_go, more_via}

-- the words of a point before others
point_first : (P : List Place → Type 0) (ps : List Place) (a : Point) (ws : List (List ℕ)) → bytes_of ps ≡ point_words a ++ ws → ((o x y c : Place) (qs : List Place) → ArePoint a o x y c → bytes_of qs ≡ ws → P (o ∷ x ∷ y ∷ c ∷ qs)) → P ps
point_first P [] a ws e h = absurd cc
point_first P (o ∷ []) a ws e h = absurd cc
point_first P (o ∷ x ∷ []) a ws e h = absurd cc
point_first P (o ∷ x ∷ y ∷ []) a ws e h = absurd cc
point_first P (o ∷ x ∷ y ∷ c ∷ qs) a ws e h =
    let here : ArePoint a o x y c = record { start = cc; first = cc; second = cc; finish = cc } in
    let there : bytes_of qs ≡ ws = cc in
    h o x y c qs here there

-- ---- a path

-- what stands behind a path: neither a further step nor an orientation
record EndsPath (rest : List Lexeme) : Type 0 where
  ends : ends_path (first_of rest) ≡ true
  turn : orient_next (first_of rest) ≡ None

run_takes : (reader tech : Tech) (level : ℕ) (a b : Point) (l o x y c o' x' y' c' : Place) (rest : List Lexeme) → IsReadableRun reader tech level a b → l.word ≡ layer_name_of tech level → ArePoint a o x y c → ArePoint b o' x' y' c' → EndsPath rest
    → (path reader false).takes (l ∷ o ∷ x ∷ y ∷ c ∷ o' ∷ x' ∷ y' ∷ c' ∷ []) rest (stroke_path tech (Run level a b))
unfolding path
run_takes reader tech level a b l o x y c o' x' y' c' rest h name first second behind =
    let layer : LayerNo = record { 0 = layer_no tech level } in
    let known : routing_layer reader l ≡ Ok layer = layer_is reader l (layer_name_of tech level) (layer_no tech level) name h.name h.layer h.routing in
    let from = from_point layer a in
    let to = with_go from (plain b) in
    let next = o' ∷ x' ∷ y' ∷ c' ∷ [] in
    let on : ends_path (first_of (put next rest)) ≡ false = rw second.start refl in (
      from,
      l ∷ o ∷ x ∷ y ∷ c ∷ [],
      next,
      refl,
      start_takes reader layer a l o x y c (put next rest) known first h.start,
      (to, next, [], refl, one_turn ends_path (more_steps reader false) from to next rest on behind.ends (more_go reader layer a b o' x' y' c' rest second h.finish h.straight), (refl, refl)),
    )

via_takes : (reader tech : Tech) (k : ℕ) (p : Point) (l o x y c v : Place) (rest : List Lexeme) → IsReadableVia reader tech k p → l.word ≡ via_level_name tech k → ArePoint p o x y c → v.word ≡ via_name_of tech k → EndsPath rest
    → (path reader false).takes (l ∷ o ∷ x ∷ y ∷ c ∷ v ∷ []) rest (stroke_path tech (ViaAt k p))
unfolding path
via_takes reader tech k p l o x y c v rest h name first via behind =
    let layer : LayerNo = record { 0 = via_level_no tech k } in
    let known : routing_layer reader l ≡ Ok layer = layer_is reader l (via_level_name tech k) (via_level_no tech k) name h.name h.layer h.routing in
    let other = h.beyond.2.0 in
    let from = from_point layer p in
    let to = with_via from k N other None in
    let on : ends_path (first_of (put (v ∷ []) rest)) ≡ false = rw via h.not_new in
    let kind : step_word v.word ≡ ViaName = rw via h.step in
    let is : any_via reader v ≡ Ok k = via_is reader v (via_name_of tech k) k via h.step h.via in
    let up : layer_beyond reader layer v.line k ≡ Ok other = beyond_is reader layer v.line k h.beyond.0 other h.beyond.1 h.beyond.2.1 in (
      from,
      l ∷ o ∷ x ∷ y ∷ c ∷ [],
      v ∷ [],
      refl,
      start_takes reader layer p l o x y c (put (v ∷ []) rest) known first h.point,
      (to, v ∷ [], [], refl, one_turn ends_path (more_steps reader false) from to (v ∷ []) rest on behind.ends (more_via reader v from k other rest kind is up behind.turn), (refl, refl)),
    )

stroke_takes : (reader tech : Tech) (s : Stroke) (words : List Place) (rest : List Lexeme) → IsReadable reader tech s → bytes_of words ≡ stroke_words tech s → EndsPath rest → (path reader false).takes words rest (stroke_path tech s)
stroke_takes reader tech (Run level a b) words rest h e behind =
    let value = stroke_path tech (Run level a b) in
    word_first (λ ps. (path reader false).takes ps rest value) words (layer_name_of tech level) (point_words a ++ point_words b) e
    (λ l ps name e1. point_first (λ qs. (path reader false).takes (l ∷ qs) rest value) ps a (point_words b) e1
    (λ o x y c qs first e2. point_first (λ qs. (path reader false).takes (l ∷ o ∷ x ∷ y ∷ c ∷ qs) rest value) qs b [] e2
    (λ o' x' y' c' qs second e3. word_none (λ qs. (path reader false).takes (l ∷ o ∷ x ∷ y ∷ c ∷ o' ∷ x' ∷ y' ∷ c' ∷ qs) rest value) qs e3
    (run_takes reader tech level a b l o x y c o' x' y' c' rest h name first second behind))))
stroke_takes reader tech (ViaAt k p) words rest h e behind =
    let value = stroke_path tech (ViaAt k p) in
    word_first (λ ps. (path reader false).takes ps rest value) words (via_level_name tech k) (point_words p ++ via_name_of tech k ∷ []) e
    (λ l ps name e1. point_first (λ qs. (path reader false).takes (l ∷ qs) rest value) ps p (via_name_of tech k ∷ []) e1
    (λ o x y c qs first e2. word_first (λ qs. (path reader false).takes (l ∷ o ∷ x ∷ y ∷ c ∷ qs) rest value) qs (via_name_of tech k) [] e2
    (λ v qs via e3. word_none (λ qs. (path reader false).takes (l ∷ o ∷ x ∷ y ∷ c ∷ v ∷ qs) rest value) qs e3
    (via_takes reader tech k p l o x y c v rest h name first via behind))))

-- ---- paths behind NEW

new_ends : (n : Place) (ps : List Place) (rest : List Lexeme) → n.word ≡ codes "NEW" → EndsPath (put (n ∷ ps) rest)
new_ends n ps rest e = record { ends = rw e refl; turn = rw e refl }

further_ends : (tech : Tech) (ss : List Stroke) (words : List Place) (line : ℕ) → bytes_of words ≡ flat_map (further_words tech) ss → EndsPath (put words (End line ∷ []))
further_ends tech [] words line e = word_none (λ ps. EndsPath (put ps (End line ∷ []))) words e (record { ends = refl; turn = refl })
further_ends tech (s ∷ ss) words line e = word_first (λ ps. EndsPath (put ps (End line ∷ []))) words (codes "NEW") (stroke_words tech s ++ flat_map (further_words tech) ss) e (λ n ps new e1. new_ends n ps (End line ∷ []) new)

one_more : (reader tech : Tech) (s : Stroke) (paths : List WirePath) (n : Place) (words : List Place) (rest : List Lexeme) → IsReadable reader tech s → n.word ≡ codes "NEW" → bytes_of words ≡ stroke_words tech s → EndsPath rest
    → (more_paths reader false paths).takes (n ∷ words) rest (More (paths ++ stroke_path tech s ∷ []))
unfolding more_paths
one_more reader tech s paths n words rest h new e behind = (
  tt,
  n ∷ [],
  words,
  refl,
  (n, refl, rw new refl),
  (stroke_path tech s, words, [], sym (append-nil words), stroke_takes reader tech s words rest h e behind, (refl, refl)),
)

further_takes : (reader tech : Tech) (ss : List Stroke) (paths : List WirePath) (words : List Place) (line : ℕ) → All (IsReadable reader tech) ss → bytes_of words ≡ flat_map (further_words tech) ss
    → (loop (unless no_word (more_paths reader false)) paths).takes words (End line ∷ []) (paths ++ map (stroke_path tech) ss)
further_takes reader tech [] paths words line all e =
    word_none (λ ps. (loop (unless no_word (more_paths reader false)) paths).takes ps (End line ∷ []) (paths ++ [])) words e
    (subst (λ (all : List WirePath). (loop (unless no_word (more_paths reader false)) paths).takes [] (End line ∷ []) all) (sym (append-nil paths)) (0, turn_off no_word (more_paths reader false) paths (End line ∷ []) refl))
further_takes reader tech (s ∷ ss) paths words line all e =
    word_first (λ ps. (loop (unless no_word (more_paths reader false)) paths).takes ps (End line ∷ []) (paths ++ map (stroke_path tech) (s ∷ ss))) words (codes "NEW") (stroke_words tech s ++ flat_map (further_words tech) ss) e
    (λ n ps new e1. taken n ps new (words_behind ps (stroke_words tech s) (flat_map (further_words tech) ss) e1) (λ qs e2. further_takes reader tech ss (paths ++ stroke_path tech s ∷ []) qs line (All-tail (IsReadable reader tech) s ss all) e2))
  where
    end : List Lexeme
    end = End line ∷ []

    taken : (n : Place) (ps : List Place) → n.word ≡ codes "NEW" → ((front : List Place) × (back : List Place) × (ps ≡ front ++ back) × (bytes_of front ≡ stroke_words tech s) × (bytes_of back ≡ flat_map (further_words tech) ss))
        → ((qs : List Place) → bytes_of qs ≡ flat_map (further_words tech) ss → (loop (unless no_word (more_paths reader false)) (paths ++ stroke_path tech s ∷ [])).takes qs (End line ∷ []) ((paths ++ stroke_path tech s ∷ []) ++ map (stroke_path tech) ss))
        → (loop (unless no_word (more_paths reader false)) paths).takes (n ∷ ps) (End line ∷ []) (paths ++ map (stroke_path tech) (s ∷ ss))
    taken n ps new (front, back, is, mine, others) again =
        let next = paths ++ stroke_path tech s ∷ [] in
        let rest = put back (End line ∷ []) in
        let here = one_more reader tech s paths n front rest (All-head (IsReadable reader tech) s ss all) new mine (further_ends tech ss back line others) in
        let later = again back others in
        let same : next ++ map (stroke_path tech) ss ≡ paths ++ map (stroke_path tech) (s ∷ ss) = append_assoc paths (stroke_path tech s ∷ []) (map (stroke_path tech) ss) in
        subst (λ (all : List WirePath). (loop (unless no_word (more_paths reader false)) paths).takes (n ∷ ps) (End line ∷ []) all) same
        (suc later.0, (next, n ∷ front, back, ap (λ (qs : List Place). n ∷ qs) is, turn_on no_word (more_paths reader false) paths next (n ∷ front) rest refl here, later.1))

-- ---- all of wiring

all_takes : (reader tech : Tech) (s : Stroke) (ss : List Stroke) (words : List Place) (line : ℕ) → IsReadable reader tech s → All (IsReadable reader tech) ss → bytes_of words ≡ wiring_words tech s ss → (all_paths reader false).takes words (End line ∷ []) (map (stroke_path tech) (s ∷ ss))
unfolding all_paths
all_takes reader tech s ss words line h all e =
    let cut = words_behind words (stroke_words tech s) (flat_map (further_words tech) ss) e in
    let rest = put cut.1 (End line ∷ []) in (
      stroke_path tech s,
      cut.0,
      cut.1,
      cut.2,
      stroke_takes reader tech s cut.0 rest h cut.3 (further_ends tech ss cut.1 line cut.4),
      further_takes reader tech ss (stroke_path tech s ∷ []) cut.1 line all cut.4,
    )

name_first : (name : List ℕ) (ws : List (List ℕ)) (words : List Place) (rest : List Lexeme) → is_name_word name ≡ true → bytes_of words ≡ name ∷ ws → is_next (codes "+") (first_of (put words rest)) ≡ false
name_first name ws words rest word e = word_first (λ ps. is_next (codes "+") (first_of (put ps rest)) ≡ false) words name ws e (λ p ps is e1. rw is (name_no_sign name word).1)

not_plus_first : (reader tech : Tech) (s : Stroke) (ss : List Stroke) (words : List Place) (rest : List Lexeme) → IsReadable reader tech s → bytes_of words ≡ wiring_words tech s ss → is_next (codes "+") (first_of (put words rest)) ≡ false
not_plus_first reader tech (Run level a b) ss words rest h e = name_first (layer_name_of tech level) _ words rest h.name e
not_plus_first reader tech (ViaAt k p) ss words rest h e = name_first (via_level_name tech k) _ words rest h.name e

wiring_takes : (reader tech : Tech) (s : Stroke) (ss : List Stroke) (words : List Place) (line : ℕ) → IsReadable reader tech s → All (IsReadable reader tech) ss → bytes_of words ≡ wiring_words tech s ss → (wiring reader false).takes words (End line ∷ []) (strokes_wiring tech (s ∷ ss))
unfolding wiring
wiring_takes reader tech s ss words line h all e =
    let rest = End line ∷ [] in
    let paths = map (stroke_path tech) (s ∷ ss) in
    let w = first_of (put words rest) in (
      w,
      [],
      words,
      refl,
      (refl, refl),
      (paths, words, [], sym (append-nil words), not_chosen (is_next (codes "+") w) (plus_paths reader false) (all_paths reader false) words rest paths (not_plus_first reader tech s ss words rest h e) (all_takes reader tech s ss words line h all e), (refl, refl)),
    )

pub wiring_read : (reader tech : Tech) (s : Stroke) (ss : List Stroke) → IsReadable reader tech s → All (IsReadable reader tech) ss → (words : List Place) (line : ℕ) → bytes_of words ≡ wiring_words tech s ss → (wiring_form reader false).takes words (End line ∷ []) (strokes_wiring tech (s ∷ ss))
wiring_read reader tech s ss h all words line e =
    (strokes_wiring tech (s ∷ ss), words, [], sym (append-nil words), wiring_takes reader tech s ss words line h all e, (tt, [], [], refl, (refl, refl), (refl, refl)))
