-- What the wiring of a net means that was read again.
use Rattle.std.proofs.Common.{◌≡◌, ℕ, zero, suc, ◌-◌, List, [], ◌∷◌, false, Result, Ok, All, refl, ap, ◌∙◌, map, flat_map, drop, take, append-nil}
use Rattle.std.specs.Prelude.{slice_range}
use Rattle.std.proofs.lemmas.List.Elements.{All-nil, All-cons, All-head, All-tail}
use Rattle.rt_base.specs.declared.tech.Tech.{Tech}
use Rattle.rt_base.specs.declared.token.Token.{Token}
use Rattle.rt_forms.specs.Lexeme.{Place, End, places, last_line}
use Rattle.rt_forms.specs.Clauses.{IsText}
use Rattle.rt_forms.specs.Form.{Read, and_then}
use Rattle.track_graph.specs.declared.history.Stroke.{Stroke}
use Rattle.track_graph.specs.declared.history.Stroke.TheVariants.{Run, Via as ViaAt}
use Rattle.def_wires.specs.declared.error.WireFault.{WireFault}
use Rattle.def_wires.specs.declared.wiring.Wiring.{Wiring}
use Rattle.def_wires.specs.Faults.{wire_faults}
use Rattle.def_wires.specs.Meaning.{wiring_metal}
use Rattle.def_wires.specs.Options.{wiring_form}
use Rattle.def_wires.proofs.Grammar.{lawful_wiring_form}
use Rattle.fixed_wires.specs.FixedWires.{range_of, values, wiring_said, wires_metal}
use Rattle.written.specs.Cuts.{bytes_of}
use Rattle.written.specs.Words.{option_words, wiring_words}
use Rattle.written.specs.Wires.{strokes_wiring}
use Rattle.def_again.specs.Again.{IsOption, range_words, range_behind}
use Rattle.wire_words.specs.Readable.{IsReadable}
use Rattle.wire_words.proofs.Wiring.{wiring_read}
use Rattle.wire_words.proofs.Ends.{none_ends}

-- ---- ranges of tokens and of words

places-drop : (text : List ℕ) (n : ℕ) (ts : List Token) → places text (drop n ts) ≡ drop n (places text ts)
places-drop text zero ts = refl
places-drop text (suc n) [] = refl
places-drop text (suc n) (t ∷ ts) = places-drop text n ts

places-take : (text : List ℕ) (n : ℕ) (ts : List Token) → places text (take n ts) ≡ take n (places text ts)
places-take text zero ts = refl
places-take text (suc n) [] = refl
places-take text (suc n) (t ∷ ts) = ap (λ (ps : List Place). record { line = t.line; first = t.first; word = slice_range text t.first t.past } ∷ ps) (places-take text n ts)

-- the words of a range of tokens
range_read : (text : List ℕ) (tokens : List Token) (r : ℕ × ℕ) → bytes_of (places text (range_of tokens r)) ≡ range_words (places text tokens) r
range_read text tokens r = ap bytes_of (places-take text (r.1 - r.0) (drop r.0 tokens) ∙ ap (take (r.1 - r.0)) (places-drop text r.0 tokens))

-- ---- words that are put in

pub option_ok : (reader tech : Tech) (ss : List Stroke) → All (IsReadable reader tech) ss → IsOption (option_words tech ss)
option_ok reader tech [] h = tt
option_ok reader tech (Run level a b ∷ ss) h = (refl, refl, none_ends reader tech (Run level a b) ss (All-head (IsReadable reader tech) (Run level a b) ss h) (All-tail (IsReadable reader tech) (Run level a b) ss h))
option_ok reader tech (ViaAt k p ∷ ss) h = (refl, refl, none_ends reader tech (ViaAt k p) ss (All-head (IsReadable reader tech) (ViaAt k p) ss h) (All-tail (IsReadable reader tech) (ViaAt k p) ss h))

-- a range with the words of strokes is their wiring
is_wiring : (reader tech : Tech) (text : List ℕ) (tokens : List Token) (r : ℕ × ℕ) (s : Stroke) (ss : List Stroke) → IsReadable reader tech s → All (IsReadable reader tech) ss → range_words (places text tokens) r ≡ wiring_words tech s ss → IsText (wiring_form reader false) text (range_of tokens r) (strokes_wiring tech (s ∷ ss))
is_wiring reader tech text tokens r s ss first others words =
    wiring_read reader tech s ss first others (places text (range_of tokens r)) (last_line (range_of tokens r)) (range_read text tokens r ∙ words)

says_wiring : (reader tech : Tech) (text : List ℕ) (tokens : List Token) (r : ℕ × ℕ) (s : Stroke) (ss : List Stroke) → IsReadable reader tech s → All (IsReadable reader tech) ss → range_words (places text tokens) r ≡ wiring_words tech s ss → wiring_said reader text tokens false r ≡ Ok (strokes_wiring tech (s ∷ ss))
says_wiring reader tech text tokens r s ss first others words =
    let ts : List Token = range_of tokens r in
    ap (λ (x : Read WireFault Wiring). and_then x (λ read. Ok read.0))
    ((lawful_wiring_form reader false).only wire_faults (places text ts) (End (last_line ts) ∷ []) (strokes_wiring tech (s ∷ ss)) (is_wiring reader tech text tokens r s ss first others words))

no_range : {X : Type 0} (f : ℕ × ℕ → X) (ranges : List (ℕ × ℕ)) → map f ranges ≡ [] → ranges ≡ []
no_range f [] e = refl
no_range f (r ∷ ranges) e = absurd cc

one_range : {X : Type 0} (f : ℕ × ℕ → X) (ranges : List (ℕ × ℕ)) (x : X) → map f ranges ≡ x ∷ [] → (r : ℕ × ℕ) × (ranges ≡ r ∷ []) × (f r ≡ x)
one_range f [] x e = absurd cc
one_range f (r ∷ []) x e = (r, refl, cc)
one_range f (r ∷ q ∷ ranges) x e = absurd cc

-- wiring whose words are those of strokes means the rectangles of their wiring
pub stated : (reader tech : Tech) (text : List ℕ) (tokens : List Token) (ranges : List (ℕ × ℕ)) (ss : List Stroke) → All (IsReadable reader tech) ss → map (range_words (places text tokens)) ranges ≡ range_behind (option_words tech ss) → wires_metal reader text tokens false ranges ≡ wiring_metal reader (strokes_wiring tech ss)
stated reader tech text tokens ranges [] h e = ap (wires_metal reader text tokens false) (no_range (range_words (places text tokens)) ranges e)
stated reader tech text tokens ranges (s ∷ ss) h e =
    let r = one_range (range_words (places text tokens)) ranges (wiring_words tech s ss) e in
    let said = says_wiring reader tech text tokens r.0 s ss (All-head (IsReadable reader tech) s ss h) (All-tail (IsReadable reader tech) s ss h) r.2 in
    ap (wires_metal reader text tokens false) r.1
    ∙ ap (λ (x : Result Wiring WireFault). flat_map (wiring_metal reader) (values (x ∷ []))) said
    ∙ append-nil (wiring_metal reader (strokes_wiring tech (s ∷ ss)))

-- and is in the grammar
pub wired : (reader tech : Tech) (text : List ℕ) (tokens : List Token) (ranges : List (ℕ × ℕ)) (ss : List Stroke) → All (IsReadable reader tech) ss → map (range_words (places text tokens)) ranges ≡ range_behind (option_words tech ss) → All (λ r. (w : Wiring) × IsText (wiring_form reader false) text (range_of tokens r) w) ranges
wired reader tech text tokens ranges [] h e = rw (no_range (range_words (places text tokens)) ranges e) (All-nil (λ r. (w : Wiring) × IsText (wiring_form reader false) text (range_of tokens r) w))
wired reader tech text tokens ranges (s ∷ ss) h e =
    let Wired : ℕ × ℕ → Type 0 = λ r. (w : Wiring) × IsText (wiring_form reader false) text (range_of tokens r) w in
    let r = one_range (range_words (places text tokens)) ranges (wiring_words tech s ss) e in
    rw r.1 (All-cons Wired r.0 [] (strokes_wiring tech (s ∷ ss), is_wiring reader tech text tokens r.0 s ss (All-head (IsReadable reader tech) s ss h) (All-tail (IsReadable reader tech) s ss h) r.2) (All-nil Wired))
