-- The routed text's words are those of the text with each net's wiring before its closing `;`.
use Rattle.std.proofs.Common.{◌≡◌, ◌∙◌, ℕ, ◌+◌, List, [], ◌∷◌, ◌++◌, length, drop, All, refl, sym, ap, subst, append_assoc, length-append}
use Rattle.std.specs.Prelude.{flat_map, slice_range}
use Rattle.std.specs.List.{AllZip}
use Rattle.std.proofs.lemmas.List.{append-nil, map-append}
use Rattle.std.proofs.Math.Seq.{drop-append_seam}
use Rattle.rt_base.specs.declared.token.Token.{Token}
use Rattle.rt_base.specs.Parts.{Part, spelling, AllFit, tokens_after}
use Rattle.rt_base.specs.Scan.{IsText, IsCutInto}
use Rattle.rt_forms.specs.Lexeme.{Place, places}
use Rattle.track_graph.specs.declared.design.Design.{Design}
use Rattle.track_graph.specs.declared.design.Net.{Net}
use Rattle.track_graph.specs.declared.history.State.{State}
use Rattle.def_out.specs.Wiring.{net_strokes, routed_from, routed_def, wiring_text}
use Rattle.rt_base.specs.Names.{IsPlainWord}
use Rattle.written.specs.Cuts.{Cut, cut_words, bytes_of, with_words}
use Rattle.written.specs.Words.{stroke_words, option_words}
use Rattle.out_words.specs.Added.{added_from, IsNetCut}
use Rattle.out_words.proofs.Fitting.{spelling-append, part_words, part_words-append, fit-append, fit-front, fit-back, Follows, follows_same, follows-behind, fit_before}
use Rattle.out_words.proofs.Pieces.{text-append, text-parts}
use Rattle.rt_base.proofs.Lists.{range-middle}
use Rattle.out_words.proofs.Placing.{part_places, places-parts, bytes-parts, Parted, parted}
use Rattle.out_words.proofs.Wiring.{Inserted, wiring_put_in}

-- parts of a text with these words, which may stand where others stood
pub record Spliced (old text : List ℕ) (words : List (List ℕ)) : Type 0 where
  pub parts : List Part
  pub whole : spelling parts ≡ text
  pub fit : AllFit parts []
  pub same : part_words parts ≡ words
  pub text_only : IsText text
  pub follows : Follows old text

respelled : {old a b : List ℕ} {vs ws : List (List ℕ)} → a ≡ b → vs ≡ ws → Spliced old a vs → Spliced old b ws
respelled {old} {a} {b} {vs} {ws} e f x = subst (λ (us : List (List ℕ)). Spliced old b us) f (subst (λ (t : List ℕ). Spliced old t vs) e x)

-- these parts, something put in, and a rest
joined : (front : List Part) (old put rest : List ℕ) (added words : List (List ℕ)) → AllFit front old → IsText (spelling front) → Inserted put added → Spliced old rest words
    → Spliced (spelling front ++ old) (spelling front ++ (put ++ rest)) (part_words front ++ (added ++ words))
joined front old put rest added words fit text_only w r =
    let new : Follows old (put ++ rest) = w.follows old rest r.follows in
    let back : spelling (w.parts ++ r.parts) ≡ put ++ rest = rw (spelling-append w.parts r.parts, w.whole, r.whole) refl in
    let all : AllFit front (put ++ rest) = fit_before front old (put ++ rest) new fit in
    record {
      parts = front ++ (w.parts ++ r.parts);
      whole = rw (spelling-append front (w.parts ++ r.parts), back) refl;
      fit = fit-append front (w.parts ++ r.parts) [] (rw (append-nil (spelling (w.parts ++ r.parts)), back) all) (fit-append w.parts r.parts [] (w.fit (spelling r.parts ++ [])) r.fit);
      same = rw (part_words-append front (w.parts ++ r.parts), part_words-append w.parts r.parts, w.same, r.same) refl;
      text_only = text-append (spelling front) (put ++ rest) text_only (text-append put rest w.text_only r.text_only);
      follows = follows-behind (spelling front) old (put ++ rest) new;
    }

bytes-append : (xs ys : List Place) → bytes_of (xs ++ ys) ≡ bytes_of xs ++ bytes_of ys
bytes-append xs ys = map-append (λ (p : Place). p.word) xs ys

-- the rest of the text, from these bytes on, with no net left
unchanged : (text before : List ℕ) (ps : List Part) (words : List Place) → text ≡ before ++ spelling ps → AllFit ps [] → IsText (spelling ps) → part_places before ps ≡ words
    → Spliced (spelling ps) (drop (length before) text) (bytes_of words)
unchanged text before ps words e fit text_only places =
    let rest : drop (length before) text ≡ spelling ps = rw e (drop-append_seam before (spelling ps)) in
    record {
      parts = ps;
      whole = sym rest;
      fit = fit;
      same = sym (bytes-parts before ps) ∙ ap bytes_of places;
      text_only = rw rest text_only;
      follows = rw rest (follows_same (spelling ps));
    }

-- one net more: what stands up to its mark, its wiring, and the rest from the mark on
one_more : (text before : List ℕ) (ps : List Part) (pre : List Place) (c : Cut) (words : List Place) (close : ℕ) (put rest : List ℕ) (added more : List (List ℕ))
    → text ≡ before ++ spelling ps → AllFit ps [] → IsText (spelling ps) → c.mark.first ≡ close → Inserted put added
    → (parting : Parted before ps (pre ++ c.before) c.mark words) → Spliced (spelling (parting.part ∷ parting.back)) rest (bytes_of (c.mark ∷ []) ++ more)
    → Spliced (spelling ps) (slice_range text (length before) close ++ (put ++ rest)) (bytes_of pre ++ (bytes_of c.before ++ (added ++ c.mark.word ∷ more)))
one_more text before ps pre c words close put rest added more e fit text_only first w q r =
    let old : List ℕ = spelling (q.part ∷ q.back) in
    let spells : spelling ps ≡ spelling q.front ++ old = ap spelling q.whole ∙ spelling-append q.front (q.part ∷ q.back) in
    let place : length q.here ≡ c.mark.first = ap (λ (p : Place). p.first) q.mark in
    let up_to : close ≡ length before + length (spelling q.front) = sym first ∙ sym place ∙ ap length q.at ∙ length-append before (spelling q.front) in
    let copied : slice_range text (length before) close ≡ spelling q.front = rw (e, spells, up_to) (range-middle before (spelling q.front) old) in
    let front_words : part_words q.front ≡ bytes_of pre ++ bytes_of c.before = sym (bytes-parts before q.front) ∙ ap bytes_of q.words ∙ bytes-append pre c.before in
    let texts = text-parts (spelling q.front) old (subst IsText spells text_only) in
    let fits : AllFit q.front (old ++ []) = fit-front q.front (q.part ∷ q.back) [] (subst (λ (x : List Part). AllFit x []) q.whole fit) in
    let all = joined q.front old put rest added (bytes_of (c.mark ∷ []) ++ more) (rw (append-nil old) at fits) texts.0 w r in
    rw (copied, spells, ← append_assoc (bytes_of pre) (bytes_of c.before) (added ++ c.mark.word ∷ more), ← front_words) all

-- the text from a place on: where the words that stand there are some and those of cuts, the routed text has the words that are put in too
pub spliced : (text before : List ℕ) (ps : List Part) (pre : List Place) (cuts : List Cut) (last : List Place) (d : Design) (s : State) (n : ℕ) (nets : List Net)
    → text ≡ before ++ spelling ps → AllFit ps [] → IsText (spelling ps) → part_places before ps ≡ pre ++ cut_words cuts last → AllZip IsNetCut nets cuts
    → ((k : ℕ) → All IsPlainWord (flat_map (stroke_words d.tech) (net_strokes d s k)))
    → Spliced (spelling ps) (routed_from text d s n (length before) nets) (bytes_of pre ++ with_words cuts last (added_from d s n nets))
spliced text before ps pre [] last d s n [] e fit text_only words zip plain =
    rw (← bytes-append pre last) (unchanged text before ps (pre ++ last) e fit text_only words)
spliced text before ps pre (c ∷ cuts) last d s n [] e fit text_only words zip plain = absurd zip
spliced text before ps pre [] last d s n (net ∷ nets) e fit text_only words zip plain = absurd zip
spliced text before ps pre (c ∷ cuts) last d s n (net ∷ nets) e fit text_only words zip plain =
    let q = parted before ps (pre ++ c.before) c.mark (cut_words cuts last) (words ∙ sym (append_assoc pre c.before (c.mark ∷ cut_words cuts last))) in
    let old : List ℕ = spelling (q.part ∷ q.back) in
    let spells : spelling ps ≡ spelling q.front ++ old = ap spelling q.whole ∙ spelling-append q.front (q.part ∷ q.back) in
    let whole : text ≡ q.here ++ old = e ∙ ap (λ (x : List ℕ). before ++ x) spells ∙ sym (append_assoc before (spelling q.front) old) ∙ ap (λ (x : List ℕ). x ++ old) (sym q.at) in
    let texts = text-parts (spelling q.front) old (subst IsText spells text_only) in
    let fits : AllFit (q.part ∷ q.back) [] = fit-back q.front (q.part ∷ q.back) [] (subst (λ (x : List Part). AllFit x []) q.whole fit) in
    let place : length q.here ≡ net.close = ap (λ (p : Place). p.first) q.mark ∙ zip.0.0 in
    let more = spliced text q.here (q.part ∷ q.back) (c.mark ∷ []) cuts last d s (n + 1) nets whole fits texts.1 q.rest zip.1 plain in
    let from_mark = subst (λ (k : ℕ). Spliced old (routed_from text d s (n + 1) k nets) (bytes_of (c.mark ∷ []) ++ with_words cuts last (added_from d s (n + 1) nets))) place more in
    let copied : List ℕ = slice_range text (length before) net.close in
    let wired : List ℕ = wiring_text d.tech (net_strokes d s n) in
    let behind : List ℕ = routed_from text d s (n + 1) net.close nets in
    let added : List (List ℕ) = option_words d.tech (net_strokes d s n) in
    let later : List (List ℕ) = with_words cuts last (added_from d s (n + 1) nets) in
    respelled (sym (append_assoc copied wired behind)) (ap (λ (x : List (List ℕ)). bytes_of pre ++ x) (sym (append_assoc (bytes_of c.before) added (c.mark.word ∷ later))))
    (one_more text before ps pre c (cut_words cuts last) net.close wired behind added later
    e fit text_only zip.0.0 (wiring_put_in d.tech (net_strokes d s n) (plain n)) q from_mark)

-- the routed text is cut into tokens whose words are those of the text with the wiring of each net before the net's closing `;`
pub routed_words : (text : List ℕ) (tokens : List Token) (d : Design) (s : State) (cuts : List Cut) (last : List Place) → IsCutInto text tokens → cut_words cuts last ≡ places text tokens → AllZip IsNetCut d.nets cuts
    → ((n : ℕ) → All IsPlainWord (flat_map (stroke_words d.tech) (net_strokes d s n)))
    → (out : List Token) × IsCutInto (routed_def text d s) out × (bytes_of (places (routed_def text d s) out) ≡ with_words cuts last (added_from d s 0 d.nets))
routed_words text tokens d s cuts last cut words zip plain =
    let ps : List Part = cut.made.parts in
    let same : places text tokens ≡ part_places [] ps = ap (places text) cut.made.same ∙ places-parts text [] ps (sym cut.made.whole) in
    let r = spliced text [] ps [] cuts last d s 0 d.nets (sym cut.made.whole) cut.made.fit (rw cut.made.whole cut.text_only) (sym same ∙ sym words) zip plain in
    let out : List Token = tokens_after [] r.parts in
    let read : places (routed_def text d s) out ≡ part_places [] r.parts = places-parts (routed_def text d s) [] r.parts (sym r.whole) in
    (out, record { made = record { parts = r.parts; whole = r.whole; fit = r.fit; same = refl }; text_only = r.text_only }, ap bytes_of read ∙ bytes-parts [] r.parts ∙ r.same)
