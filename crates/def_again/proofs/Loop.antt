-- All statements of a text, with wiring that is put in.
use Rattle.std.proofs.Common.{◌≡◌, ◌≢◌, ◌⊎◌, inl, inr, ℕ, zero, suc, ◌+◌, false, List, [], ◌++◌, length, All, zip, Option, Some, None, refl, ap, sym, ◌∙◌, subst, arith, length-append}
use Rattle.std.specs.List.{AllZip}
use Rattle.rt_forms.specs.Lexeme.{Lexeme, Place, put, first_of}
use Rattle.rt_forms.specs.Form.{Turn, More, Done, Turns}
use Rattle.written.specs.Cuts.{Cut, cut_words, bytes_of, with_words}
use Rattle.def_text.specs.declared.kinds.Statement.TheVariants.{Nets}
use Rattle.def_text.specs.declared.def.DefNet.{DefNet}
use Rattle.def_text.specs.declared.statements.Parsed.{Parsed}
use Rattle.def_text.specs.Kinds.{statement_of}
use Rattle.def_text.specs.Texts.{statement, or_none}
use Rattle.same_words.specs.Same.{SameFirst}
use Rattle.same_words.specs.Values.{TurnsBy}
use Rattle.same_words.specs.States.{IsParsedBy}
use Rattle.def_again.specs.Again.{IsOption, IsClose, IsNetAgain}
use Rattle.def_again.proofs.Lists.{bytes_append, same_length, bytes_length, split, Lies, lies_first, lies_second}
use Rattle.def_again.proofs.Items.{SameRange}
use Rattle.def_again.proofs.Frames.{IsLonger, IsFilled, filled_first}
use Rattle.def_again.proofs.Cutting.{cuts_behind, last_behind, behind_words, behind_with, behind_length, behind_closes, behind_filled, before_words, before_with, is_more}
use Rattle.def_again.proofs.Statements.{IsStatement, statement_turn, is_nets, other_again, keeps}
use Rattle.def_again.proofs.NetsSection.{nets_before, nets_go_on, AreNone, AreNetsGrown, SectionCuts, section_cuts}

on_more : {S T : Type 0} (R : S → T → Type 0) (P : Turn T → Type 0) (s : S) (y : Turn T) → TurnsBy R (More s) y → P y → (t : T) × R s t × P (More t)
on_more R P s (More t) r p = (t, r, p)
on_more R P s (Done t) r p = absurd r

on_done : {S T : Type 0} (R : S → T → Type 0) (P : Turn T → Type 0) (s : S) (y : Turn T) → TurnsBy R (Done s) y → P y → (t : T) × R s t × P (Done t)
on_done R P s (More t) r p = absurd r
on_done R P s (Done t) r p = (t, r, p)

with_nets_by : (total more : ℕ) (R : ℕ × ℕ → ℕ × ℕ → Type 0) (N M : Option (List DefNet) → Option (List DefNet) → Type 0) (s s' : Parsed) → IsParsedBy total more R N s s' → M s.nets s'.nets → IsParsedBy total more R M s s'
with_nets_by total more R N M s s' h m = record {
  all = h.all;
  all' = h.all';
  units = h.units;
  die = h.die;
  tracks = h.tracks;
  vias = h.vias;
  components = h.components;
  pins = h.pins;
  blockages = h.blockages;
  special = h.special;
  nets = m;
  skipped = h.skipped;
}

-- ---- behind NETS

-- texts of the same words begin with the same word
same_begin : (words words' : List Place) (rest rest' : List Lexeme) → bytes_of words' ≡ bytes_of words → SameFirst false (first_of rest) (first_of rest') → SameFirst false (first_of (put words rest)) (first_of (put words' rest'))
same_begin words words' rest rest' same first = filled_first [] words [] words' rest rest' tt same first

-- where nets were read, the same words are taken
rest_again : (old new : List Place) (more : ℕ) (N : Option (List DefNet) → Option (List DefNet) → Type 0) → ((o o' : Option (List DefNet)) → N o o' → o ≢ None) → (n : ℕ) (s s' t : Parsed) (gone gone' words words' : List Place) (rest rest' : List Lexeme) (before : ℕ)
    → Lies old gone words rest → Lies new gone' words' rest' → bytes_of words' ≡ bytes_of words → IsLonger old new gone gone' more before → SameFirst false (first_of rest) (first_of rest') → IsParsedBy (length old) more (SameRange old new) N s s' → Turns statement n s words rest t
    → (t' : Parsed) × IsParsedBy (length old) more (SameRange old new) N t t' × Turns statement n s' words' rest' t'
rest_again old new more N some zero s s' t gone gone' words words' rest rest' before lies lies' same longer first h taken =
    let i = statement_turn s words rest (Done t) taken in
    let x = other_again old new gone gone' words words' rest rest' more before N s s' (Done t) lies lies' same longer first h i (λ e. some s.nets s'.nets h.nets (nets_before s words rest (Done t) i e)) in
    on_done (IsParsedBy (length old) more (SameRange old new) N) (λ y. (statement s').takes words' rest' y) t x.0 x.1 x.2
rest_again old new more N some (suc n) s s' t gone gone' words words' rest rest' before lies lies' same longer first h taken =
    let u = taken.0 in
    let front = taken.1 in
    let back = taken.2 in
    let at = subst (λ (v : List Place). Lies old gone v rest) taken.3 lies in
    let c = split words' (bytes_of front) (bytes_of back) (same ∙ ap bytes_of taken.3 ∙ bytes_append front back) in
    let at' = subst (λ (v : List Place). Lies new gone' v rest') c.whole lies' in
    let i = statement_turn s front (put back rest) (More u) taken.4 in
    let x = other_again old new gone gone' front c.front (put back rest) (put c.back rest') more before N s s' (More u) (lies_first old gone front back rest at) (lies_first new gone' c.front c.back rest' at') c.first longer (same_begin back c.back rest rest' c.second first) h i
    (λ e. some s.nets s'.nets h.nets (nets_before s front (put back rest) (More u) i e)) in
    let m = on_more (IsParsedBy (length old) more (SameRange old new) N) (λ y. (statement s').takes c.front (put c.back rest') y) u x.0 x.1 x.2 in
    let longer' : IsLonger old new (gone ++ front) (gone' ++ c.front) more before = record {
      long = longer.long;
      behind = omega (arith, longer.behind, same_length c.front (bytes_of front) c.first, bytes_length front, length-append gone front, length-append gone' c.front);
    } in
    let y = rest_again old new more N some n u m.0 t (gone ++ front) (gone' ++ c.front) back c.back rest rest' before (lies_second old gone front back rest at) (lies_second new gone' c.front c.back rest' at') c.second longer' first m.1 taken.5 in
    (y.0, y.1, (m.0, c.front, c.back, c.whole, m.2, y.2))

-- nets that were read stay
rest_keeps : (old : List Place) (n : ℕ) (s t : Parsed) (gone words : List Place) (rest : List Lexeme) (nets : List DefNet) → Lies old gone words rest → s.total ≡ length old → s.nets ≡ Some nets → Turns statement n s words rest t → t.nets ≡ Some nets
rest_keeps old zero s t gone words rest nets lies all some taken =
    let i = statement_turn s words rest (Done t) taken in
    let k = keeps old gone words rest s (Done t) lies all i (λ e. let none = nets_before s words rest (Done t) i e in absurd cc) in
    k.nets ∙ some
rest_keeps old (suc n) s t gone words rest nets lies all some taken =
    let front = taken.1 in
    let back = taken.2 in
    let at = subst (λ (v : List Place). Lies old gone v rest) taken.3 lies in
    let i = statement_turn s front (put back rest) (More taken.0) taken.4 in
    let k = keeps old gone front (put back rest) s (More taken.0) (lies_first old gone front back rest at) all i (λ e. let none = nets_before s front (put back rest) (More taken.0) i e in absurd cc) in
    rest_keeps old n taken.0 t (gone ++ front) back rest nets (lies_second old gone front back rest at) k.all (k.nets ∙ some) taken.5

-- ---- all statements

-- the nets of both, the same but for what was put in
abbrev pub AreGrownBy : List Place → List Place → List (List (List ℕ)) → Option (List DefNet) → Option (List DefNet) → Type 0
AreGrownBy old new added o o' = AllZip (λ (m : DefNet × List (List ℕ)) n. IsNetAgain old new m.1 m.0 n) (zip (or_none o) added) (or_none o')

none_grown : (old new : List Place) (added : List (List (List ℕ))) (o o' : Option (List DefNet)) → AreNone o o' → AreGrownBy old new added o o'
none_grown old new added None None h = tt
none_grown old new added None (Some x) h = let e = h.second in absurd cc
none_grown old new added (Some x) o' h = let e = h.first in absurd cc

some_grown : (old new : List Place) (nets : List DefNet) (added : List (List (List ℕ))) (o o' : Option (List DefNet)) → AreNetsGrown old new nets added o o' → AreGrownBy old new added o o'
some_grown old new nets added o o' h =
    subst (λ (v : Option (List DefNet)). AreGrownBy old new added v o') (sym h.first) (subst (λ (v : Option (List DefNet)). AreGrownBy old new added (Some nets) v) (sym h.second) h.again)

not_none : (old new : List Place) (nets : List DefNet) (added : List (List (List ℕ))) (o o' : Option (List DefNet)) → AreNetsGrown old new nets added o o' → o ≢ None
not_none old new nets added o o' h e = let f = h.first in absurd cc

-- where the statements are cut, and that words may be put in there
pub record TextCuts (old gone words : List Place) (rest : List Lexeme) (n : ℕ) (s t : Parsed) : Type 0 where
  pub cuts : List Cut
  pub last : List Place
  pub whole : cut_words cuts last ≡ words
  pub closes : AllZip IsClose (or_none t.nets) cuts
  pub filled : IsFilled cuts
  pub again : (new : List Place) (more before : ℕ) (added : List (List (List ℕ))) (s' : Parsed) (gone' words' : List Place) (rest' : List Lexeme) → IsLonger old new gone gone' more before → length added ≡ length cuts → All IsOption added
      → bytes_of words' ≡ with_words cuts last added → Lies new gone' words' rest' → SameFirst false (first_of rest) (first_of rest') → IsParsedBy (length old) more (SameRange old new) AreNone s s'
      → (t' : Parsed) × IsParsedBy (length old) more (SameRange old new) (AreGrownBy old new added) t t' × Turns statement n s' words' rest' t'

text_end : (old gone words : List Place) (rest : List Lexeme) (s t : Parsed) → Lies old gone words rest → s.total ≡ length old → s.nets ≡ None → (statement s).takes words rest (Done t) → TextCuts old gone words rest zero s t
text_end old gone words rest s t lies all none taken =
    let i = statement_turn s words rest (Done t) taken in
    let other = nets_go_on s words rest t i in
    let k = keeps old gone words rest s (Done t) lies all i other in
    record {
      cuts = [];
      last = words;
      whole = refl;
      closes = subst (λ (v : Option (List DefNet)). AllZip IsClose (or_none v) []) (sym (k.nets ∙ none)) tt;
      filled = tt;
      again = λ new more before added s' gone' words' rest' longer many options bytes lies' first h.
          let x = other_again old new gone gone' words words' rest rest' more before AreNone s s' (Done t) lies lies' bytes longer first h i other in
          let d = on_done (IsParsedBy (length old) more (SameRange old new) AreNone) (λ y. (statement s').takes words' rest' y) t x.0 x.1 x.2 in
          (d.0, with_nets_by (length old) more (SameRange old new) AreNone (AreGrownBy old new added) t d.0 d.1 (none_grown old new added t.nets d.0.nets d.1.nets), d.2);
    }

text_nets : (old gone words front back : List Place) (rest : List Lexeme) (n : ℕ) (s u t : Parsed) → Lies old gone words rest → s.total ≡ length old → words ≡ front ++ back → SectionCuts old gone front (put back rest) s u → Turns statement n u back rest t → TextCuts old gone words rest (suc n) s t
text_nets old gone words front back rest n s u t lies all e c taken =
    let at = subst (λ (v : List Place). Lies old gone v rest) e lies in
    let behind = lies_second old gone front back rest at in
    let kept = rest_keeps old n u t (gone ++ front) back rest c.nets behind (c.all ∙ all) c.read taken in
    record {
      cuts = c.cuts;
      last = c.last ++ back;
      whole = before_words c.cuts c.last back ∙ ap (λ (v : List Place). v ++ back) c.whole ∙ sym e;
      closes = subst (λ (v : Option (List DefNet)). AllZip IsClose (or_none v) c.cuts) (sym kept) c.closes;
      filled = c.filled;
      again = λ new more before added s' gone' words' rest' longer many options bytes lies' first h.
          let d = split words' (with_words c.cuts c.last added) (bytes_of back) (bytes ∙ before_with c.cuts c.last back added) in
          let at' = subst (λ (v : List Place). Lies new gone' v rest') d.whole lies' in
          let x = c.again new more before added s' gone' d.front (put d.back rest') longer many options d.first (lies_first new gone' d.front d.back rest' at') (same_begin back d.back rest rest' d.second first) h in
          let m = is_more c.cuts c.last added in
          let longer' : IsLonger old new (gone ++ front) (gone' ++ d.front) more (before + m.more) = record {
            long = longer.long;
            behind = omega (arith, longer.behind, same_length d.front (with_words c.cuts c.last added) d.first, m.long, ap length c.whole, length-append gone front, length-append gone' d.front);
          } in
          let N = AreNetsGrown old new c.nets added in
          let y = rest_again old new more N (not_none old new c.nets added) n u x.0 t (gone ++ front) (gone' ++ d.front) back d.back rest rest' (before + m.more) behind (lies_second new gone' d.front d.back rest' at') d.second longer' first x.1 taken in
          (y.0, with_nets_by (length old) more (SameRange old new) N (AreGrownBy old new added) t y.0 y.1 (some_grown old new c.nets added t.nets y.0.nets y.1.nets), (x.0, d.front, d.back, d.whole, x.2, y.2));
    }

text_other : (old gone words front back : List Place) (rest : List Lexeme) (n : ℕ) (s u t : Parsed) → Lies old gone words rest → words ≡ front ++ back → (i : IsStatement s front (put back rest) (More u)) → statement_of i.word.word ≢ Nets → TextCuts old (gone ++ front) back rest n u t → TextCuts old gone words rest (suc n) s t
text_other old gone words front back rest n s u t lies e i other r =
    let at = subst (λ (v : List Place). Lies old gone v rest) e lies in
    record {
      cuts = cuts_behind front r.cuts;
      last = last_behind front r.cuts r.last;
      whole = behind_words front r.cuts r.last ∙ ap (λ (v : List Place). front ++ v) r.whole ∙ sym e;
      closes = behind_closes front (or_none t.nets) r.cuts r.closes;
      filled = behind_filled front r.cuts r.filled;
      again = λ new more before added s' gone' words' rest' longer many options bytes lies' first h.
          let d = split words' (bytes_of front) (with_words r.cuts r.last added) (bytes ∙ behind_with front r.cuts r.last added) in
          let at' = subst (λ (v : List Place). Lies new gone' v rest') d.whole lies' in
          let begins : SameFirst false (first_of (put back rest)) (first_of (put d.back rest')) =
          subst (λ (v : List Place). SameFirst false (first_of (put v rest)) (first_of (put d.back rest'))) r.whole (filled_first r.cuts r.last added d.back rest rest' r.filled d.second first) in
          let x = other_again old new gone gone' front d.front (put back rest) (put d.back rest') more before AreNone s s' (More u) (lies_first old gone front back rest at) (lies_first new gone' d.front d.back rest' at') d.first longer begins h i other in
          let m = on_more (IsParsedBy (length old) more (SameRange old new) AreNone) (λ y. (statement s').takes d.front (put d.back rest') y) u x.0 x.1 x.2 in
          let longer' : IsLonger old new (gone ++ front) (gone' ++ d.front) more before = record {
            long = longer.long;
            behind = omega (arith, longer.behind, same_length d.front (bytes_of front) d.first, bytes_length front, length-append gone front, length-append gone' d.front);
          } in
          let y = r.again new more before added m.0 (gone' ++ d.front) d.back rest' longer' (many ∙ behind_length front r.cuts) options d.second (lies_second new gone' d.front d.back rest' at') first m.1 in
          (y.0, y.1, (m.0, d.front, d.back, d.whole, m.2, y.2));
    }

pub text_cuts : (old gone words : List Place) (rest : List Lexeme) (n : ℕ) (s t : Parsed) → Lies old gone words rest → s.total ≡ length old → s.nets ≡ None → Turns statement n s words rest t → TextCuts old gone words rest n s t
text_cuts old gone words rest zero s t lies all none taken = text_end old gone words rest s t lies all none taken
text_cuts old gone words rest (suc n) s t lies all none taken =
    let at = subst (λ (v : List Place). Lies old gone v rest) taken.3 lies in
    let i = statement_turn s taken.1 (put taken.2 rest) (More taken.0) taken.4 in
    go i (is_nets (statement_of i.word.word)) (lies_first old gone taken.1 taken.2 rest at) (λ kept read. text_cuts old (gone ++ taken.1) taken.2 rest n taken.0 t (lies_second old gone taken.1 taken.2 rest at) kept read taken.5)
  where
    go : (i : IsStatement s taken.1 (put taken.2 rest) (More taken.0)) → (statement_of i.word.word ≡ Nets) ⊎ (statement_of i.word.word ≢ Nets) → Lies old gone taken.1 (put taken.2 rest)
        → (taken.0.total ≡ length old → taken.0.nets ≡ None → TextCuts old (gone ++ taken.1) taken.2 rest n taken.0 t) → TextCuts old gone words rest (suc n) s t
    go i (inl is) at more = text_nets old gone words taken.1 taken.2 rest n s taken.0 t lies all taken.3 (section_cuts old gone taken.1 (put taken.2 rest) s taken.0 at all i is) taken.5
    go i (inr other) at more =
        let k = keeps old gone taken.1 (put taken.2 rest) s (More taken.0) at all i other in
        text_other old gone words taken.1 taken.2 rest n s taken.0 t lies taken.3 i other (more k.all (k.nets ∙ none))
