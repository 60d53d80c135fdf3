-- The loop of NETS, with wiring that is put in before the closing `;` of its nets.
use Rattle.std.proofs.Common.{◌≡◌, ℕ, zero, suc, ◌+◌, ◌<◌, true, false, List, [], ◌∷◌, ◌++◌, length, All, zip, codes, refl, ap, sym, ◌∙◌, subst, arith, append_assoc, append-nil, length-append}
use Rattle.std.specs.List.{AllZip}
use Rattle.std.proofs.lemmas.List.Elements.{All-head, All-tail}
use Rattle.rt_forms.specs.Lexeme.{Lexeme, Place, put, first_of}
use Rattle.rt_forms.specs.Reading.{left_of}
use Rattle.rt_forms.specs.Form.{Form, Turn, More, Done, Turns}
use Rattle.written.specs.Cuts.{Cut, cut_words, bytes_of, with_words}
use Rattle.def_text.specs.declared.error.DefError.{DefError}
use Rattle.def_text.specs.declared.def.DefNet.{DefNet}
use Rattle.def_text.specs.declared.sections.Listed.{Listed}
use Rattle.def_text.specs.Sections.{section_end, more_items}
use Rattle.def_text.specs.Nets.{net_item}
use Rattle.same_words.specs.Same.{SameFirst}
use Rattle.same_words.specs.Values.{Equal}
use Rattle.same_words.proofs.Parts.{same_section_end}
use Rattle.def_again.specs.Again.{IsOption, IsClose, IsNetAgain}
use Rattle.same_words.proofs.Combining.{left_put}
use Rattle.def_again.proofs.Lists.{same_length, bytes_length, split, split_one, Lies, lies_first, lies_second, lies_left}
use Rattle.def_again.proofs.Items.{ends_item, IsItemGrown, opens_item}
use Rattle.def_again.proofs.Turns.{item_turn, end_turn, turn_of_item, turn_of_end}
use Rattle.def_again.proofs.Frames.{frame_of, holds_moved, in_frame, IsLonger, taken_again, IsFilled}

-- lists of as many items
pub record AreAlike (l l' : Listed DefNet) : Type 0 where
  pub names : l'.names ≡ l.names
  pub many : length l'.items ≡ length l.items
  pub skipped : l'.skipped ≡ l.skipped

-- the nets that lists got, the same but for what was put in
pub record AreGrown (old new : List Place) (nets : List DefNet) (added : List (List (List ℕ))) (t l' t' : Listed DefNet) : Type 0 where
  pub nets' : List DefNet
  pub items' : t'.items ≡ l'.items ++ nets'
  pub again : AllZip (λ (m : DefNet × List (List ℕ)) n. IsNetAgain old new m.1 m.0 n) (zip nets added) nets'
  pub skipped : t'.skipped ≡ t.skipped

abbrev pub more_nets : ℕ → ℕ → Listed DefNet → Form DefError (Turn (Listed DefNet))
more_nets total said l = more_items (codes "NETS") said (net_item total) l

-- where a section's nets are cut, and that words may be put in there
pub record NetCuts (old gone front : List Place) (rest : List Lexeme) (said n : ℕ) (l t : Listed DefNet) : Type 0 where
  pub cuts : List Cut
  pub last : List Place
  pub nets : List DefNet
  pub whole : cut_words cuts last ≡ front
  pub items : t.items ≡ l.items ++ nets
  pub closes : AllZip IsClose nets cuts
  pub filled : IsFilled cuts
  pub again : (new : List Place) (more before : ℕ) (added : List (List (List ℕ))) (l' : Listed DefNet) (gone' front' : List Place) (rest' : List Lexeme) → IsLonger old new gone gone' more before → length added ≡ length cuts → All IsOption added
      → bytes_of front' ≡ with_words cuts last added → Lies new gone' front' rest' → SameFirst false (first_of rest) (first_of rest') → AreAlike l l'
      → (t' : Listed DefNet) × AreGrown old new nets added t l' t' × Turns (more_nets (length old + more) said) n l' front' rest' t'

same_last : (xs : List DefNet) (a b : DefNet) → xs ++ a ∷ [] ≡ xs ++ b ∷ [] → a ≡ b
same_last [] a b e = cc
same_last (x ∷ xs) a b e = same_last xs a b cc

-- ---- the last turn

cuts_end : (old gone front : List Place) (rest : List Lexeme) (said : ℕ) (l t : Listed DefNet) → Lies old gone front rest → (more_nets (length old) said l).takes front rest (Done t) → NetCuts old gone front rest said zero l t
cuts_end old gone front rest said l t lies h =
    let e = end_turn (codes "NETS") said (net_item (length old)) l t front rest h in
    record {
      cuts = [];
      last = front;
      nets = [];
      whole = refl;
      items = ap (λ (x : Listed DefNet). x.items) e.same ∙ sym (append-nil l.items);
      closes = tt;
      filled = tt;
      again = λ new more before added l' gone' front' rest' longer many options bytes lies' first alike.
          let s = split_one front' e.word.word (bytes_of e.behind) (bytes ∙ ap bytes_of e.whole) in
          let at = lies_second old gone (e.word ∷ []) e.behind rest (subst (λ (v : List Place). Lies old gone v rest) e.whole lies) in
          let at' = lies_second new gone' (s.place ∷ []) s.back rest' (subst (λ (v : List Place). Lies new gone' v rest') s.whole lies') in
          let longer' : IsLonger old new (gone ++ e.word ∷ []) (gone' ++ s.place ∷ []) more before = record { long = longer.long; behind = omega (arith, longer.behind, length-append gone (e.word ∷ []), length-append gone' (s.place ∷ [])) } in
          let found = length l.items in
          let x = taken_again old new (gone ++ e.word ∷ []) (gone' ++ s.place ∷ []) e.behind s.back rest rest' more before Equal (section_end (codes "NETS") said found) (section_end (codes "NETS") said found) tt at at' s.second longer' first (same_section_end (codes "NETS") said found) e.taken in
          let taken = subst (λ (k : ℕ). (section_end (codes "NETS") said k).takes s.back rest' tt) (sym alike.many) x.2 in
          let turn = turn_of_end (codes "NETS") said (net_item (length old + more)) l' s.place s.back rest' (s.first ∙ e.is_end) taken in (
            l',
            record { nets' = []; items' = sym (append-nil l'.items); again = tt; skipped = alike.skipped ∙ sym (ap (λ (x : Listed DefNet). x.skipped) e.same) },
            subst (λ (v : List Place). (more_nets (length old + more) said l').takes v rest' (Done l')) (sym s.whole) turn,
          );
    }

-- ---- a turn with an item

-- an item, cut before its closing `;`
record ItemCut (old gone front : List Place) (rest : List Lexeme) (said : ℕ) (l u : Listed DefNet) : Type 0 where
  cut : Cut
  net : DefNet
  whole : front ≡ cut.before ++ cut.mark ∷ []
  items : u.items ≡ l.items ++ net ∷ []
  close : IsClose net cut
  filled : 0 < length cut.before
  again : (new : List Place) (more before : ℕ) (added : List (List ℕ)) (l' : Listed DefNet) (gone' front' : List Place) (rest' : List Lexeme) → IsLonger old new gone gone' more before → IsOption added
      → bytes_of front' ≡ bytes_of cut.before ++ added ++ cut.mark.word ∷ [] → Lies new gone' front' rest' → l'.names ≡ l.names → l'.skipped ≡ l.skipped
      → (u' : Listed DefNet) × IsItemGrown old new added l l' u u' × (more_nets (length old + more) said l').takes front' rest' (More u')

item_cut : (old gone front : List Place) (rest : List Lexeme) (said : ℕ) (l u : Listed DefNet) → Lies old gone front rest → (more_nets (length old) said l).takes front rest (More u) → ItemCut old gone front rest said l u
item_cut old gone front rest said l u lies h =
    let i = item_turn (codes "NETS") said (net_item (length old)) l u front rest h in
    let e = (ends_item (length old) l).last i.behind rest u i.taken in
    let mark = e.mark in
    let c = e.fits in
    let whole : front ≡ i.dash ∷ e.before ++ mark ∷ [] = i.whole ∙ ap (λ (v : List Place). i.dash ∷ v) e.whole in
    let at = lies_second old gone (i.dash ∷ []) (e.before ++ mark ∷ []) rest (subst (λ (v : List Place). Lies old gone v rest) whole lies) in
    let inside = lies_first old (gone ++ i.dash ∷ []) e.before (mark ∷ []) rest at in
    let taken = subst (λ (v : List Place). (net_item (length old) l).takes v rest u) e.whole i.taken in
    record {
      cut = record { before = i.dash ∷ e.before; mark = mark };
      net = c.net;
      whole = whole;
      items = c.items;
      close = record { place = c.place; semicolon = c.semicolon };
      filled = omega arith;
      again = λ new more before added l' gone' front' rest' longer option bytes lies' names skipped.
          let s = split_one front' i.dash.word (bytes_of e.before ++ added ++ mark.word ∷ []) bytes in
          let gone_to = gone' ++ s.place ∷ [] in
          let at' = lies_second new gone' (s.place ∷ []) s.back rest' (subst (λ (v : List Place). Lies new gone' v rest') s.whole lies') in
          let p = split s.back (bytes_of e.before) (added ++ mark.word ∷ []) (s.second ∙ append_assoc (bytes_of e.before) added (mark.word ∷ [])) in
          let inside' = lies_first new gone_to p.front p.back rest' (subst (λ (v : List Place). Lies new gone_to v rest') p.whole at') in
          let f = frame_of old (gone ++ i.dash ∷ []) e.before more before true in
          let behind : length gone_to ≡ length (gone ++ i.dash ∷ []) + before = omega (arith, longer.behind, length-append gone (i.dash ∷ []), length-append gone' (s.place ∷ [])) in
          let holds = holds_moved old new (gone ++ i.dash ∷ []) gone_to e.before p.front (put (mark ∷ []) rest) (put p.back rest') more before true inside inside' p.first behind in
          let o = opens_item old new f added holds refl option (sym longer.long) l l' names skipped in
          let many = lies_left old (gone ++ i.dash ∷ []) e.before (put (mark ∷ []) rest) inside in
          let many' = lies_left new gone_to s.back rest' at' in
          let words = same_length s.back (bytes_of e.before ++ added ++ mark.word ∷ []) s.second in
          let left : left_of rest' + (before + length added) ≡ left_of rest + more =
          omega (arith, many, many', words, behind, longer.long, length-append (bytes_of e.before ++ added) (mark.word ∷ []), length-append (bytes_of e.before) added, bytes_length e.before, left_put (mark ∷ []) rest) in
          let x = o.again gone_to e.before s.back mark rest rest' u c.semicolon s.second (in_frame old (gone ++ i.dash ∷ []) e.before (put (mark ∷ []) rest) more before true inside) left at' taken in
          let turn = turn_of_item (codes "NETS") said (net_item (length old + more)) l' x.0 s.place s.back rest' (s.first ∙ i.is_dash) x.2 in
          (x.0, x.1, subst (λ (v : List Place). (more_nets (length old + more) said l').takes v rest' (More x.0)) (sym s.whole) turn);
    }

-- ---- all turns

cuts_more : (old gone front item back : List Place) (rest : List Lexeme) (said n : ℕ) (l u t : Listed DefNet) → front ≡ item ++ back → ItemCut old gone item (put back rest) said l u → NetCuts old (gone ++ item) back rest said n u t → NetCuts old gone front rest said (suc n) l t
cuts_more old gone front item back rest said n l u t e i r =
    let before_words = i.cut.before in
    let mark = i.cut.mark in
    record {
      cuts = i.cut ∷ r.cuts;
      last = r.last;
      nets = i.net ∷ r.nets;
      whole = ap (λ (v : List Place). before_words ++ mark ∷ v) r.whole ∙ sym (append_assoc before_words (mark ∷ []) back) ∙ ap (λ (v : List Place). v ++ back) (sym i.whole) ∙ sym e;
      items = r.items ∙ ap (λ (v : List DefNet). v ++ r.nets) i.items ∙ append_assoc l.items (i.net ∷ []) r.nets;
      closes = (i.close, r.closes);
      filled = i.filled;
      again = again;
    }
  where
    again : (new : List Place) (more before : ℕ) (added : List (List (List ℕ))) (l' : Listed DefNet) (gone' front' : List Place) (rest' : List Lexeme) → IsLonger old new gone gone' more before → length added ≡ length (i.cut ∷ r.cuts) → All IsOption added
        → bytes_of front' ≡ with_words (i.cut ∷ r.cuts) r.last added → Lies new gone' front' rest' → SameFirst false (first_of rest) (first_of rest') → AreAlike l l'
        → (t' : Listed DefNet) × AreGrown old new (i.net ∷ r.nets) added t l' t' × Turns (more_nets (length old + more) said) (suc n) l' front' rest' t'
    again new more before [] l' gone' front' rest' longer many options bytes lies' first alike = absurd (omega arith)
    again new more before (words ∷ added) l' gone' front' rest' longer many options bytes lies' first alike =
        let w = with_words r.cuts r.last added in
        let s = split front' (bytes_of i.cut.before ++ words ++ i.cut.mark.word ∷ []) w (bytes ∙ sym (append_assoc (bytes_of i.cut.before ++ words) (i.cut.mark.word ∷ []) w)) in
        let at' = subst (λ (v : List Place). Lies new gone' v rest') s.whole lies' in
        let x = i.again new more before words l' gone' s.front (put s.back rest') longer (All-head IsOption words added options) s.first (lies_first new gone' s.front s.back rest' at') alike.names alike.skipped in
        let g = x.1 in
        let u' = x.0 in
        let alike' : AreAlike u u' = record {
          names = g.names;
          many = omega (arith, alike.many, ap length g.items, ap length g.items', length-append l.items (g.net ∷ []), length-append l'.items (g.net' ∷ []));
          skipped = g.skipped;
        } in
        let long = same_length s.front (bytes_of i.cut.before ++ words ++ i.cut.mark.word ∷ []) s.first in
        let longer' : IsLonger old new (gone ++ item) (gone' ++ s.front) more (before + length words) = record {
          long = longer.long;
          behind = omega (arith, longer.behind, long, ap length i.whole, length-append i.cut.before (i.cut.mark ∷ []), length-append gone item, length-append gone' s.front, length-append (bytes_of i.cut.before ++ words) (i.cut.mark.word ∷ []), length-append (bytes_of i.cut.before) words, bytes_length i.cut.before);
        } in
        let y = r.again new more (before + length words) added u' (gone' ++ s.front) s.back rest' longer' (omega (arith, many)) (All-tail IsOption words added options) s.second (lies_second new gone' s.front s.back rest' at') first alike' in
        let k = y.1 in (
          y.0,
          record {
            nets' = g.net' ∷ k.nets';
            items' = k.items' ∙ ap (λ (v : List DefNet). v ++ k.nets') g.items' ∙ append_assoc l'.items (g.net' ∷ []) k.nets';
            again = (subst (λ (m : DefNet). IsNetAgain old new words m g.net') (same_last l.items g.net i.net (sym g.items ∙ i.items)) g.again, k.again);
            skipped = k.skipped;
          },
          (u', s.front, s.back, s.whole, x.2, y.2),
        )

pub net_cuts : (old gone front : List Place) (rest : List Lexeme) (said n : ℕ) (l t : Listed DefNet) → Lies old gone front rest → Turns (more_nets (length old) said) n l front rest t → NetCuts old gone front rest said n l t
net_cuts old gone front rest said zero l t lies h = cuts_end old gone front rest said l t lies h
net_cuts old gone front rest said (suc n) l t lies h =
    let at = subst (λ (v : List Place). Lies old gone v rest) h.3 lies in
    cuts_more old gone front h.1 h.2 rest said n l h.0 t h.3 (item_cut old gone h.1 (put h.2 rest) said l h.0 (lies_first old gone h.1 h.2 rest at) h.4)
    (net_cuts old (gone ++ h.1) h.2 rest said n h.0 t (lies_second old gone h.1 h.2 rest at) h.5)
