-- The section NETS, with wiring that is put in.
use Rattle.std.proofs.Common.{◌≡◌, ℕ, ◌+◌, false, List, [], ◌∷◌, ◌++◌, length, All, zip, Option, Some, None, Ok, refl, ap, sym, ◌∙◌, subst, arith, append-nil, length-append}
use Rattle.std.specs.List.{AllZip}
use Rattle.rt_forms.specs.Lexeme.{Lexeme, Place, put, first_of}
use Rattle.rt_forms.specs.Form.{Turn, More, Done, Turns}
use Rattle.written.specs.Cuts.{Cut, cut_words, bytes_of, with_words}
use Rattle.def_text.specs.declared.kinds.Statement.{Statement}
use Rattle.def_text.specs.declared.kinds.Statement.TheVariants.{Nets}
use Rattle.def_text.specs.declared.def.DefNet.{DefNet}
use Rattle.def_text.specs.declared.sections.Listed.{Listed}
use Rattle.def_text.specs.declared.statements.Parsed.{Parsed}
use Rattle.def_text.specs.Kinds.{statement_of}
use Rattle.def_text.specs.Parts.{once}
use Rattle.def_text.specs.Sections.{said_count}
use Rattle.def_text.specs.Texts.{nets_section, statement_by, statement}
use Rattle.same_words.specs.Same.{SameFirst}
use Rattle.same_words.specs.Values.{Equal}
use Rattle.same_words.specs.States.{IsParsedBy}
use Rattle.same_words.proofs.Parts.{same_said_count}
use Rattle.def_again.specs.Again.{IsOption, IsClose, IsNetAgain}
use Rattle.def_again.proofs.Lists.{same_length, bytes_length, split, split_one, Lies, lies_first, lies_second}
use Rattle.def_again.proofs.Items.{SameRange}
use Rattle.def_again.proofs.Frames.{IsLonger, taken_again, IsFilled, filled_first}
use Rattle.def_again.proofs.Section.{more_nets, net_cuts}
use Rattle.def_again.proofs.Cutting.{cuts_behind, last_behind, behind_words, behind_with, behind_length, behind_closes, behind_filled}
use Rattle.def_again.proofs.Statements.{IsStatement, turn_of_statement}

-- ---- the section, part by part

abbrev no_nets : Parsed → Listed DefNet
no_nets s = record { names = []; items = []; skipped = s.skipped }

abbrev with_nets : Parsed → Listed DefNet → Parsed
with_nets s l = record s { nets = Some l.items; skipped = l.skipped }

record IsNetsSection (s : Parsed) (words : List Place) (rest : List Lexeme) (t : Turn Parsed) : Type 0 where
  none : s.nets ≡ None
  said : ℕ
  front : List Place
  back : List Place
  whole : words ≡ front ++ back
  counted : said_count.takes front (put back rest) said
  turns : ℕ
  listed : Listed DefNet
  taken : Turns (more_nets s.total said) turns (no_nets s) back rest listed
  turn : t ≡ More (with_nets s listed)

once_none : (o : Option (List DefNet)) (w : Place) (a : Unit {0}) → once o w ≡ Ok a → o ≡ None
once_none None w a h = refl
once_none (Some x) w a h = absurd cc

nets_taken : (w : Place) (s : Parsed) (words : List Place) (rest : List Lexeme) (t : Turn Parsed) → (nets_section w s).takes words rest t → IsNetsSection s words rest t
unfolding nets_section
nets_taken w s words rest t h =
    let c = h.5 in
    let l = c.5 in
    let whole : c.2 ≡ l.1 = l.3 ∙ ap (λ (v : List Place). l.1 ++ v) l.5.0 ∙ append-nil l.1 in
    let taken = subst (λ (v : List Place). Turns (more_nets s.total c.0) l.4.0 (no_nets s) l.1 (put v rest) l.0) l.5.0 l.4.1 in
    let ended = l.5.1 in
    record {
      none = once_none s.nets w h.0 h.4.1;
      said = c.0;
      front = c.1;
      back = c.2;
      whole = h.3 ∙ ap (λ (v : List Place). v ++ h.2) h.4.0 ∙ c.3;
      counted = c.4;
      turns = l.4.0;
      listed = l.0;
      taken = subst (λ (v : List Place). Turns (more_nets s.total c.0) l.4.0 (no_nets s) v rest l.0) (sym whole) taken;
      turn = cc;
    }

-- NETS stands where no nets were read before, and reading goes on behind it
pub nets_before : (s : Parsed) (words : List Place) (rest : List Lexeme) (t : Turn Parsed) → (i : IsStatement s words rest t) → statement_of i.word.word ≡ Nets → s.nets ≡ None
nets_before s words rest t i is = (nets_taken i.word s i.behind rest t (subst (λ (kind : Statement). (statement_by kind i.word s).takes i.behind rest t) is i.taken)).none

pub nets_go_on : (s : Parsed) (words : List Place) (rest : List Lexeme) (t : Parsed) → (i : IsStatement s words rest (Done t)) → statement_of i.word.word ≡ Nets → ⊥
nets_go_on s words rest t i is = let e = (nets_taken i.word s i.behind rest (Done t) (subst (λ (kind : Statement). (statement_by kind i.word s).takes i.behind rest (Done t)) is i.taken)).turn in cc

once_ok : (o : Option (List DefNet)) (w : Place) → o ≡ None → once o w ≡ Ok tt
once_ok None w h = refl
once_ok (Some x) w h = absurd cc

nets_takes : (w : Place) (s : Parsed) (said n : ℕ) (front back : List Place) (rest : List Lexeme) (listed : Listed DefNet) → s.nets ≡ None → said_count.takes front (put back rest) said → Turns (more_nets s.total said) n (no_nets s) back rest listed
    → (nets_section w s).takes (front ++ back) rest (More (with_nets s listed))
unfolding nets_section
nets_takes w s said n front back rest listed none counted taken =
    (tt, [], front ++ back, refl, (refl, once_ok s.nets w none), (said, front, back, refl, counted, (listed, back, [], sym (append-nil back), (n, taken), (refl, refl))))

-- ---- cuts

-- no nets were read of both
pub record AreNone (o o' : Option (List DefNet)) : Type 0 where
  pub first : o ≡ None
  pub second : o' ≡ None

-- nets of both, the same but for what was put in
pub record AreNetsGrown (old new : List Place) (nets : List DefNet) (added : List (List (List ℕ))) (o o' : Option (List DefNet)) : Type 0 where
  pub nets' : List DefNet
  pub first : o ≡ Some nets
  pub second : o' ≡ Some nets'
  pub again : AllZip (λ (m : DefNet × List (List ℕ)) n. IsNetAgain old new m.1 m.0 n) (zip nets added) nets'

-- where NETS is cut, and that words may be put in there
pub record SectionCuts (old gone front : List Place) (rest : List Lexeme) (s u : Parsed) : Type 0 where
  pub cuts : List Cut
  pub last : List Place
  pub nets : List DefNet
  pub whole : cut_words cuts last ≡ front
  pub read : u.nets ≡ Some nets
  pub all : u.total ≡ s.total
  pub closes : AllZip IsClose nets cuts
  pub filled : IsFilled cuts
  pub again : (new : List Place) (more before : ℕ) (added : List (List (List ℕ))) (s' : Parsed) (gone' front' : List Place) (rest' : List Lexeme) → IsLonger old new gone gone' more before → length added ≡ length cuts → All IsOption added
      → bytes_of front' ≡ with_words cuts last added → Lies new gone' front' rest' → SameFirst false (first_of rest) (first_of rest') → IsParsedBy (length old) more (SameRange old new) AreNone s s'
      → (u' : Parsed) × IsParsedBy (length old) more (SameRange old new) (AreNetsGrown old new nets added) u u' × (statement s').takes front' rest' (More u')

pub section_cuts : (old gone front : List Place) (rest : List Lexeme) (s u : Parsed) → Lies old gone front rest → s.total ≡ length old → (i : IsStatement s front rest (More u)) → statement_of i.word.word ≡ Nets → SectionCuts old gone front rest s u
section_cuts old gone front rest s u lies all i is =
    let w = i.word in
    let k = nets_taken w s i.behind rest (More u) (subst (λ (kind : Statement). (statement_by kind w s).takes i.behind rest (More u)) is i.taken) in
    let whole : front ≡ w ∷ k.front ++ k.back = i.whole ∙ ap (λ (v : List Place). w ∷ v) k.whole in
    let at = lies_second old gone (w ∷ []) (k.front ++ k.back) rest (subst (λ (v : List Place). Lies old gone v rest) whole lies) in
    let at_front = lies_first old (gone ++ w ∷ []) k.front k.back rest at in
    let at_back = lies_second old (gone ++ w ∷ []) k.front k.back rest at in
    let r = net_cuts old (gone ++ w ∷ [] ++ k.front) k.back rest k.said k.turns (no_nets s) k.listed at_back (subst (λ (n : ℕ). Turns (more_nets n k.said) k.turns (no_nets s) k.back rest k.listed) all k.taken) in
    let is_turn : u ≡ with_nets s k.listed = let t = k.turn in cc in
    let items : k.listed.items ≡ r.nets = r.items in
    record {
      cuts = cuts_behind (w ∷ k.front) r.cuts;
      last = last_behind (w ∷ k.front) r.cuts r.last;
      nets = r.nets;
      whole = behind_words (w ∷ k.front) r.cuts r.last ∙ ap (λ (v : List Place). w ∷ k.front ++ v) r.whole ∙ sym whole;
      read = ap (λ (v : Parsed). v.nets) is_turn ∙ ap Some items;
      all = ap (λ (v : Parsed). v.total) is_turn;
      closes = behind_closes (w ∷ k.front) r.nets r.cuts r.closes;
      filled = behind_filled (w ∷ k.front) r.cuts r.filled;
      again = λ new more before added s' gone' front' rest' longer many options bytes lies' first h.
          let others = with_words r.cuts r.last added in
          let a = split_one front' w.word (bytes_of k.front ++ others) (bytes ∙ behind_with (w ∷ k.front) r.cuts r.last added) in
          let b = split a.back (bytes_of k.front) others a.second in
          let w' = a.place in
          let whole' : front' ≡ w' ∷ (b.front ++ b.back) = a.whole ∙ ap (λ (v : List Place). w' ∷ v) b.whole in
          let at' = lies_second new gone' (w' ∷ []) (b.front ++ b.back) rest' (subst (λ (v : List Place). Lies new gone' v rest') whole' lies') in
          let at_front' = lies_first new (gone' ++ w' ∷ []) b.front b.back rest' at' in
          let at_back' = lies_second new (gone' ++ w' ∷ []) b.front b.back rest' at' in
          let one : length (gone' ++ w' ∷ []) ≡ length (gone ++ w ∷ []) + before = omega (arith, longer.behind, length-append gone (w ∷ []), length-append gone' (w' ∷ [])) in
          let longer_front : IsLonger old new (gone ++ w ∷ []) (gone' ++ w' ∷ []) more before = record { long = longer.long; behind = one } in
          let as_long = same_length b.front (bytes_of k.front) b.first in
          let longer_back : IsLonger old new (gone ++ w ∷ [] ++ k.front) (gone' ++ w' ∷ [] ++ b.front) more before = record {
            long = longer.long;
            behind = omega (arith, one, as_long, bytes_length k.front, length-append (gone ++ w ∷ []) k.front, length-append (gone' ++ w' ∷ []) b.front);
          } in
          let begins : SameFirst false (first_of (put k.back rest)) (first_of (put b.back rest')) =
          subst (λ (v : List Place). SameFirst false (first_of (put v rest)) (first_of (put b.back rest'))) r.whole (filled_first r.cuts r.last added b.back rest rest' r.filled b.second first) in
          let c = taken_again old new (gone ++ w ∷ []) (gone' ++ w' ∷ []) k.front b.front (put k.back rest) (put b.back rest') more before Equal said_count said_count k.said at_front at_front' b.first longer_front begins same_said_count k.counted in
          let counted = subst (λ (n : ℕ). said_count.takes b.front (put b.back rest') n) c.1 c.2 in
          let z = r.again new more before added (no_nets s') (gone' ++ w' ∷ [] ++ b.front) b.back rest' longer_back (many ∙ behind_length (w ∷ k.front) r.cuts) options b.second at_back' first (record { names = refl; many = refl; skipped = h.skipped }) in
          let g = z.1 in
          let turns = subst (λ (n : ℕ). Turns (more_nets n k.said) k.turns (no_nets s') b.back rest' z.0) (sym h.all') z.2 in
          let taken = nets_takes w' s' k.said k.turns b.front b.back rest' z.0 h.nets.second counted turns in
          let is' : statement_of w'.word ≡ Nets = ap statement_of a.first ∙ is in
          let by : (statement_by (statement_of w'.word) w' s').takes (b.front ++ b.back) rest' (More (with_nets s' z.0)) = subst (λ (kind : Statement). (statement_by kind w' s').takes (b.front ++ b.back) rest' (More (with_nets s' z.0))) (sym is') taken in
          let turn = turn_of_statement s' w' (b.front ++ b.back) rest' (More (with_nets s' z.0)) by in
          let fits : IsParsedBy (length old) more (SameRange old new) (AreNetsGrown old new r.nets added) (with_nets s k.listed) (with_nets s' z.0) = record {
            all = h.all;
            all' = h.all';
            units = h.units;
            die = h.die;
            tracks = h.tracks;
            vias = h.vias;
            components = h.components;
            pins = h.pins;
            blockages = h.blockages;
            special = h.special;
            nets = record { nets' = g.nets'; first = ap Some items; second = ap Some g.items'; again = g.again };
            skipped = g.skipped;
          } in (
            with_nets s' z.0,
            subst (λ (v : Parsed). IsParsedBy (length old) more (SameRange old new) (AreNetsGrown old new r.nets added) v (with_nets s' z.0)) (sym is_turn) fits,
            subst (λ (v : List Place). (statement s').takes v rest' (More (with_nets s' z.0))) (sym whole') turn,
          );
    }
