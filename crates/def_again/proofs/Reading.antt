-- A DEF text that is read is read again, with further wiring of nets before their closing `;`.
use Rattle.std.proofs.Common.{◌≡◌, ℕ, ◌+◌, true, List, [], ◌∷◌, ◌++◌, length, Ok, refl, ap, sym, ◌∙◌, subst, arith, append-nil}
use Rattle.std.specs.List.{AllZip}
use Rattle.std.proofs.lemmas.Slice.Zip.{AllZip-long}
use Rattle.rt_forms.specs.Lexeme.{Lexeme, End, Place, put, is_end}
use Rattle.rt_forms.specs.Reading.{left_of}
use Rattle.rt_forms.specs.Form.{Turns}
use Rattle.written.specs.Cuts.{with_words}
use Rattle.def_text.specs.declared.def.Def.{Def}
use Rattle.def_text.specs.declared.def.DefNet.{DefNet}
use Rattle.def_text.specs.declared.statements.Parsed.{Parsed}
use Rattle.def_text.specs.Texts.{nothing_read, statement, finished, a_def, def_form}
use Rattle.same_words.specs.States.{IsParsedBy}
use Rattle.def_again.specs.Again.{IsClose}
use Rattle.def_again.specs.Reread.{IsReread}
use Rattle.same_words.proofs.Combining.{left_put}
use Rattle.def_again.proofs.Lists.{same_length}
use Rattle.def_again.proofs.Items.{SameRange}
use Rattle.def_again.proofs.Frames.{IsLonger}
use Rattle.def_again.proofs.Cutting.{is_more}
use Rattle.def_again.proofs.NetsSection.{AreNone}
use Rattle.def_again.proofs.Loop.{text_cuts}
use Rattle.def_again.proofs.Finishing.{is_finished, finish_again}

-- the statements of a text, and its end
record IsDefRead (words : List Place) (rest : List Lexeme) (d : Def) : Type 0 where
  total : ℕ
  turns : ℕ
  state : Parsed
  all : total ≡ length words
  taken : Turns statement turns (nothing_read total) words rest state
  ends : finished state ≡ Ok d

def_taken : (words : List Place) (line : ℕ) (d : Def) → def_form.takes words (End line ∷ []) d → IsDefRead words (End line ∷ []) d
unfolding a_def
def_taken words line d h =
    let rest : List Lexeme = End line ∷ [] in
    let a = h.4 in
    let l = a.5 in
    let n = h.5 in
    let none_behind : h.2 ≡ [] = n.3 ∙ ap (λ (v : List Place). v ++ n.2) n.4.0 ∙ n.5.0 in
    let none_before : h.1 ≡ a.2 = a.3 ∙ ap (λ (v : List Place). v ++ a.2) a.4.0 in
    let none_last : a.2 ≡ l.1 = l.3 ∙ ap (λ (v : List Place). l.1 ++ v) l.5.0 ∙ append-nil l.1 in
    let whole : words ≡ l.1 = h.3 ∙ ap (λ (v : List Place). h.1 ++ v) none_behind ∙ append-nil h.1 ∙ none_before ∙ none_last in
    let t = subst (λ (v : List Place). Turns statement l.4.0 (nothing_read a.0) l.1 (put v (put h.2 rest)) l.0) l.5.0 l.4.1 in
    let u = subst (λ (v : List Place). Turns statement l.4.0 (nothing_read a.0) l.1 (put v rest) l.0) none_behind t in
    let said = n.5.1 in
    let same : h.0 ≡ d = cc in
    record {
      total = a.0;
      turns = l.4.0;
      state = l.0;
      all = omega (arith, a.4.1, left_put a.2 (put h.2 rest), left_put h.2 rest, ap length none_behind, ap length none_last, ap length whole);
      taken = subst (λ (v : List Place). Turns statement l.4.0 (nothing_read a.0) v rest l.0) (sym whole) u;
      ends = l.5.1 ∙ ap Ok same;
    }

def_takes : (words : List Place) (rest : List Lexeme) (total n : ℕ) (s : Parsed) (d : Def) → left_of (put words rest) ≡ total → is_end rest ≡ true → Turns statement n (nothing_read total) words rest s → finished s ≡ Ok d → def_form.takes words rest d
unfolding a_def
def_takes words rest total n s d all ends taken says =
    (d, words, [], sym (append-nil words), (total, [], words, refl, (refl, all), (s, words, [], sym (append-nil words), (n, taken), (refl, says))), (tt, [], [], refl, (refl, ends), (refl, refl)))

pub reread : (words : List Place) (line : ℕ) (d : Def) → def_form.takes words (End line ∷ []) d → IsReread words d
reread words line d h =
    let r = def_taken words line d h in
    let f = is_finished r.state d r.ends in
    let c = text_cuts words [] words (End line ∷ []) r.turns (nothing_read r.total) r.state (record { line = line; whole = refl }) r.all refl r.taken in
    let closes = subst (λ (v : List DefNet). AllZip IsClose v c.cuts) (sym (ap (λ (x : Def). x.nets) f.same)) c.closes in
    record {
      cuts = c.cuts;
      last = c.last;
      whole = c.whole;
      closes = closes;
      again = λ added many options words' line' bytes.
          let m = is_more c.cuts c.last added in
          let long : length words' ≡ length words + m.more = omega (arith, same_length words' (with_words c.cuts c.last added) bytes, m.long, ap length c.whole) in
          let total = length words + m.more in
          let begins : IsParsedBy (length words) m.more (SameRange words words') AreNone (nothing_read r.total) (nothing_read total) = record {
            all = r.all;
            all' = refl;
            units = refl;
            die = refl;
            tracks = refl;
            vias = tt;
            components = refl;
            pins = refl;
            blockages = refl;
            special = tt;
            nets = record { first = refl; second = refl };
            skipped = refl;
          } in
          let longer : IsLonger words words' [] [] m.more 0 = record { long = long; behind = omega arith } in
          let x = c.again words' m.more 0 added (nothing_read total) [] words' (End line' ∷ []) longer many options bytes (record { line = line'; whole = refl }) tt begins in
          let e = finish_again words words' added (length words) m.more r.state x.0 d x.1 f (many ∙ AllZip-long IsClose d.nets c.cuts closes) in
          (e.0, def_takes words' (End line' ∷ []) total r.turns x.0 e.0 (omega (arith, left_put words' (End line' ∷ []), long)) refl x.2 e.1, e.2);
    }
